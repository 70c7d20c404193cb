use Rattle.std.proofs.Common.{◌≡◌, pos, Some}
use Rattle.act_credit.proofs.CodesRead.{sum_from}
use Rattle.act_credit.proofs.amounts.worth.Given as goal

abbrev pub invariant-codes : goal.invariant-codes
invariant-codes g l =
    sum_from Some (g.O.Observed.entries l.seen) l.day (Some (pos 0)) l.codes 0
    ≡ sum_from Some (g.O.Observed.entries l.seen) l.day l.sum l.codes l.code-index
