use Rattle.std.proofs.Common.{◌≡◌, pos, Some}
use Rattle.act_credit.proofs.CodesRead.{sum_from}
use Rattle.act_credit.proofs.amounts.market_value.Given as goal

abbrev pub invariant-covered : goal.invariant-covered
invariant-covered g l =
    sum_from (λ contract. contract.market) (g.O.Observed.entries l.seen) l.day (Some (pos 0)) l.covered 0
    ≡ sum_from (λ contract. contract.market) (g.O.Observed.entries l.seen) l.day l.sum l.covered l.contract-index
