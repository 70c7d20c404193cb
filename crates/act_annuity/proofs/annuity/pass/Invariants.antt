use Rattle.std.proofs.Common.{◌≡◌, length, take, reverse, Some}
use Rattle.act_annuity.specs.Passes.{passed}
use Rattle.act_annuity.proofs.annuity.pass.Given as goal

abbrev pub invariant-loop-period : goal.invariant-loop-period
invariant-loop-period l =
    (passed l.change l.fn.start l.fn.r (reverse (take (length l.yielded) (reverse l.periods))) ≡ Some (l.product, l.number)) × (l.factors ≡ l.fn.r)
