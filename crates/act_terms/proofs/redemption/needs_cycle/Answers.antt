use Rattle.std.proofs.Common.{refl}
use Rattle.act_terms.proofs.redemption.needs_cycle.Goals as goal
use Rattle.act_terms.proofs.redemption.needs_cycle.Goals.{then-has_maturity, else-has_maturity}

pub returns : goal.returns
returns c =
    elim c.if-has_maturity.branch [
      | then-has_maturity w ↦ rw (w.result-is, w.is_some.ensures, w.if-has_maturity.true) refl
      | else-has_maturity w ↦ rw (w.result-is, w.if-has_maturity.false) refl
    ]
