use Rattle.std.proofs.Common.{refl}
use Rattle.act_terms.specs.Exercise.{settlement_period_of}
use Rattle.act_terms.proofs.WithoutWant.{given_up}
use Rattle.act_terms.proofs.exercise.read_settlement_period.Goals as goal

pub returns-in_err-given : goal.returns-in_err-given
unfolding settlement_period_of
returns-in_err-given c = rw (← c.period.ensures, ← c.in_err-given.ensures) (given_up _ _ c.from_residual.ensures.1)

pub returns : goal.returns
unfolding settlement_period_of
returns c = rw (← c.period.ensures, ← c.in_ok-given.ensures, c.unwrap_or.ensures) refl
