use Rattle.std.proofs.Common.{refl}
use Rattle.act_terms.specs.Loan.{penalty_of}
use Rattle.act_terms.proofs.WithoutWant.{given_up}
use Rattle.act_terms.proofs.penalty.read_penalty.Goals as goal

pub returns-in_err-penalty_type : goal.returns-in_err-penalty_type
unfolding penalty_of
returns-in_err-penalty_type c = rw (← c.choice_in.ensures, ← c.in_err-penalty_type.ensures) (given_up _ _ c.from_residual.ensures.1)

pub returns-in_err-rate : goal.returns-in_err-rate
unfolding penalty_of
returns-in_err-rate c = rw (← c.choice_in.ensures, ← c.in_ok-penalty_type.ensures, ← c.in_err-rate.ensures) (given_up _ _ c.from_residual-in_err-rate.ensures.1)

pub returns : goal.returns
unfolding penalty_of
returns c = rw (← c.choice_in.ensures, ← c.in_ok-penalty_type.ensures, ← c.in_ok-rate.ensures, c.unwrap_or.ensures, c.unwrap_or-2.ensures) refl
