use Rattle.std.proofs.Common.{refl}
use Rattle.act_terms.specs.Exercise.{optns_of}
use Rattle.act_terms.proofs.WithoutWant.{given_up}
use Rattle.act_terms.proofs.exercise.read_optns.Goals as goal

pub returns-in_err-maturity_date : goal.returns-in_err-maturity_date
unfolding optns_of
returns-in_err-maturity_date c = rw (← c.in_err-maturity_date.ensures) (given_up _ _ c.from_residual.ensures.1)

pub returns-in_err-option_type : goal.returns-in_err-option_type
unfolding optns_of
returns-in_err-option_type c = rw (← c.in_ok-maturity_date.ensures, ← c.choice_in.ensures, ← c.in_err-option_type.ensures) (given_up _ _ c.from_residual-in_err-option_type.ensures.1)

pub returns-in_err-option_strike1 : goal.returns-in_err-option_strike1
unfolding optns_of
returns-in_err-option_strike1 c = rw (← c.in_ok-maturity_date.ensures, ← c.choice_in.ensures, ← c.in_ok-option_type.ensures, ← c.decimal.ensures, ← c.in_err-option_strike1.ensures) (given_up _ _ c.from_residual-in_err-option_strike1.ensures.1)

pub returns-in_err-option_strike2 : goal.returns-in_err-option_strike2
unfolding optns_of
returns-in_err-option_strike2 c = rw (← c.in_ok-maturity_date.ensures, ← c.choice_in.ensures, ← c.in_ok-option_type.ensures, ← c.decimal.ensures, ← c.in_ok-option_strike1.ensures, ← c.has_two_strikes.ensures, ← c.decimal-2.ensures, ← c.in_err-option_strike2.ensures) (given_up _ _ c.from_residual-in_err-option_strike2.ensures.1)

pub returns-in_err-exercise : goal.returns-in_err-exercise
unfolding optns_of
returns-in_err-exercise c = rw (← c.in_ok-maturity_date.ensures, ← c.choice_in.ensures, ← c.in_ok-option_type.ensures, ← c.decimal.ensures, ← c.in_ok-option_strike1.ensures, ← c.has_two_strikes.ensures, ← c.decimal-2.ensures, ← c.in_ok-option_strike2.ensures, ← c.choice_in-2.ensures, ← c.in_err-exercise.ensures) (given_up _ _ c.from_residual-in_err-exercise.ensures.1)

pub returns-in_err-settlement_period : goal.returns-in_err-settlement_period
unfolding optns_of
returns-in_err-settlement_period c = rw (← c.in_ok-maturity_date.ensures, ← c.choice_in.ensures, ← c.in_ok-option_type.ensures, ← c.decimal.ensures, ← c.in_ok-option_strike1.ensures, ← c.has_two_strikes.ensures, ← c.decimal-2.ensures, ← c.in_ok-option_strike2.ensures, ← c.choice_in-2.ensures, ← c.in_ok-exercise.ensures, ← c.in_err-settlement_period.ensures) (given_up _ _ c.from_residual-in_err-settlement_period.ensures.1)

pub returns : goal.returns
unfolding optns_of
returns c = rw (← c.in_ok-maturity_date.ensures, ← c.choice_in.ensures, ← c.in_ok-option_type.ensures, ← c.decimal.ensures, ← c.in_ok-option_strike1.ensures, ← c.has_two_strikes.ensures, ← c.decimal-2.ensures, ← c.in_ok-option_strike2.ensures, ← c.choice_in-2.ensures, ← c.in_ok-exercise.ensures, ← c.in_ok-settlement_period.ensures, c.unwrap_or.ensures) refl
