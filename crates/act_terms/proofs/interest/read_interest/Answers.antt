use Rattle.std.proofs.Common.{refl}
use Rattle.act_terms.specs.Loan.{interest_of}
use Rattle.act_terms.proofs.WithoutWant.{given_up}
use Rattle.act_terms.proofs.interest.read_interest.Goals as goal

pub returns-in_err-rate : goal.returns-in_err-rate
unfolding interest_of
returns-in_err-rate c = rw (← c.in_err-rate.ensures) (given_up _ _ c.from_residual.ensures.1)

pub returns-in_err-accrued : goal.returns-in_err-accrued
unfolding interest_of
returns-in_err-accrued c = rw (← c.in_ok-rate.ensures, ← c.in_err-accrued.ensures) (given_up _ _ c.from_residual-in_err-accrued.ensures.1)

pub returns-in_err-premium : goal.returns-in_err-premium
unfolding interest_of
returns-in_err-premium c = rw (← c.in_ok-rate.ensures, ← c.in_ok-accrued.ensures, ← c.in_err-premium.ensures) (given_up _ _ c.from_residual-in_err-premium.ensures.1)

pub returns-in_err-day_count : goal.returns-in_err-day_count
unfolding interest_of
returns-in_err-day_count c = rw (← c.in_ok-rate.ensures, ← c.in_ok-accrued.ensures, ← c.in_ok-premium.ensures, ← c.choice_in.ensures, ← c.in_err-day_count.ensures) (given_up _ _ c.from_residual-in_err-day_count.ensures.1)

pub returns : goal.returns
unfolding interest_of
returns c = rw (← c.in_ok-rate.ensures, ← c.in_ok-accrued.ensures, ← c.in_ok-premium.ensures, ← c.choice_in.ensures, ← c.in_ok-day_count.ensures, c.unwrap_or.ensures, c.unwrap_or-2.ensures) refl
