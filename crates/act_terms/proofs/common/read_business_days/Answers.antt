use Rattle.std.proofs.Common.{refl}
use Rattle.act_terms.specs.Common.{business_days_of}
use Rattle.act_terms.proofs.WithoutWant.{given_up}
use Rattle.act_terms.proofs.common.read_business_days.Goals as goal

pub returns-in_err-calendar : goal.returns-in_err-calendar
unfolding business_days_of
returns-in_err-calendar c = rw (← c.choice_in.ensures, ← c.in_err-calendar.ensures) (given_up _ _ c.from_residual.ensures.1)

pub returns-in_err-convention : goal.returns-in_err-convention
unfolding business_days_of
returns-in_err-convention c = rw (← c.choice_in.ensures, ← c.in_ok-calendar.ensures, ← c.choice_in-2.ensures, ← c.in_err-convention.ensures) (given_up _ _ c.from_residual-in_err-convention.ensures.1)

pub returns-in_err-month_rule : goal.returns-in_err-month_rule
unfolding business_days_of
returns-in_err-month_rule c = rw (← c.choice_in.ensures, ← c.in_ok-calendar.ensures, ← c.choice_in-2.ensures, ← c.in_ok-convention.ensures, ← c.choice_in-3.ensures, ← c.in_err-month_rule.ensures) (given_up _ _ c.from_residual-in_err-month_rule.ensures.1)

pub returns : goal.returns
unfolding business_days_of
returns c = rw (← c.choice_in.ensures, ← c.in_ok-calendar.ensures, ← c.choice_in-2.ensures, ← c.in_ok-convention.ensures, ← c.choice_in-3.ensures, ← c.in_ok-month_rule.ensures, c.unwrap_or.ensures, c.unwrap_or-2.ensures, c.unwrap_or-3.ensures) refl
