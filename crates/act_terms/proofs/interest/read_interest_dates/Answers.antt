use Rattle.std.proofs.Common.{◌≡◌, Err, refl}
use Rattle.act_terms.specs.Loan.{interest_dates_of}
use Rattle.act_terms.proofs.WithoutWant.{given_up}
use Rattle.act_terms.proofs.interest.read_interest_dates.Goals as goal

pub returns-in_err-optional_day : goal.returns-in_err-optional_day
unfolding interest_dates_of
returns-in_err-optional_day c =
    let is : c.from_residual.result ≡ Err c.in_err-optional_day.field-0.0 = given_up _ _ c.from_residual.ensures.1 in
    record { dates = rw (← c.in_err-optional_day.ensures) is; cycle = rw is tt }

pub returns-in_err-optional_cycle : goal.returns-in_err-optional_cycle
unfolding interest_dates_of
returns-in_err-optional_cycle c =
    let is : c.from_residual-in_err-optional_cycle.result ≡ Err c.in_err-optional_cycle.field-0.0 = given_up _ _ c.from_residual-in_err-optional_cycle.ensures.1 in
    record { dates = rw (← c.in_ok-optional_day.ensures, ← c.in_err-optional_cycle.ensures.cycle) is; cycle = rw is tt }

pub returns-in_err-optional_day-2 : goal.returns-in_err-optional_day-2
unfolding interest_dates_of
returns-in_err-optional_day-2 c =
    let is : c.from_residual-in_err-optional_day-2.result ≡ Err c.in_err-optional_day-2.field-0.0 = given_up _ _ c.from_residual-in_err-optional_day-2.ensures.1 in
    record { dates = rw (← c.in_ok-optional_day.ensures, ← c.in_ok-optional_cycle.ensures.cycle, ← c.in_err-optional_day-2.ensures) is; cycle = rw is tt }

pub returns : goal.returns
unfolding interest_dates_of
returns c = record { dates = rw (← c.in_ok-optional_day.ensures, ← c.in_ok-optional_cycle.ensures.cycle, ← c.in_ok-optional_day-2.ensures) refl; cycle = c.in_ok-optional_cycle.ensures.leads_on }
