use Rattle.std.proofs.Common.{◌≡◌, Err, refl}
use Rattle.act_terms.specs.Swap.{plain_interest_of}
use Rattle.act_terms.proofs.WithoutWant.{given_up}
use Rattle.act_terms.proofs.swap.read_plain_interest.Goals as goal

pub returns-in_err-rate : goal.returns-in_err-rate
unfolding plain_interest_of
returns-in_err-rate c =
    let is : c.from_residual.result ≡ Err c.in_err-rate.field-0.0 = given_up _ _ c.from_residual.ensures.1 in
    record { interest = rw (← c.decimal.ensures, ← c.in_err-rate.ensures) is; cycle = rw is tt }

pub returns-in_err-rate2 : goal.returns-in_err-rate2
unfolding plain_interest_of
returns-in_err-rate2 c =
    let is : c.from_residual-in_err-rate2.result ≡ Err c.in_err-rate2.field-0.0 = given_up _ _ c.from_residual-in_err-rate2.ensures.1 in
    record { interest = rw (← c.decimal.ensures, ← c.in_ok-rate.ensures, ← c.in_err-rate2.ensures) is; cycle = rw is tt }

pub returns-in_err-day_count : goal.returns-in_err-day_count
unfolding plain_interest_of
returns-in_err-day_count c =
    let is : c.from_residual-in_err-day_count.result ≡ Err c.in_err-day_count.field-0.0 = given_up _ _ c.from_residual-in_err-day_count.ensures.1 in
    record { interest = rw (← c.decimal.ensures, ← c.in_ok-rate.ensures, ← c.in_ok-rate2.ensures, ← c.choice_in.ensures, ← c.in_err-day_count.ensures) is; cycle = rw is tt }

pub returns-in_err-anchor : goal.returns-in_err-anchor
unfolding plain_interest_of
returns-in_err-anchor c =
    let is : c.from_residual-in_err-anchor.result ≡ Err c.in_err-anchor.field-0.0 = given_up _ _ c.from_residual-in_err-anchor.ensures.1 in
    record { interest = rw (← c.decimal.ensures, ← c.in_ok-rate.ensures, ← c.in_ok-rate2.ensures, ← c.choice_in.ensures, ← c.in_ok-day_count.ensures, ← c.in_err-anchor.ensures) is; cycle = rw is tt }

pub returns-in_err-cycle : goal.returns-in_err-cycle
unfolding plain_interest_of
returns-in_err-cycle c =
    let is : c.from_residual-in_err-cycle.result ≡ Err c.in_err-cycle.field-0.0 = given_up _ _ c.from_residual-in_err-cycle.ensures.1 in
    record { interest = rw (← c.decimal.ensures, ← c.in_ok-rate.ensures, ← c.in_ok-rate2.ensures, ← c.choice_in.ensures, ← c.in_ok-day_count.ensures, ← c.in_ok-anchor.ensures, ← c.in_err-cycle.ensures.cycle) is; cycle = rw is tt }

pub returns : goal.returns
unfolding plain_interest_of
returns c = record { interest = rw (← c.decimal.ensures, ← c.in_ok-rate.ensures, ← c.in_ok-rate2.ensures, ← c.choice_in.ensures, ← c.in_ok-day_count.ensures, ← c.in_ok-anchor.ensures, ← c.in_ok-cycle.ensures.cycle, c.unwrap_or.ensures, c.unwrap_or-2.ensures) refl; cycle = c.in_ok-cycle.ensures.leads_on }
