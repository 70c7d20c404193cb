use Rattle.std.proofs.Common.{◌≡◌, Err, refl}
use Rattle.act_terms.specs.Loan.{fee_of}
use Rattle.act_terms.proofs.WithoutWant.{given_up}
use Rattle.act_terms.proofs.fee.read_fee.Goals as goal

pub returns-in_err-anchor : goal.returns-in_err-anchor
unfolding fee_of
returns-in_err-anchor c =
    let is : c.from_residual.result ≡ Err c.in_err-anchor.field-0.0 = given_up _ _ c.from_residual.ensures.1 in
    record { fee = rw (← c.in_err-anchor.ensures) is; cycle = rw is tt }

pub returns-in_err-cycle : goal.returns-in_err-cycle
unfolding fee_of
returns-in_err-cycle c =
    let is : c.from_residual-in_err-cycle.result ≡ Err c.in_err-cycle.field-0.0 = given_up _ _ c.from_residual-in_err-cycle.ensures.1 in
    record { fee = rw (← c.in_ok-anchor.ensures, ← c.in_err-cycle.ensures.cycle) is; cycle = rw is tt }

pub returns-in_err-rate : goal.returns-in_err-rate
unfolding fee_of
returns-in_err-rate c =
    let is : c.from_residual-in_err-rate.result ≡ Err c.in_err-rate.field-0.0 = given_up _ _ c.from_residual-in_err-rate.ensures.1 in
    record { fee = rw (← c.in_ok-anchor.ensures, ← c.in_ok-cycle.ensures.cycle, ← c.in_err-rate.ensures) is; cycle = rw is tt }

pub returns-in_err-basis : goal.returns-in_err-basis
unfolding fee_of
returns-in_err-basis c =
    let is : c.from_residual-in_err-basis.result ≡ Err c.in_err-basis.field-0.0 = given_up _ _ c.from_residual-in_err-basis.ensures.1 in
    record { fee = rw (← c.in_ok-anchor.ensures, ← c.in_ok-cycle.ensures.cycle, ← c.in_ok-rate.ensures, ← c.is_some.ensures, ← c.choice_in.ensures, ← c.in_err-basis.ensures) is; cycle = rw is tt }

pub returns-in_err-accrued : goal.returns-in_err-accrued
unfolding fee_of
returns-in_err-accrued c =
    let is : c.from_residual-in_err-accrued.result ≡ Err c.in_err-accrued.field-0.0 = given_up _ _ c.from_residual-in_err-accrued.ensures.1 in
    record { fee = rw (← c.in_ok-anchor.ensures, ← c.in_ok-cycle.ensures.cycle, ← c.in_ok-rate.ensures, ← c.is_some.ensures, ← c.choice_in.ensures, ← c.in_ok-basis.ensures, ← c.in_err-accrued.ensures) is; cycle = rw is tt }

pub returns : goal.returns
unfolding fee_of
returns c = record { fee = rw (← c.in_ok-anchor.ensures, ← c.in_ok-cycle.ensures.cycle, ← c.in_ok-rate.ensures, ← c.is_some.ensures, ← c.choice_in.ensures, ← c.in_ok-basis.ensures, ← c.in_ok-accrued.ensures, c.unwrap_or.ensures) refl; cycle = c.in_ok-cycle.ensures.leads_on }
