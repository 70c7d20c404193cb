use Rattle.std.proofs.Common.{◌≡◌, Err, refl}
use Rattle.act_terms.specs.Redemption.{calculation_base_of}
use Rattle.act_terms.proofs.WithoutWant.{given_up}
use Rattle.act_terms.proofs.redemption.read_calculation_base.Goals as goal

pub returns-in_err-base : goal.returns-in_err-base
unfolding calculation_base_of
returns-in_err-base c =
    let is : c.from_residual.result ≡ Err c.in_err-base.field-0.0 = given_up _ _ c.from_residual.ensures.1 in
    record { base = rw (← c.choice_in.ensures, ← c.in_err-base.ensures) is; cycle = rw is tt }

pub returns-in_err-amount : goal.returns-in_err-amount
unfolding calculation_base_of
returns-in_err-amount c =
    let is : c.from_residual-in_err-amount.result ≡ Err c.in_err-amount.field-0.0 = given_up _ _ c.from_residual-in_err-amount.ensures.1 in
    record { base = rw (← c.choice_in.ensures, ← c.in_ok-base.ensures, ← c.in_err-amount.ensures) is; cycle = rw is tt }

pub returns-in_err-anchor : goal.returns-in_err-anchor
unfolding calculation_base_of
returns-in_err-anchor c =
    let is : c.from_residual-in_err-anchor.result ≡ Err c.in_err-anchor.field-0.0 = given_up _ _ c.from_residual-in_err-anchor.ensures.1 in
    record { base = rw (← c.choice_in.ensures, ← c.in_ok-base.ensures, ← c.in_ok-amount.ensures, ← c.in_err-anchor.ensures) is; cycle = rw is tt }

pub returns-in_err-cycle : goal.returns-in_err-cycle
unfolding calculation_base_of
returns-in_err-cycle c =
    let is : c.from_residual-in_err-cycle.result ≡ Err c.in_err-cycle.field-0.0 = given_up _ _ c.from_residual-in_err-cycle.ensures.1 in
    record { base = rw (← c.choice_in.ensures, ← c.in_ok-base.ensures, ← c.in_ok-amount.ensures, ← c.in_ok-anchor.ensures, ← c.in_err-cycle.ensures.cycle) is; cycle = rw is tt }

pub returns : goal.returns
unfolding calculation_base_of
returns c =
    record {
      base = rw (← c.choice_in.ensures, ← c.in_ok-base.ensures, ← c.in_ok-amount.ensures, ← c.in_ok-anchor.ensures, ← c.in_ok-cycle.ensures.cycle, c.unwrap_or.ensures) refl;
      cycle = c.in_ok-cycle.ensures.leads_on;
    }
