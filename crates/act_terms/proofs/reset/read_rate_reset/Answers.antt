use Rattle.std.proofs.Common.{◌≡◌, Err, refl}
use Rattle.act_terms.specs.Loan.{rate_reset_of}
use Rattle.act_terms.proofs.WithoutWant.{given_up}
use Rattle.act_terms.proofs.reset.read_rate_reset.Goals as goal

pub returns-in_err-anchor : goal.returns-in_err-anchor
unfolding rate_reset_of
returns-in_err-anchor c =
    let is : c.from_residual.result ≡ Err c.in_err-anchor.field-0.0 = given_up _ _ c.from_residual.ensures.1 in
    record { refused = rw is (λ read. rw (← c.in_err-anchor.ensures) refl); read = rw is tt; cycle = rw is tt }

pub returns-in_err-cycle : goal.returns-in_err-cycle
unfolding rate_reset_of
returns-in_err-cycle c =
    let is : c.from_residual-in_err-cycle.result ≡ Err c.in_err-cycle.field-0.0 = given_up _ _ c.from_residual-in_err-cycle.ensures.1 in
    record { refused = rw is (λ read. rw (← c.in_ok-anchor.ensures, ← c.in_err-cycle.ensures.cycle) refl); read = rw is tt; cycle = rw is tt }

pub returns-in_err-code : goal.returns-in_err-code
unfolding rate_reset_of
returns-in_err-code c =
    let is : c.from_residual-in_err-code.result ≡ Err c.in_err-code.field-0.0 = given_up _ _ c.from_residual-in_err-code.ensures.1 in
    record { refused = rw is (λ read. rw (← c.in_ok-anchor.ensures, ← c.in_ok-cycle.ensures.cycle, ← c.is_reset.ensures, c.in_err-code.ensures.refused read) refl); read = rw is tt; cycle = rw is tt }

pub returns-in_err-next_reset_rate : goal.returns-in_err-next_reset_rate
unfolding rate_reset_of
returns-in_err-next_reset_rate c =
    let is : c.from_residual-in_err-next_reset_rate.result ≡ Err c.in_err-next_reset_rate.field-0.0 = given_up _ _ c.from_residual-in_err-next_reset_rate.ensures.1 in
    record { refused = rw is (λ read. rw (← c.in_ok-anchor.ensures, ← c.in_ok-cycle.ensures.cycle, ← c.is_reset.ensures, c.in_ok-code.ensures.read, ← c.in_err-next_reset_rate.ensures) refl); read = rw is tt; cycle = rw is tt }

pub returns-in_err-spread : goal.returns-in_err-spread
unfolding rate_reset_of
returns-in_err-spread c =
    let is : c.from_residual-in_err-spread.result ≡ Err c.in_err-spread.field-0.0 = given_up _ _ c.from_residual-in_err-spread.ensures.1 in
    record { refused = rw is (λ read. rw (← c.in_ok-anchor.ensures, ← c.in_ok-cycle.ensures.cycle, ← c.is_reset.ensures, c.in_ok-code.ensures.read, ← c.in_ok-next_reset_rate.ensures, ← c.in_err-spread.ensures) refl); read = rw is tt; cycle = rw is tt }

pub returns-in_err-multiplier : goal.returns-in_err-multiplier
unfolding rate_reset_of
returns-in_err-multiplier c =
    let is : c.from_residual-in_err-multiplier.result ≡ Err c.in_err-multiplier.field-0.0 = given_up _ _ c.from_residual-in_err-multiplier.ensures.1 in
    record { refused = rw is (λ read. rw (← c.in_ok-anchor.ensures, ← c.in_ok-cycle.ensures.cycle, ← c.is_reset.ensures, c.in_ok-code.ensures.read, ← c.in_ok-next_reset_rate.ensures, ← c.in_ok-spread.ensures, ← c.in_err-multiplier.ensures) refl); read = rw is tt; cycle = rw is tt }

pub returns-in_err-limits : goal.returns-in_err-limits
unfolding rate_reset_of
returns-in_err-limits c =
    let is : c.from_residual-in_err-limits.result ≡ Err c.in_err-limits.field-0.0 = given_up _ _ c.from_residual-in_err-limits.ensures.1 in
    record { refused = rw is (λ read. rw (← c.in_ok-anchor.ensures, ← c.in_ok-cycle.ensures.cycle, ← c.is_reset.ensures, c.in_ok-code.ensures.read, ← c.in_ok-next_reset_rate.ensures, ← c.in_ok-spread.ensures, ← c.in_ok-multiplier.ensures, ← c.in_err-limits.ensures) refl); read = rw is tt; cycle = rw is tt }

pub returns : goal.returns
unfolding rate_reset_of
returns c = record { read = rw (← c.in_ok-anchor.ensures, ← c.in_ok-cycle.ensures.cycle, ← c.is_reset.ensures, c.in_ok-code.ensures.read, ← c.in_ok-next_reset_rate.ensures, ← c.in_ok-spread.ensures, ← c.in_ok-multiplier.ensures, ← c.in_ok-limits.ensures, c.unwrap_or.ensures, c.unwrap_or-2.ensures) refl; refused = tt; cycle = c.in_ok-cycle.ensures.leads_on }
