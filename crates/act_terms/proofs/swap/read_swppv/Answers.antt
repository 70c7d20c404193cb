use Rattle.std.proofs.Common.{◌≡◌, Err, refl}
use Rattle.act_terms.specs.Swap.{swppv_of}
use Rattle.act_terms.proofs.WithoutWant.{given_up}
use Rattle.act_terms.proofs.swap.read_swppv.Goals as goal

pub returns-in_err-maturity_date-clause-refused : goal.returns-in_err-maturity_date-clause-refused
unfolding swppv_of
returns-in_err-maturity_date-clause-refused c =
    let is : c.from_residual-in_err-maturity_date.result ≡ Err c.in_err-maturity_date.field-0.0 = given_up _ _ c.from_residual-in_err-maturity_date.ensures.1 in
    rw is (λ read. rw (← c.in_ok-initial_exchange_date.ensures, ← c.day_after.ensures, ← c.in_err-maturity_date.ensures) refl)

pub returns-in_err-notional_principal-clause-refused : goal.returns-in_err-notional_principal-clause-refused
unfolding swppv_of
returns-in_err-notional_principal-clause-refused c =
    let is : c.from_residual-in_err-notional_principal.result ≡ Err c.in_err-notional_principal.field-0.0 = given_up _ _ c.from_residual-in_err-notional_principal.ensures.1 in
    rw is (λ read. rw (← c.in_ok-initial_exchange_date.ensures, ← c.day_after.ensures, ← c.in_ok-maturity_date.ensures, ← c.not_negative.ensures, ← c.in_err-notional_principal.ensures) refl)

pub returns-in_err-interest-clause-refused : goal.returns-in_err-interest-clause-refused
unfolding swppv_of
returns-in_err-interest-clause-refused c =
    let is : c.from_residual-in_err-interest.result ≡ Err c.in_err-interest.field-0.0 = given_up _ _ c.from_residual-in_err-interest.ensures.1 in
    rw is (λ read. rw (← c.in_ok-initial_exchange_date.ensures, ← c.day_after.ensures, ← c.in_ok-maturity_date.ensures, ← c.not_negative.ensures, ← c.in_ok-notional_principal.ensures, ← c.in_err-interest.ensures.interest) refl)

pub returns-in_err-rate_reset-clause-refused : goal.returns-in_err-rate_reset-clause-refused
unfolding swppv_of
returns-in_err-rate_reset-clause-refused c =
    let is : c.from_residual-in_err-rate_reset.result ≡ Err c.in_err-rate_reset.field-0.0 = given_up _ _ c.from_residual-in_err-rate_reset.ensures.1 in
    rw is (λ read. rw (← c.in_ok-initial_exchange_date.ensures, ← c.day_after.ensures, ← c.in_ok-maturity_date.ensures, ← c.not_negative.ensures, ← c.in_ok-notional_principal.ensures, ← c.in_ok-interest.ensures.interest, c.in_err-rate_reset.ensures.refused read) refl)

pub returns-clause-read : goal.returns-clause-read
unfolding swppv_of
returns-clause-read c = rw (← c.in_ok-initial_exchange_date.ensures, ← c.day_after.ensures, ← c.in_ok-maturity_date.ensures, ← c.not_negative.ensures, ← c.in_ok-notional_principal.ensures, ← c.in_ok-interest.ensures.interest, c.in_ok-rate_reset.ensures.read) refl
