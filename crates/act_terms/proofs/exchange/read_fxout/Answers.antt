use Rattle.std.proofs.Common.{◌≡◌, Err, refl}
use Rattle.act_terms.specs.Exchange.{fxout_of}
use Rattle.act_terms.proofs.WithoutWant.{given_up}
use Rattle.act_terms.proofs.exchange.read_fxout.Goals as goal

pub returns-in_err-maturity_date-clause-refused : goal.returns-in_err-maturity_date-clause-refused
unfolding fxout_of
returns-in_err-maturity_date-clause-refused c =
    let is : c.from_residual.result ≡ Err c.in_err-maturity_date.field-0.0 = given_up _ _ c.from_residual.ensures.1 in
    rw is (λ read. rw (← c.in_err-maturity_date.ensures) refl)

pub returns-in_err-notional_principal-clause-refused : goal.returns-in_err-notional_principal-clause-refused
unfolding fxout_of
returns-in_err-notional_principal-clause-refused c =
    let is : c.from_residual-in_err-notional_principal.result ≡ Err c.in_err-notional_principal.field-0.0 = given_up _ _ c.from_residual-in_err-notional_principal.ensures.1 in
    rw is (λ read. rw (← c.in_ok-maturity_date.ensures, ← c.not_negative.ensures, ← c.in_err-notional_principal.ensures) refl)

pub returns-in_err-currency2-clause-refused : goal.returns-in_err-currency2-clause-refused
unfolding fxout_of
returns-in_err-currency2-clause-refused c =
    let is : c.from_residual-in_err-currency2.result ≡ Err c.in_err-currency2.field-0.0 = given_up _ _ c.from_residual-in_err-currency2.ensures.1 in
    rw is (λ read. rw (← c.in_ok-maturity_date.ensures, ← c.not_negative.ensures, ← c.in_ok-notional_principal.ensures, c.in_err-currency2.ensures.refused read) refl)

pub returns-in_err-notional_principal2-clause-refused : goal.returns-in_err-notional_principal2-clause-refused
unfolding fxout_of
returns-in_err-notional_principal2-clause-refused c =
    let is : c.from_residual-in_err-notional_principal2.result ≡ Err c.in_err-notional_principal2.field-0.0 = given_up _ _ c.from_residual-in_err-notional_principal2.ensures.1 in
    rw is (λ read. rw (← c.in_ok-maturity_date.ensures, ← c.not_negative.ensures, ← c.in_ok-notional_principal.ensures, c.in_ok-currency2.ensures.read, ← c.not_negative-2.ensures, ← c.in_err-notional_principal2.ensures) refl)

pub returns-in_err-delivery-clause-refused : goal.returns-in_err-delivery-clause-refused
unfolding fxout_of
returns-in_err-delivery-clause-refused c =
    let is : c.from_residual-in_err-delivery.result ≡ Err c.in_err-delivery.field-0.0 = given_up _ _ c.from_residual-in_err-delivery.ensures.1 in
    rw is (λ read. rw (← c.in_ok-maturity_date.ensures, ← c.not_negative.ensures, ← c.in_ok-notional_principal.ensures, c.in_ok-currency2.ensures.read, ← c.not_negative-2.ensures, ← c.in_ok-notional_principal2.ensures, ← c.choice_in.ensures, ← c.in_err-delivery.ensures) refl)

pub returns-in_err-pair-clause-refused : goal.returns-in_err-pair-clause-refused
unfolding fxout_of
returns-in_err-pair-clause-refused c =
    let is : c.from_residual-in_err-pair.result ≡ Err c.in_err-pair.field-0.0 = given_up _ _ c.from_residual-in_err-pair.ensures.1 in
    rw is (λ read. rw (← c.in_ok-maturity_date.ensures, ← c.not_negative.ensures, ← c.in_ok-notional_principal.ensures, c.in_ok-currency2.ensures.read, ← c.not_negative-2.ensures, ← c.in_ok-notional_principal2.ensures, ← c.choice_in.ensures, ← c.in_ok-delivery.ensures, ← c.unwrap_or-delivery_settlement.ensures, c.in_err-pair.ensures.refused read) refl)

pub returns-clause-read : goal.returns-clause-read
unfolding fxout_of
returns-clause-read c = rw (← c.in_ok-maturity_date.ensures, ← c.not_negative.ensures, ← c.in_ok-notional_principal.ensures, c.in_ok-currency2.ensures.read, ← c.not_negative-2.ensures, ← c.in_ok-notional_principal2.ensures, ← c.choice_in.ensures, ← c.in_ok-delivery.ensures, ← c.unwrap_or-delivery_settlement.ensures, c.in_ok-pair.ensures.read) refl
