use Rattle.std.proofs.Common.{◌≡◌, Err, refl}
use Rattle.act_terms.specs.Credit.{ceg_of}
use Rattle.act_terms.proofs.WithoutWant.{given_up}
use Rattle.act_terms.proofs.credit.read_ceg.Goals as goal

pub returns-in_err-exposure-clause-refused : goal.returns-in_err-exposure-clause-refused
unfolding ceg_of
returns-in_err-exposure-clause-refused c =
    let is : c.from_residual-in_err-exposure.result ≡ Err c.in_err-exposure.field-0.0 = given_up _ _ c.from_residual-in_err-exposure.ensures.1 in
    rw is (λ read. rw (← c.in_ok-maturity_date.ensures, ← c.in_ok-coverage.ensures, ← c.choice_in.ensures, ← c.in_err-exposure.ensures) refl)

pub returns-in_err-credit_event_type_covered-clause-refused : goal.returns-in_err-credit_event_type_covered-clause-refused
unfolding ceg_of
returns-in_err-credit_event_type_covered-clause-refused c =
    let is : c.from_residual-in_err-credit_event_type_covered.result ≡ Err c.in_err-credit_event_type_covered.field-0.0 = given_up _ _ c.from_residual-in_err-credit_event_type_covered.ensures.1 in
    rw is (λ read. rw (← c.in_ok-maturity_date.ensures, ← c.in_ok-coverage.ensures, ← c.choice_in.ensures, ← c.in_ok-exposure.ensures, c.in_err-credit_event_type_covered.ensures.refused read) refl)

pub returns-in_err-settlement_period-clause-refused : goal.returns-in_err-settlement_period-clause-refused
unfolding ceg_of
returns-in_err-settlement_period-clause-refused c =
    let is : c.from_residual-in_err-settlement_period.result ≡ Err c.in_err-settlement_period.field-0.0 = given_up _ _ c.from_residual-in_err-settlement_period.ensures.1 in
    rw is (λ read. rw (← c.in_ok-maturity_date.ensures, ← c.in_ok-coverage.ensures, ← c.choice_in.ensures, ← c.in_ok-exposure.ensures, c.in_ok-credit_event_type_covered.ensures.read, ← c.in_err-settlement_period.ensures) refl)

pub returns-clause-read : goal.returns-clause-read
unfolding ceg_of
returns-clause-read c = rw (← c.in_ok-maturity_date.ensures, ← c.in_ok-coverage.ensures, ← c.choice_in.ensures, ← c.in_ok-exposure.ensures, c.in_ok-credit_event_type_covered.ensures.read, ← c.in_ok-settlement_period.ensures, c.unwrap_or.ensures, c.unwrap_or-2.ensures, c.new.ensures.items) refl
