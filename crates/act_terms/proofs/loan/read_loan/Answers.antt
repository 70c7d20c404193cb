use Rattle.std.proofs.Common.{◌≡◌, Err, refl}
use Rattle.act_terms.specs.Loan.{loan_of}
use Rattle.act_terms.proofs.WithoutWant.{given_up}
use Rattle.act_terms.proofs.loan.read_loan.Goals as goal

pub returns-in_err-notional_principal : goal.returns-in_err-notional_principal
unfolding loan_of
returns-in_err-notional_principal c =
    let is : c.from_residual.result ≡ Err c.in_err-notional_principal.field-0.0 = given_up _ _ c.from_residual.ensures.1 in
    record { refused = rw is (λ read. rw (← c.not_negative.ensures, ← c.in_err-notional_principal.ensures) refl); read = rw is tt; cycles = rw is tt }

pub returns-in_err-interest : goal.returns-in_err-interest
unfolding loan_of
returns-in_err-interest c =
    let is : c.from_residual-in_err-interest.result ≡ Err c.in_err-interest.field-0.0 = given_up _ _ c.from_residual-in_err-interest.ensures.1 in
    record { refused = rw is (λ read. rw (← c.not_negative.ensures, ← c.in_ok-notional_principal.ensures, ← c.in_err-interest.ensures) refl); read = rw is tt; cycles = rw is tt }

pub returns-in_err-dates : goal.returns-in_err-dates
unfolding loan_of
returns-in_err-dates c =
    let is : c.from_residual-in_err-dates.result ≡ Err c.in_err-dates.field-0.0 = given_up _ _ c.from_residual-in_err-dates.ensures.1 in
    record { refused = rw is (λ read. rw (← c.not_negative.ensures, ← c.in_ok-notional_principal.ensures, ← c.in_ok-interest.ensures, ← c.in_err-dates.ensures.dates) refl); read = rw is tt; cycles = rw is tt }

pub returns-in_err-rate_reset : goal.returns-in_err-rate_reset
unfolding loan_of
returns-in_err-rate_reset c =
    let is : c.from_residual-in_err-rate_reset.result ≡ Err c.in_err-rate_reset.field-0.0 = given_up _ _ c.from_residual-in_err-rate_reset.ensures.1 in
    record { refused = rw is (λ read. rw (← c.not_negative.ensures, ← c.in_ok-notional_principal.ensures, ← c.in_ok-interest.ensures, ← c.in_ok-dates.ensures.dates, c.in_err-rate_reset.ensures.refused read) refl); read = rw is tt; cycles = rw is tt }

pub returns-in_err-fee : goal.returns-in_err-fee
unfolding loan_of
returns-in_err-fee c =
    let is : c.from_residual-in_err-fee.result ≡ Err c.in_err-fee.field-0.0 = given_up _ _ c.from_residual-in_err-fee.ensures.1 in
    record { refused = rw is (λ read. rw (← c.not_negative.ensures, ← c.in_ok-notional_principal.ensures, ← c.in_ok-interest.ensures, ← c.in_ok-dates.ensures.dates, c.in_ok-rate_reset.ensures.read, ← c.in_err-fee.ensures.fee) refl); read = rw is tt; cycles = rw is tt }

pub returns-in_err-scaling : goal.returns-in_err-scaling
unfolding loan_of
returns-in_err-scaling c =
    let is : c.from_residual-in_err-scaling.result ≡ Err c.in_err-scaling.field-0.0 = given_up _ _ c.from_residual-in_err-scaling.ensures.1 in
    record { refused = rw is (λ read. rw (← c.not_negative.ensures, ← c.in_ok-notional_principal.ensures, ← c.in_ok-interest.ensures, ← c.in_ok-dates.ensures.dates, c.in_ok-rate_reset.ensures.read, ← c.in_ok-fee.ensures.fee, c.in_err-scaling.ensures.refused read) refl); read = rw is tt; cycles = rw is tt }

pub returns-in_err-penalty : goal.returns-in_err-penalty
unfolding loan_of
returns-in_err-penalty c =
    let is : c.from_residual-in_err-penalty.result ≡ Err c.in_err-penalty.field-0.0 = given_up _ _ c.from_residual-in_err-penalty.ensures.1 in
    record { refused = rw is (λ read. rw (← c.not_negative.ensures, ← c.in_ok-notional_principal.ensures, ← c.in_ok-interest.ensures, ← c.in_ok-dates.ensures.dates, c.in_ok-rate_reset.ensures.read, ← c.in_ok-fee.ensures.fee, c.in_ok-scaling.ensures.read, ← c.in_err-penalty.ensures) refl); read = rw is tt; cycles = rw is tt }

pub returns-in_err-reset_code_for : goal.returns-in_err-reset_code_for
unfolding loan_of
returns-in_err-reset_code_for c =
    let is : c.from_residual-in_err-reset_code_for.result ≡ Err c.in_err-reset_code_for.field-0.0 = given_up _ _ c.from_residual-in_err-reset_code_for.ensures.1 in
    record { refused = rw is (λ read. rw (← c.not_negative.ensures, ← c.in_ok-notional_principal.ensures, ← c.in_ok-interest.ensures, ← c.in_ok-dates.ensures.dates, c.in_ok-rate_reset.ensures.read, ← c.in_ok-fee.ensures.fee, c.in_ok-scaling.ensures.read, ← c.in_ok-penalty.ensures, ← c.in_err-reset_code_for.ensures) refl); read = rw is tt; cycles = rw is tt }

pub returns : goal.returns
unfolding loan_of
returns c =
    record {
      read = rw (← c.not_negative.ensures, ← c.in_ok-notional_principal.ensures, ← c.in_ok-interest.ensures, ← c.in_ok-dates.ensures.dates, c.in_ok-rate_reset.ensures.read, ← c.in_ok-fee.ensures.fee, c.in_ok-scaling.ensures.read, ← c.in_ok-penalty.ensures, ← c.in_ok-reset_code_for.ensures) refl;
      refused = tt;
      cycles = record { interest = c.in_ok-dates.ensures.cycle; reset = c.in_ok-rate_reset.ensures.cycle; fee = c.in_ok-fee.ensures.cycle; scaling = c.in_ok-scaling.ensures.cycle };
    }
