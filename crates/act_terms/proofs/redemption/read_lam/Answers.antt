use Rattle.std.proofs.Common.{◌≡◌, Err, refl, ◌∙◌}
use Rattle.act_model.specs.declared.terms.Lam.{Lam}
use Rattle.act_terms.specs.Redemption.{lam_of, redemption_with}
use Rattle.act_terms.proofs.Given.{derives}
use Rattle.act_terms.proofs.WithoutWant.{given_up}
use Rattle.act_terms.proofs.redemption.read_lam.Goals as goal

pub returns-in_err-exchange : goal.returns-in_err-exchange
unfolding lam_of
returns-in_err-exchange c =
    let is : c.from_residual.result ≡ Err c.in_err-exchange.field-0.0 = given_up _ _ c.from_residual.ensures.1 in
    record { refused = rw is (λ read. rw (← c.in_err-exchange.ensures) refl); read = rw is tt; built = rw is tt }

pub returns-in_err-maturity_date : goal.returns-in_err-maturity_date
unfolding lam_of
returns-in_err-maturity_date c =
    let is : c.from_residual-in_err-maturity_date.result ≡ Err c.in_err-maturity_date.field-0.0 = given_up _ _ c.from_residual-in_err-maturity_date.ensures.1 in
    record { refused = rw is (λ read. rw (← c.in_ok-exchange.ensures, ← c.day_after.ensures, ← c.in_err-maturity_date.ensures) refl); read = rw is tt; built = rw is tt }

pub returns-in_err-loan : goal.returns-in_err-loan
unfolding lam_of
returns-in_err-loan c =
    let is : c.from_residual-in_err-loan.result ≡ Err c.in_err-loan.field-0.0 = given_up _ _ c.from_residual-in_err-loan.ensures.1 in
    record { refused = rw is (λ read. rw (← c.in_ok-exchange.ensures, ← c.day_after.ensures, ← c.in_ok-maturity_date.ensures, c.in_err-loan.ensures.refused read) refl); read = rw is tt; built = rw is tt }

pub returns-in_err-dates : goal.returns-in_err-dates
unfolding lam_of
returns-in_err-dates c =
    let is : c.from_residual-in_err-dates.result ≡ Err c.in_err-dates.field-0.0 = given_up _ _ c.from_residual-in_err-dates.ensures.1 in
    record { refused = rw is (λ read. rw (← c.in_ok-exchange.ensures, ← c.day_after.ensures, ← c.in_ok-maturity_date.ensures, c.in_ok-loan.ensures.read, ← c.is_some.ensures, ← c.in_err-dates.ensures.dates) refl); read = rw is tt; built = rw is tt }

pub returns-in_err-payment : goal.returns-in_err-payment
unfolding lam_of
returns-in_err-payment c =
    let is : c.from_residual-in_err-payment.result ≡ Err c.in_err-payment.field-0.0 = given_up _ _ c.from_residual-in_err-payment.ensures.1 in
    record { refused = rw is (λ read. rw (← c.in_ok-exchange.ensures, ← c.day_after.ensures, ← c.in_ok-maturity_date.ensures, c.in_ok-loan.ensures.read, ← c.is_some.ensures, ← c.in_ok-dates.ensures.dates, ← c.in_err-payment.ensures.payment) refl); read = rw is tt; built = rw is tt }

pub returns-in_err-base : goal.returns-in_err-base
unfolding lam_of
returns-in_err-base c =
    let is : c.from_residual-in_err-base.result ≡ Err c.in_err-base.field-0.0 = given_up _ _ c.from_residual-in_err-base.ensures.1 in
    record { refused = rw is (λ read. rw (← c.in_ok-exchange.ensures, ← c.day_after.ensures, ← c.in_ok-maturity_date.ensures, c.in_ok-loan.ensures.read, ← c.is_some.ensures, ← c.in_ok-dates.ensures.dates, ← c.in_ok-payment.ensures.payment, ← c.in_err-base.ensures.base) refl); read = rw is tt; built = rw is tt }

pub returns : goal.returns
unfolding lam_of
returns c =
    let lam : Lam = record {
      maturity_date = c.in_ok-maturity_date.maturity_date;
      loan = c.in_ok-loan.loan;
      redemption = redemption_with c.in_ok-dates.dates c.in_ok-base.base;
      next_principal_redemption_payment = c.in_ok-payment.payment;
    } in
    record {
      read = rw (← c.in_ok-exchange.ensures, ← c.day_after.ensures, ← c.in_ok-maturity_date.ensures, c.in_ok-loan.ensures.read, ← c.is_some.ensures, ← c.in_ok-dates.ensures.dates, ← c.in_ok-payment.ensures.payment, ← c.in_ok-base.ensures.base, c.redemption.ensures) refl;
      refused = tt;
      built = rw c.redemption.ensures (
          record {
            cycles = record { loan = c.in_ok-loan.ensures.cycles; redemption = record { redemption = c.in_ok-dates.ensures.cycle; base = c.in_ok-base.ensures.cycle } };
            maturity = derives lam c.in_ok-maturity_date.maturity_date c.in_ok-payment.ensures.above_zero c.in_ok-payment.ensures.given (λ none. c.in_ok-dates.ensures.given (c.is_some.ensures ∙ none));
          }
          );
    }
