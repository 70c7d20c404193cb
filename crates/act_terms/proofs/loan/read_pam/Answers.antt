use Rattle.std.proofs.Common.{◌≡◌, Err, refl}
use Rattle.act_terms.specs.Loan.{pam_of}
use Rattle.act_terms.proofs.WithoutWant.{given_up}
use Rattle.act_terms.proofs.loan.read_pam.Goals as goal

pub returns-in_err-exchange : goal.returns-in_err-exchange
unfolding pam_of
returns-in_err-exchange c =
    let is : c.from_residual.result ≡ Err c.in_err-exchange.field-0.0 = given_up _ _ c.from_residual.ensures.1 in
    record { refused = rw is (λ read. rw (← c.in_err-exchange.ensures) refl); read = rw is tt; cycles = rw is tt }

pub returns-in_err-maturity_date : goal.returns-in_err-maturity_date
unfolding pam_of
returns-in_err-maturity_date c =
    let is : c.from_residual-in_err-maturity_date.result ≡ Err c.in_err-maturity_date.field-0.0 = given_up _ _ c.from_residual-in_err-maturity_date.ensures.1 in
    record { refused = rw is (λ read. rw (← c.in_ok-exchange.ensures, ← c.day_after.ensures, ← c.in_err-maturity_date.ensures) refl); read = rw is tt; cycles = rw is tt }

pub returns-in_err-loan : goal.returns-in_err-loan
unfolding pam_of
returns-in_err-loan c =
    let is : c.from_residual-in_err-loan.result ≡ Err c.in_err-loan.field-0.0 = given_up _ _ c.from_residual-in_err-loan.ensures.1 in
    record { refused = rw is (λ read. rw (← c.in_ok-exchange.ensures, ← c.day_after.ensures, ← c.in_ok-maturity_date.ensures, c.in_err-loan.ensures.refused read) refl); read = rw is tt; cycles = rw is tt }

pub returns : goal.returns
unfolding pam_of
returns c =
    record { read = rw (← c.in_ok-exchange.ensures, ← c.day_after.ensures, ← c.in_ok-maturity_date.ensures, c.in_ok-loan.ensures.read) refl; refused = tt; cycles = c.in_ok-loan.ensures.cycles }
