use Rattle.std.proofs.Common.{◌≡◌, Err, refl}
use Rattle.act_terms.specs.Redemption.{ann_of}
use Rattle.act_terms.proofs.WithoutWant.{given_up}
use Rattle.act_terms.proofs.redemption.read_ann.Goals as goal

pub returns-in_err-pam : goal.returns-in_err-pam
unfolding ann_of
returns-in_err-pam c =
    let is : c.from_residual.result ≡ Err c.in_err-pam.field-0.0 = given_up _ _ c.from_residual.ensures.1 in
    record { refused = rw is (λ read. rw (c.in_err-pam.ensures.refused read) refl); read = rw is tt; cycles = rw is tt }

pub returns-in_err-dates : goal.returns-in_err-dates
unfolding ann_of
returns-in_err-dates c =
    let is : c.from_residual-in_err-dates.result ≡ Err c.in_err-dates.field-0.0 = given_up _ _ c.from_residual-in_err-dates.ensures.1 in
    record { refused = rw is (λ read. rw (c.in_ok-pam.ensures.read, ← c.in_err-dates.ensures.dates) refl); read = rw is tt; cycles = rw is tt }

pub returns-in_err-payment : goal.returns-in_err-payment
unfolding ann_of
returns-in_err-payment c =
    let is : c.from_residual-in_err-payment.result ≡ Err c.in_err-payment.field-0.0 = given_up _ _ c.from_residual-in_err-payment.ensures.1 in
    record { refused = rw is (λ read. rw (c.in_ok-pam.ensures.read, ← c.in_ok-dates.ensures.dates, ← c.in_err-payment.ensures) refl); read = rw is tt; cycles = rw is tt }

pub returns-in_err-base : goal.returns-in_err-base
unfolding ann_of
returns-in_err-base c =
    let is : c.from_residual-in_err-base.result ≡ Err c.in_err-base.field-0.0 = given_up _ _ c.from_residual-in_err-base.ensures.1 in
    record { refused = rw is (λ read. rw (c.in_ok-pam.ensures.read, ← c.in_ok-dates.ensures.dates, ← c.in_ok-payment.ensures, ← c.in_err-base.ensures.base) refl); read = rw is tt; cycles = rw is tt }

pub returns : goal.returns
unfolding ann_of
returns c =
    record {
      read = rw (c.in_ok-pam.ensures.read, ← c.in_ok-dates.ensures.dates, ← c.in_ok-payment.ensures, ← c.in_ok-base.ensures.base, c.redemption.ensures) refl;
      refused = tt;
      cycles = rw c.redemption.ensures (record { loan = c.in_ok-pam.ensures.cycles; redemption = record { redemption = c.in_ok-dates.ensures.cycle; base = c.in_ok-base.ensures.cycle } });
    }
