use Rattle.std.proofs.Common.{◌≡◌, Err, refl}
use Rattle.act_terms.specs.Common.{common_of}
use Rattle.act_terms.proofs.WithoutWant.{given_up}
use Rattle.act_terms.proofs.common.read_common.Goals as goal

pub returns-in_err-position : goal.returns-in_err-position
unfolding common_of
returns-in_err-position c =
    let is : c.from_residual.result ≡ Err c.in_err-position.field-0.0 = given_up _ _ c.from_residual.ensures.1 in
    record { refused = rw is (λ read. rw (← c.in_err-position.ensures) refl); read = rw is tt }

pub returns-in_err-money : goal.returns-in_err-money
unfolding common_of
returns-in_err-money c =
    let is : c.from_residual-in_err-money.result ≡ Err c.in_err-money.field-0.0 = given_up _ _ c.from_residual-in_err-money.ensures.1 in
    record { refused = rw is (λ read. rw (← c.in_ok-position.ensures, c.in_err-money.ensures.refused read) refl); read = rw is tt }

pub returns-in_err-days : goal.returns-in_err-days
unfolding common_of
returns-in_err-days c =
    let is : c.from_residual-in_err-days.result ≡ Err c.in_err-days.field-0.0 = given_up _ _ c.from_residual-in_err-days.ensures.1 in
    record { refused = rw is (λ read. rw (← c.in_ok-position.ensures, c.in_ok-money.ensures.read, ← c.in_err-days.ensures) refl); read = rw is tt }

pub returns-in_err-market_object_code : goal.returns-in_err-market_object_code
unfolding common_of
returns-in_err-market_object_code c =
    let is : c.from_residual-in_err-market_object_code.result ≡ Err c.in_err-market_object_code.field-0.0 = given_up _ _ c.from_residual-in_err-market_object_code.ensures.1 in
    record { refused = rw is (λ read. rw (← c.in_ok-position.ensures, c.in_ok-money.ensures.read, ← c.in_ok-days.ensures, c.in_err-market_object_code.ensures.refused read) refl); read = rw is tt }

pub returns-in_err-trades : goal.returns-in_err-trades
unfolding common_of
returns-in_err-trades c =
    let is : c.from_residual-in_err-trades.result ≡ Err c.in_err-trades.field-0.0 = given_up _ _ c.from_residual-in_err-trades.ensures.1 in
    record { refused = rw is (λ read. rw (← c.in_ok-position.ensures, c.in_ok-money.ensures.read, ← c.in_ok-days.ensures, c.in_ok-market_object_code.ensures.read, ← c.in_err-trades.ensures) refl); read = rw is tt }

pub returns : goal.returns
unfolding common_of
returns c = record { read = rw (← c.in_ok-position.ensures, c.in_ok-money.ensures.read, ← c.in_ok-days.ensures, c.in_ok-market_object_code.ensures.read, ← c.in_ok-trades.ensures) refl; refused = tt }
