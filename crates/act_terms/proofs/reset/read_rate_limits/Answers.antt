use Rattle.std.proofs.Common.{◌≡◌, Err, refl}
use Rattle.act_terms.specs.Loan.{rate_limits_of}
use Rattle.act_terms.proofs.WithoutWant.{given_up}
use Rattle.act_terms.proofs.reset.read_rate_limits.Goals as goal

pub returns-in_err-optional_decimal : goal.returns-in_err-optional_decimal
unfolding rate_limits_of
returns-in_err-optional_decimal c =
    let is : c.from_residual.result ≡ Err c.in_err-optional_decimal.field-0.0 = given_up _ _ c.from_residual.ensures.1 in
    rw (← c.in_err-optional_decimal.ensures) is

pub returns-in_err-optional_decimal-2 : goal.returns-in_err-optional_decimal-2
unfolding rate_limits_of
returns-in_err-optional_decimal-2 c =
    let is : c.from_residual-in_err-optional_decimal-2.result ≡ Err c.in_err-optional_decimal-2.field-0.0 = given_up _ _ c.from_residual-in_err-optional_decimal-2.ensures.1 in
    rw (← c.in_ok-optional_decimal.ensures, ← c.in_err-optional_decimal-2.ensures) is

pub returns-in_err-optional_decimal-3 : goal.returns-in_err-optional_decimal-3
unfolding rate_limits_of
returns-in_err-optional_decimal-3 c =
    let is : c.from_residual-in_err-optional_decimal-3.result ≡ Err c.in_err-optional_decimal-3.field-0.0 = given_up _ _ c.from_residual-in_err-optional_decimal-3.ensures.1 in
    rw (← c.in_ok-optional_decimal.ensures, ← c.in_ok-optional_decimal-2.ensures, ← c.in_err-optional_decimal-3.ensures) is

pub returns-in_err-optional_decimal-4 : goal.returns-in_err-optional_decimal-4
unfolding rate_limits_of
returns-in_err-optional_decimal-4 c =
    let is : c.from_residual-in_err-optional_decimal-4.result ≡ Err c.in_err-optional_decimal-4.field-0.0 = given_up _ _ c.from_residual-in_err-optional_decimal-4.ensures.1 in
    rw (← c.in_ok-optional_decimal.ensures, ← c.in_ok-optional_decimal-2.ensures, ← c.in_ok-optional_decimal-3.ensures, ← c.in_err-optional_decimal-4.ensures) is

pub returns : goal.returns
unfolding rate_limits_of
returns c =
    rw (← c.in_ok-optional_decimal.ensures, ← c.in_ok-optional_decimal-2.ensures, ← c.in_ok-optional_decimal-3.ensures, ← c.in_ok-optional_decimal-4.ensures) refl
