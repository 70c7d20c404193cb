use Rattle.std.proofs.Common.{◌≡◌, Err, refl}
use Rattle.act_terms.specs.Common.{given_trades_of}
use Rattle.act_terms.proofs.WithoutWant.{given_up}
use Rattle.act_terms.proofs.common.given_trades.Goals as goal

pub returns-in_err-purchase : goal.returns-in_err-purchase
unfolding given_trades_of
returns-in_err-purchase c =
    let is : c.from_residual.result ≡ Err c.in_err-purchase.field-0.0 = given_up _ _ c.from_residual.ensures.1 in
    rw (← c.in_err-purchase.ensures) is

pub returns-in_err-purchase_price : goal.returns-in_err-purchase_price
unfolding given_trades_of
returns-in_err-purchase_price c =
    let is : c.from_residual-in_err-purchase_price.result ≡ Err c.in_err-purchase_price.field-0.0 = given_up _ _ c.from_residual-in_err-purchase_price.ensures.1 in
    rw (← c.in_ok-purchase.ensures, ← c.in_err-purchase_price.ensures) is

pub returns-in_err-termination : goal.returns-in_err-termination
unfolding given_trades_of
returns-in_err-termination c =
    let is : c.from_residual-in_err-termination.result ≡ Err c.in_err-termination.field-0.0 = given_up _ _ c.from_residual-in_err-termination.ensures.1 in
    rw (← c.in_ok-purchase.ensures, ← c.in_ok-purchase_price.ensures, ← c.in_err-termination.ensures) is

pub returns-in_err-termination_price : goal.returns-in_err-termination_price
unfolding given_trades_of
returns-in_err-termination_price c =
    let is : c.from_residual-in_err-termination_price.result ≡ Err c.in_err-termination_price.field-0.0 = given_up _ _ c.from_residual-in_err-termination_price.ensures.1 in
    rw (← c.in_ok-purchase.ensures, ← c.in_ok-purchase_price.ensures, ← c.in_ok-termination.ensures, ← c.in_err-termination_price.ensures) is

pub returns : goal.returns
unfolding given_trades_of
returns c =
    rw (
      ← c.in_ok-purchase.ensures,
      ← c.in_ok-purchase_price.ensures,
      ← c.in_ok-termination.ensures,
      ← c.in_ok-termination_price.ensures,
      c.unwrap_or.ensures,
      c.unwrap_or-2.ensures,
    ) refl
