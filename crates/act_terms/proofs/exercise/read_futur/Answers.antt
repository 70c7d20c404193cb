use Rattle.std.proofs.Common.{refl}
use Rattle.act_terms.specs.Exercise.{futur_of}
use Rattle.act_terms.proofs.WithoutWant.{given_up}
use Rattle.act_terms.proofs.exercise.read_futur.Goals as goal

pub returns-in_err-maturity_date : goal.returns-in_err-maturity_date
unfolding futur_of
returns-in_err-maturity_date c = rw (← c.in_err-maturity_date.ensures) (given_up _ _ c.from_residual.ensures.1)

pub returns-in_err-futures_price : goal.returns-in_err-futures_price
unfolding futur_of
returns-in_err-futures_price c = rw (← c.in_ok-maturity_date.ensures, ← c.decimal.ensures, ← c.in_err-futures_price.ensures) (given_up _ _ c.from_residual-in_err-futures_price.ensures.1)

pub returns-in_err-settlement_period : goal.returns-in_err-settlement_period
unfolding futur_of
returns-in_err-settlement_period c = rw (← c.in_ok-maturity_date.ensures, ← c.decimal.ensures, ← c.in_ok-futures_price.ensures, ← c.in_err-settlement_period.ensures) (given_up _ _ c.from_residual-in_err-settlement_period.ensures.1)

pub returns : goal.returns
unfolding futur_of
returns c = rw (← c.in_ok-maturity_date.ensures, ← c.decimal.ensures, ← c.in_ok-futures_price.ensures, ← c.in_ok-settlement_period.ensures) refl
