use Rattle.std.proofs.Common.{◌≡◌, Err}
use Rattle.act_terms.specs.Swap.{capfl_of}
use Rattle.act_terms.proofs.WithoutWant.{given_up}
use Rattle.act_terms.proofs.swap.read_capfl.Goals as goal

pub returns-in_err-maturity_date : goal.returns-in_err-maturity_date
unfolding capfl_of
returns-in_err-maturity_date c =
    let is : c.from_residual.result ≡ Err c.in_err-maturity_date.field-0.0 = given_up _ _ c.from_residual.ensures.1 in
    rw (← c.in_err-maturity_date.ensures) is

pub returns-in_err-life_cap : goal.returns-in_err-life_cap
unfolding capfl_of
returns-in_err-life_cap c =
    let is : c.from_residual-in_err-life_cap.result ≡ Err c.in_err-life_cap.field-0.0 = given_up _ _ c.from_residual-in_err-life_cap.ensures.1 in
    rw (← c.in_ok-maturity_date.ensures, ← c.in_err-life_cap.ensures) is

pub returns-in_err-life_floor : goal.returns-in_err-life_floor
unfolding capfl_of
returns-in_err-life_floor c =
    let is : c.from_residual-in_err-life_floor.result ≡ Err c.in_err-life_floor.field-0.0 = given_up _ _ c.from_residual-in_err-life_floor.ensures.1 in
    rw (← c.in_ok-maturity_date.ensures, ← c.in_ok-life_cap.ensures, ← c.in_err-life_floor.ensures) is

pub returns : goal.returns
unfolding capfl_of
returns c = rw (← c.in_ok-maturity_date.ensures, ← c.in_ok-life_cap.ensures, ← c.in_ok-life_floor.ensures) c.limited.ensures
