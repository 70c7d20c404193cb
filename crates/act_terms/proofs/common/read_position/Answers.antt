use Rattle.std.proofs.Common.{◌≡◌, Err, refl}
use Rattle.act_terms.specs.Common.{position_of}
use Rattle.act_terms.proofs.WithoutWant.{given_up}
use Rattle.act_terms.proofs.common.read_position.Goals as goal

pub returns-in_err-needed : goal.returns-in_err-needed
unfolding position_of
returns-in_err-needed c =
    let is : c.from_residual.result ≡ Err c.in_err-needed.field-0.0 = given_up _ _ c.from_residual.ensures.1 in
    rw (← c.choice_in.ensures, ← c.in_err-needed.ensures) is

pub returns-in_err-needed_day : goal.returns-in_err-needed_day
unfolding position_of
returns-in_err-needed_day c =
    let is : c.from_residual-in_err-needed_day.result ≡ Err c.in_err-needed_day.field-0.0 = given_up _ _ c.from_residual-in_err-needed_day.ensures.1 in
    rw (← c.choice_in.ensures, ← c.in_ok-needed.ensures, ← c.in_err-needed_day.ensures) is

pub returns : goal.returns
unfolding position_of
returns c = rw (← c.choice_in.ensures, ← c.in_ok-needed.ensures, ← c.in_ok-needed_day.ensures) refl
