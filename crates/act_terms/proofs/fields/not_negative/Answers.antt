use Rattle.std.proofs.Common.{pos, refl}
use Rattle.act_terms.specs.Fields.{not_negative}
use Rattle.act_terms.proofs.Bounds.{below, not_below}
use Rattle.act_terms.proofs.WithoutWant.{given_up_field}
use Rattle.act_terms.proofs.fields.not_negative.Goals as goal

pub returns-in_err-found : goal.returns-in_err-found
unfolding not_negative
returns-in_err-found c = rw (← c.in_err-found.ensures) (given_up_field _ _ c.from_residual.ensures.1)

pub returns-in-Some : goal.returns-in-Some
unfolding not_negative
returns-in-Some c =
    let bad = below c.in-Some.found (pos 0) (rw c.lt.ensures at c.if-lt.true) in
    rw (← c.in_ok-found.ensures, c.in-Some.is, bad) refl

pub returns-in-Some-2 : goal.returns-in-Some-2
unfolding not_negative
returns-in-Some-2 c =
    let good = not_below c.in-Some.found (pos 0) (rw c.lt.ensures at c.if-lt.false) in
    rw (← c.in_ok-found.ensures, c.in-Some.is, good) refl

pub returns-in-None : goal.returns-in-None
unfolding not_negative
returns-in-None c = rw (← c.in_ok-found.ensures, c.in-None.is) refl
