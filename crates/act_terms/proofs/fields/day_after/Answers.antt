use Rattle.std.proofs.Common.{refl}
use Rattle.act_terms.specs.Fields.{day_after}
use Rattle.act_terms.proofs.Bounds.{above, not_above}
use Rattle.act_terms.proofs.WithoutWant.{given_up_field}
use Rattle.act_terms.proofs.fields.day_after.Goals as goal

pub returns-in_err-found : goal.returns-in_err-found
unfolding day_after
returns-in_err-found c = rw (← c.in_err-found.ensures) (given_up_field _ _ c.from_residual.ensures.1)

pub returns-in-Some : goal.returns-in-Some
unfolding day_after
returns-in-Some c =
    let bad = not_above c.in-Some.found c.args.first (rw c.le.ensures at c.if-le.true) in
    rw (← c.in_ok-found.ensures, c.in-Some.is, bad) refl

pub returns-in-Some-2 : goal.returns-in-Some-2
unfolding day_after
returns-in-Some-2 c =
    let good = above c.in-Some.found c.args.first (rw c.le.ensures at c.if-le.false) in
    rw (← c.in_ok-found.ensures, c.in-Some.is, good) refl

pub returns-in-None : goal.returns-in-None
unfolding day_after
returns-in-None c = rw (← c.in_ok-found.ensures, c.in-None.is) refl
