use Rattle.std.proofs.Common.{◌≡◌, ◌<◌, ◌++◌, ◌∷◌, [], length, get_or, slice_set, false, true, sym, ap, subst, ◌∙◌, arith}
use Rattle.std.proofs.lemmas.List.{get_or_default, take_all}
use Rattle.act_cones.specs.Cones.{HaveSame}
use Rattle.act_cones.proofs.Reached.{reach-put, reach-skip, same-none, seen-mark, seen-put}
use Rattle.act_cones.proofs.cones.reach.Goals as goal
use Rattle.act_cones.proofs.cones.reach.Goals.{then-one-len+in_ok-push, else-one-len+then-not-index+in_ok-push-2, else-one-len+else-not-index}

pub loop-one-init : goal.loop-one-init
loop-one-init c = record { seen = c.requires.seen; reached = same-none c.args.reached.now.items }

pub loop-one-preserved : goal.loop-one-preserved
loop-one-preserved c =
    let cone = c.args.cone.now in
    let i = c.loop-one.one-index in
    let one = get_or cone i 0 in
    let before = c.args.reached.now.items in
    let put = reach-put before cone c.loop-one.reached.items i c.loop-one-test.true c.loop-one.invariant.reached in
    elim c.if-one-len.branch [
      | then-one-len+in_ok-push w ↦
          let reached : c.if-one-len.reached.items ≡ c.loop-one.reached.items ++ one ∷ [] = ap (λ v. v.items) w.reached-is ∙ w.in_ok-push.ensures.items in
          rw (ap (λ v. v.items) w.seen-is, reached) (record { seen = seen-put c.loop-one.seen.items c.loop-one.reached.items one c.loop-one.invariant.seen; reached = put })
      | else-one-len+then-not-index+in_ok-push-2 w ↦
          let reached : c.if-one-len.reached.items ≡ c.loop-one.reached.items ++ one ∷ [] = ap (λ v. v.items) w.reached-is ∙ w.in_ok-push-2.ensures.items in
          let seen : c.if-one-len.seen.items ≡ slice_set c.loop-one.seen.items one true = ap (λ v. v.items) w.seen-is in
          rw (seen, reached) (record { seen = seen-mark c.loop-one.seen.items c.loop-one.reached.items one (omega (arith, w.if-one-len.false, c.len.ensures)) c.loop-one.invariant.seen; reached = put })
      | else-one-len+else-not-index w ↦
          let within : one < length c.loop-one.seen.items = omega (arith, w.if-one-len.false, c.len.ensures) in
          let there = c.loop-one.invariant.seen one (get_or_default c.loop-one.seen.items one false w.index.result.now within ∙ (sym w.index.ensures ∙ w.if-not-index.false)) in
          rw (ap (λ v. v.items) w.seen-is, ap (λ v. v.items) w.reached-is) (record { seen = c.loop-one.invariant.seen; reached = reach-skip before cone c.loop-one.reached.items i c.loop-one-test.true c.loop-one.invariant.reached there })
    ]

pub returns : goal.returns
returns c = record {
  seen = c.loop-one.invariant.seen;
  reached = subst (λ l. HaveSame c.loop-one.reached.items (c.args.reached.now.items ++ l)) (take_all c.loop-one.one-index c.args.cone.now c.loop-one-test.false) c.loop-one.invariant.reached;
}
