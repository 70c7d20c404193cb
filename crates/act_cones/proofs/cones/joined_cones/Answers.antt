use Rattle.std.proofs.Common.{◌≡◌, ℕ, List, ◌<◌, ◌++◌, [], ◌∷◌, get_or, length, map, refl, sym, ap, subst, ◌∙◌}
use Rattle.std.specs.List.{flat_map}
use Rattle.std.proofs.lemmas.List.{take_all}
use Rattle.act_cones.specs.Cones.{AreSeen, HaveSame}
use Rattle.act_cones.proofs.Reached.{child-reached, same-ascending, same-refl, seen-none}
use Rattle.act_cones.proofs.Weighed.{made_at}
use Rattle.act_cones.proofs.cones.joined_cones.Goals as goal

pub loop-child-init : goal.loop-child-init
loop-child-init c =
    let reached : c.push.new.self.items ≡ c.args.contract ∷ [] = c.in_ok-push.ensures.items ∙ ap (λ l. l ++ c.args.contract ∷ []) c.new-reached.ensures.items in
    record {
      seen = subst (λ l. AreSeen l c.push.new.self.items) (sym (c.in_ok-seen.ensures.items_if_clones_equal (λ y same. same))) (seen-none (length c.args.cones.now) c.push.new.self.items);
      reached = rw reached (same-refl (c.args.contract ∷ []));
    }

pub loop-child-preserved : goal.loop-child-preserved
loop-child-preserved c =
    let each : ℕ → List ℕ = λ child. get_or (map (λ v. v.items) c.args.cones.now) child [] in
    let i = c.loop-child.child-index in
    let child = get_or c.args.children.now i 0 in
    let inside : child < length c.args.cones.now = c.requires.children i 0 c.loop-child-test.true in
    let cone : c.deref.result.now ≡ each child = c.deref.ensures.value ∙ (ap (λ v. v.items) c.index-cones-child.is ∙ made_at (λ v. v.items) c.args.cones.now (map (λ v. v.items) c.args.cones.now) child c.index-cones-child.result refl inside) in
    record {
      seen = c.in_ok-reach.ensures.seen;
      reached = child-reached each c.args.contract c.args.children.now c.loop-child.reached.items c.reach.new.reached.items c.loop-child.child-index c.loop-child-test.true c.loop-child.invariant.reached
          (subst (λ l. HaveSame c.reach.new.reached.items (c.loop-child.reached.items ++ l)) cone c.in_ok-reach.ensures.reached);
    }

pub returns : goal.returns
returns c =
    let each : ℕ → List ℕ = λ child. get_or (map (λ v. v.items) c.args.cones.now) child [] in
    c.ascending.ensures ∙ same-ascending c.loop-child.reached.items (c.args.contract ∷ flat_map each c.args.children.now)
    (subst (λ l. HaveSame c.loop-child.reached.items (c.args.contract ∷ flat_map each l)) (take_all c.loop-child.child-index c.args.children.now c.loop-child-test.false) c.loop-child.invariant.reached)
