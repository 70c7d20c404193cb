use Rattle.std.proofs.Common.{◌≡◌, ℕ, ◌+◌, List, [], ◌∷◌, ◌++◌, get_or, take, subst, ap, ◌∙◌, arith}
use Rattle.std.proofs.lemmas.List.{get_or_default, take_all, take_more}
use Rattle.std.specs.List.{Contains}
use Rattle.act_refs.specs.Distance.{reached_at}
use Rattle.act_refs.specs.Path.{IsChild, child_lists}
use Rattle.act_refs.proofs.Paths.{length-child_lists}
use Rattle.act_refs.proofs.Reaching.{reached_bounds, reached_read, reaches_already, reaches_done, reaches_more}
use Rattle.act_refs.proofs.distance.reach.Goals as goal
use Rattle.act_refs.proofs.distance.reach.Goals.{then-is_none+in_ok-push, else-is_none}

pub children_at-child-items-requires-clause-exists : goal.children_at-child-items-requires-clause-exists
children_at-child-items-requires-clause-exists c =
    let size = length-child_lists c.args.children.now in
    let at = c.index.result.now in
    let reached = c.args.reached.now.items in
    omega (arith, (reached_bounds (child_lists c.args.children.now) (reached_at reached 0).0 c.args.distances.now reached c.args.place c.requires.before at.0 at.1 c.requires.within (reached_read reached c.args.place at c.index.ensures c.requires.within)).0)

pub bounds-distances-child : goal.bounds-distances-child
bounds-distances-child c =
    let size = length-child_lists c.args.children.now in
    omega (arith, c.children_at-child-items.ensures.exist c.loop-child.child-index 0 (omega arith), c.loop-child.invariant.state.count)

pub bounds-distances-child-then-is_none : goal.bounds-distances-child-then-is_none
bounds-distances-child-then-is_none c =
    let size = length-child_lists c.args.children.now in
    omega (arith, c.children_at-child-items.ensures.exist c.loop-child.child-index 0 (omega arith), c.loop-child.invariant.state.count)

pub overflow_add-farther : goal.overflow_add-farther
overflow_add-farther c =
    let size = length-child_lists c.args.children.now in
    let at = c.index.result.now in
    let reached = c.args.reached.now.items in
    omega (arith, (reached_bounds (child_lists c.args.children.now) (reached_at reached 0).0 c.args.distances.now reached c.args.place c.requires.before at.0 at.1 c.requires.within (reached_read reached c.args.place at c.index.ensures c.requires.within)).1, c.requires.numbered)

pub loop-child-preserved : goal.loop-child-preserved
loop-child-preserved c =
    let size = length-child_lists c.args.children.now in
    let graph = child_lists c.args.children.now in
    let from = (reached_at c.args.reached.now.items 0).0 in
    let contract = c.index.result.now.0 in
    let distance = c.index.result.now.1 in
    let items = c.children_at-child-items.result.now in
    let i = c.loop-child.child-index in
    let child = get_or items i 0 in
    let has : Contains items child = (i, c.loop-child-test.true, get_or_default items i child 0 c.loop-child-test.true) in
    let refers : IsChild graph contract child = subst (λ (xs : List ℕ). Contains xs child) c.children_at-child-items.ensures.children has in
    let known = c.is_none.ensures in
    let exists = c.children_at-child-items.ensures.exist i 0 c.loop-child-test.true in
    rw (take_more items i 0 c.loop-child-test.true) (elim c.if-is_none.branch [
      | then-is_none+in_ok-push w ↦
          let pushed : c.if-is_none.reached.items ≡ c.loop-child.reached.items ++ (child, distance + 1) ∷ [] = ap (λ v. v.items) w.reached-is ∙ (w.in_ok-push.ensures).items in
          rw (w.distances-is, pushed) (reaches_more graph from c.loop-child.distances c.loop-child.reached.items c.args.place contract distance child (take i items) c.loop-child.invariant refers (omega (arith, exists)) (grind (arith, w.if-is_none.true)))
      | else-is_none w ↦
          rw (w.distances-is, w.reached-is) (reaches_already graph from c.loop-child.distances c.loop-child.reached.items c.args.place contract distance child (take i items) c.loop-child.invariant (grind (arith, w.if-is_none.false)))
    ])

pub returns : goal.returns
returns c =
    let items = c.children_at-child-items.result.now in
    let all : take c.loop-child.child-index items ≡ items = take_all c.loop-child.child-index items c.loop-child-test.false in
    reaches_done (child_lists c.args.children.now) (reached_at c.args.reached.now.items 0).0 c.loop-child.distances c.loop-child.reached.items c.args.place c.index.result.now.0 c.index.result.now.1 (take c.loop-child.child-index items) c.loop-child.invariant (all ∙ c.children_at-child-items.ensures.children)
