use Rattle.std.proofs.Common.{length, ap, arith}
use Rattle.act_refs.specs.Distance.{AreDistancesTo}
use Rattle.act_refs.specs.Path.{child_lists}
use Rattle.act_refs.proofs.Paths.{length-child_lists}
use Rattle.act_refs.proofs.Returning.{nearest_next, next_on_cycle, not_on_cycle, turned_distances}
use Rattle.act_refs.proofs.cycle.cycle_at.Goals as goal

pub nearest-requires : goal.nearest-requires
nearest-requires c = λ k d lt.
    omega (arith, length-child_lists c.args.parents.now, c.children_at.ensures.exist k d lt, (c.in_ok-distances.ensures).count, ap length c.deref.ensures.value)

pub way_back-requires-clause-distances : goal.way_back-requires-clause-distances
way_back-requires-clause-distances c =
    let size = length-child_lists c.args.children.now in
    let size₂ = length-child_lists c.args.parents.now in
    rw c.deref-in-Some.ensures.value (turned_distances (child_lists c.args.children.now) (child_lists c.args.parents.now) c.args.start c.in_ok-distances.distances.items c.requires.turned (omega arith) c.in_ok-distances.ensures)

pub way_back-requires-clause-next : goal.way_back-requires-clause-next
way_back-requires-clause-next c =
    let size = length-child_lists c.args.children.now in
    let size₂ = length-child_lists c.args.parents.now in
    let are : AreDistancesTo (child_lists c.args.children.now) c.args.start c.deref.result.now =
    rw c.deref.ensures.value (turned_distances (child_lists c.args.children.now) (child_lists c.args.parents.now) c.args.start c.in_ok-distances.distances.items c.requires.turned (omega arith) c.in_ok-distances.ensures) in
    nearest_next (child_lists c.args.children.now) c.args.start c.deref.result.now are c.args.start c.in-Some.next c.in-Some.distance c.children_at.result.now c.children_at.ensures.children (λ k d lt. rw size (c.children_at.ensures.exist k d lt)) c.in-Some.ensures

pub returns-in-Some-clause-on_cycle : goal.returns-in-Some-clause-on_cycle
returns-in-Some-clause-on_cycle c =
    let size = length-child_lists c.args.children.now in
    let size₂ = length-child_lists c.args.parents.now in
    let are : AreDistancesTo (child_lists c.args.children.now) c.args.start c.deref.result.now =
    rw c.deref.ensures.value (turned_distances (child_lists c.args.children.now) (child_lists c.args.parents.now) c.args.start c.in_ok-distances.distances.items c.requires.turned (omega arith) c.in_ok-distances.ensures) in
    next_on_cycle (child_lists c.args.children.now) c.args.start c.in-Some.next (nearest_next (child_lists c.args.children.now) c.args.start c.deref.result.now are c.args.start c.in-Some.next c.in-Some.distance c.children_at.result.now c.children_at.ensures.children (λ k d lt. rw size (c.children_at.ensures.exist k d lt)) c.in-Some.ensures)

pub returns-clause-on_cycle : goal.returns-clause-on_cycle
returns-clause-on_cycle c =
    let size = length-child_lists c.args.children.now in
    let size₂ = length-child_lists c.args.parents.now in
    let are : AreDistancesTo (child_lists c.args.children.now) c.args.start c.deref.result.now =
    rw c.deref.ensures.value (turned_distances (child_lists c.args.children.now) (child_lists c.args.parents.now) c.args.start c.in_ok-distances.distances.items c.requires.turned (omega arith) c.in_ok-distances.ensures) in
    not_on_cycle (child_lists c.args.children.now) c.args.start c.deref.result.now are c.children_at.result.now c.children_at.ensures.children (λ k d lt. rw size (c.children_at.ensures.exist k d lt)) c.in-None.ensures
