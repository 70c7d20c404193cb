use Rattle.std.proofs.Common.{arith}
use Rattle.act_refs.specs.Path.{child_lists}
use Rattle.act_refs.proofs.Paths.{length-child_lists}
use Rattle.act_refs.proofs.Returning.{leads_back, leads_more, leads_nearer, leads_on, leads_start}
use Rattle.act_refs.proofs.cycle.way_back.Goals as goal

pub children_at-requires-clause-exists : goal.children_at-requires-clause-exists
children_at-requires-clause-exists c = omega (arith, length-child_lists c.args.children.now, c.way.invariant.exists)

pub nearest-requires : goal.nearest-requires
nearest-requires c = λ k d lt.
    omega (arith, length-child_lists c.args.children.now, c.children_at.ensures.exist k d lt, c.requires.distances.count)

pub way-init : goal.way-init
way-init c =
    let size = length-child_lists c.args.children.now in
    rw (c.in_ok-cycle.ensures).items (leads_start (child_lists c.args.children.now) c.args.start c.args.distances.now c.requires.distances (omega arith) c.args.next c.args.distance (omega arith) c.requires.next c.requires.near)

pub way-smaller : goal.way-smaller
way-smaller c =
    let size = length-child_lists c.args.children.now in
    leads_nearer (child_lists c.args.children.now) c.args.start c.args.distances.now c.requires.distances (omega arith) c.way.cycle.items c.way.next c.way.distance c.in-Some.nearer.0 c.in-Some.nearer.1 c.children_at.result.now c.way.invariant c.way-test.true c.children_at.ensures.children (λ k d lt. rw size (c.children_at.ensures.exist k d lt)) c.in-Some.ensures

pub way-preserved : goal.way-preserved
way-preserved c =
    let size = length-child_lists c.args.children.now in
    rw (c.in_ok-push.ensures).items (leads_more (child_lists c.args.children.now) c.args.start c.args.distances.now c.requires.distances (omega arith) c.way.cycle.items c.way.next c.way.distance c.in-Some.nearer.0 c.in-Some.nearer.1 c.children_at.result.now c.way.invariant c.way-test.true c.children_at.ensures.children (λ k d lt. rw size (c.children_at.ensures.exist k d lt)) c.in-Some.ensures)

pub unreachable-requires : goal.unreachable-requires
unreachable-requires c =
    let size = length-child_lists c.args.children.now in
    leads_on (child_lists c.args.children.now) c.args.start c.args.distances.now c.requires.distances (omega arith) c.way.cycle.items c.way.next c.way.distance 0 0 c.children_at.result.now c.way.invariant c.way-test.true c.children_at.ensures.children (λ k d lt. rw size (c.children_at.ensures.exist k d lt)) c.in-None.ensures

pub returns : goal.returns
returns c =
    let size = length-child_lists c.args.children.now in
    leads_back (child_lists c.args.children.now) c.args.start c.args.distances.now c.requires.distances (omega arith) c.way.cycle.items c.way.next c.way.distance c.way.invariant (omega arith)
