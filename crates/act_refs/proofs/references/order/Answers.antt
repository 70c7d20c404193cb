use Rattle.std.proofs.Common.{length, IsSome, sym, arith}
use Rattle.std.proofs.lemmas.Option.{MatchOption-at_none, MatchOption-at_some}
use Rattle.std.specs.List.{All}
use Rattle.act_refs.specs.Cycle.{IsReportedCycle}
use Rattle.act_refs.specs.Path.{HasNoCycle, child_lists}
use Rattle.act_refs.proofs.Answering.{settled_deep, settled_no_cycle, settled_order, settled_shallow}
use Rattle.act_refs.proofs.Ordering.{order_of-cycle, order_of-deep, order_of-ordered}
use Rattle.act_refs.proofs.Paths.{length-child_lists}
use Rattle.act_refs.proofs.Settling.{settled-next, settled-start}
use Rattle.act_refs.proofs.Shortening.{children_exist}
use Rattle.act_refs.proofs.Turning.{written_back}
use Rattle.act_refs.proofs.references.order.Goals as goal

pub loop-depth-init : goal.loop-depth-init
loop-depth-init c =
    rw (c.in_ok-depths.ensures, c.new-order.ensures.items) (settled-start (child_lists c.args.children.now) (length c.args.children.now) (sym (length-child_lists c.args.children.now)))

pub loop-depth-preserved : goal.loop-depth-preserved
loop-depth-preserved c =
    let size = length-child_lists c.args.children.now in
    let back = written_back c.loop-depth.depths.len c.settle.new.depths c.loop-depth.depths.items (omega arith) (omega arith) in
    rw back (settled-next (child_lists c.args.children.now) c.loop-depth.depth c.settle.new.depths c.settle.new.order.items (rw size c.in_ok-settle.ensures))

pub returns-in-None-clause-order : goal.returns-in-None-clause-order
returns-in-None-clause-order c =
    settled_order (child_lists c.args.children.now) c.loop-depth.depth c.loop-depth.depths.items c.loop-depth.order.items c.loop-depth.invariant (rw c.deref.ensures.value at c.in-None.ensures)

pub returns-in-None-clause-ok_without_cycle : goal.returns-in-None-clause-ok_without_cycle
returns-in-None-clause-ok_without_cycle c =
    settled_no_cycle (child_lists c.args.children.now) c.loop-depth.depth c.loop-depth.depths.items c.loop-depth.order.items c.loop-depth.invariant (rw c.deref.ensures.value at c.in-None.ensures)

pub returns-in-None-clause-ok_within_limit : goal.returns-in-None-clause-ok_within_limit
returns-in-None-clause-ok_within_limit c =
    settled_shallow (child_lists c.args.children.now) c.loop-depth.depth c.loop-depth.depths.items c.loop-depth.order.items c.loop-depth.invariant (rw c.deref.ensures.value at c.in-None.ensures) (omega arith)

pub returns-clause-too_deep : goal.returns-clause-too_deep
returns-clause-too_deep c =
    settled_deep (child_lists c.args.children.now) c.loop-depth.depth c.loop-depth.depths.items c.loop-depth.order.items c.loop-depth.invariant c.in-Some.contract (omega arith) (rw c.deref.ensures.value at c.in-Some.ensures)

pub returns-in-None-clause-ordered_as : goal.returns-in-None-clause-ordered_as
returns-in-None-clause-ordered_as c =
    let graph = child_lists c.args.children.now in
    let known : All (λ depth. IsSome depth) c.loop-depth.depths.items = rw c.deref.ensures.value at c.in-None.ensures in
    order_of-ordered graph c.loop-depth.order.items
    (settled_order graph c.loop-depth.depth c.loop-depth.depths.items c.loop-depth.order.items c.loop-depth.invariant known)
    (settled_no_cycle graph c.loop-depth.depth c.loop-depth.depths.items c.loop-depth.order.items c.loop-depth.invariant known)
    (settled_shallow graph c.loop-depth.depth c.loop-depth.depths.items c.loop-depth.order.items c.loop-depth.invariant known (omega arith))

pub returns-in-Some-2-clause-cycle_as : goal.returns-in-Some-2-clause-cycle_as
returns-in-Some-2-clause-cycle_as c =
    let graph = child_lists c.args.children.now in
    order_of-cycle graph c.in-Some-2.cycle.items (children_exist c.args.children.now c.requires.children_exist)
    (MatchOption-at_some (HasNoCycle graph) (λ cycle. IsReportedCycle graph cycle.items) c.in-Some-2.cycle c.in-Some-2.is c.in_ok-cycle-in-Some.ensures)

pub returns-clause-too_deep_as : goal.returns-clause-too_deep_as
returns-clause-too_deep_as c =
    let graph = child_lists c.args.children.now in
    order_of-deep graph c.in-Some.contract
    (MatchOption-at_none (HasNoCycle graph) (λ cycle. IsReportedCycle graph cycle.items) c.in-None-2.is c.in_ok-cycle-in-Some.ensures)
    (settled_deep graph c.loop-depth.depth c.loop-depth.depths.items c.loop-depth.order.items c.loop-depth.invariant c.in-Some.contract (omega arith) (rw c.deref.ensures.value at c.in-Some.ensures))
