use Rattle.std.proofs.Common.{length, arith}
use Rattle.act_refs.specs.Path.{child_lists}
use Rattle.act_refs.proofs.Paths.{length-child_lists}
use Rattle.act_refs.proofs.Turning.{turned_all, turned_exist, turned_more, turned_start, written_back}
use Rattle.act_refs.proofs.graph.parents_of.Goals as goal

pub contracts-init : goal.contracts-init
contracts-init c = record {
  count = (c.in_ok-parents.ensures).count;
  below = turned_start (child_lists c.args.children.now) c.in_ok-parents.parents.items (c.in_ok-parents.ensures).empty;
}

pub contracts-preserved : goal.contracts-preserved
contracts-preserved c =
    let before = c.contracts.parents.items in
    let after = c.add_parent.new.parents in
    let back = written_back c.contracts.parents.len after before (omega arith) (omega arith) in
    rw back (record {
      count = omega arith;
      below = turned_more (child_lists c.args.children.now) (child_lists before) (child_lists after) c.contracts.contract c.children_at.result.now c.contracts.invariant.below (rw c.deref_mut.ensures.value at c.in_ok-add_parent.ensures) c.children_at.ensures.children;
    })

pub returns-clause-turned : goal.returns-clause-turned
returns-clause-turned c =
    let size = length-child_lists c.args.children.now in
    turned_all (child_lists c.args.children.now) (child_lists c.contracts.parents.items) c.contracts.contract (omega arith) c.contracts.invariant.below

pub returns-clause-exist : goal.returns-clause-exist
returns-clause-exist c =
    let size = length-child_lists c.args.children.now in
    let turn = turned_all (child_lists c.args.children.now) (child_lists c.contracts.parents.items) c.contracts.contract (omega arith) c.contracts.invariant.below in
    turned_exist (child_lists c.args.children.now) c.contracts.parents.items (length c.contracts.parents.items) (omega arith) turn
