use Rattle.std.proofs.Common.{arith}
use Rattle.act_refs.specs.Path.{child_lists}
use Rattle.act_refs.proofs.Paths.{length-child_lists}
use Rattle.act_refs.proofs.Peeling.{looked_at, looked_on}
use Rattle.act_refs.proofs.peel.look_at.Goals as goal

pub bounds-next-contract : goal.bounds-next-contract
bounds-next-contract c = omega (arith, c.requires.before.next_count, length-child_lists c.args.children.now)

pub first_unpeeled-place-requires : goal.first_unpeeled-place-requires
first_unpeeled-place-requires c = λ k d lt. omega (arith, c.children_at-list.ensures.exist k d lt, c.requires.before.count, length-child_lists c.args.children.now)

pub bounds-next-contract-2 : goal.bounds-next-contract-2
bounds-next-contract-2 c = omega (arith, c.requires.before.next_count, length-child_lists c.args.children.now)

pub bounds-peeled-contract : goal.bounds-peeled-contract
bounds-peeled-contract c = omega (arith, c.requires.before.count, length-child_lists c.args.children.now)

pub bounds-peeled-contract-then-not-peeled-contract : goal.bounds-peeled-contract-then-not-peeled-contract
bounds-peeled-contract-then-not-peeled-contract c = omega (arith, c.requires.before.count, length-child_lists c.args.children.now)

pub returns-in_ok-push : goal.returns-in_ok-push
returns-in_ok-push c =
    let size = length-child_lists c.args.children.now in
    rw (c.in_ok-push.ensures).items (looked_at (child_lists c.args.children.now) c.args.next.now c.args.peeled.now c.args.queue.now.items c.requires.before c.args.contract (omega (arith, c.requires.exists)) c.children_at-list.result.now c.children_at-list.ensures.children c.first_unpeeled-place.result c.first_unpeeled-place.ensures c.if-place-list.true)

pub returns-else-place-list : goal.returns-else-place-list
returns-else-place-list c =
    let size = length-child_lists c.args.children.now in
    looked_on (child_lists c.args.children.now) c.args.next.now c.args.peeled.now c.args.queue.now.items c.requires.before c.args.contract (omega (arith, c.requires.exists)) c.children_at-list.result.now c.children_at-list.ensures.children c.first_unpeeled-place.result c.first_unpeeled-place.ensures
