use Rattle.std.proofs.Common.{arith}
use Rattle.act_refs.proofs.Paths.{length-child_lists}
use Rattle.act_refs.proofs.peel.look_at_parents.Goals as goal

pub children_at-parent-items-requires-clause-exists : goal.children_at-parent-items-requires-clause-exists
children_at-parent-items-requires-clause-exists c =
    let queued = c.requires.before.queued c.args.place c.index.result.now c.requires.within in
    let size = length-child_lists c.args.children.now in
    omega (arith, queued, c.index.ensures, c.requires.parents_count)
