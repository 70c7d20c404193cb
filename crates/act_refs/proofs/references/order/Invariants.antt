use Rattle.act_refs.specs.Path.{child_lists}
use Rattle.act_refs.specs.Settled.{AreSettled}
use Rattle.act_refs.proofs.references.order.Given as goal

-- the contracts of all smaller depths are settled
abbrev pub invariant-loop-depth : goal.invariant-loop-depth
invariant-loop-depth l = AreSettled (child_lists l.children) l.depth 0 l.depths.items l.order.items
