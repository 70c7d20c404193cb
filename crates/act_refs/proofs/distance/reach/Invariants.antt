use Rattle.std.proofs.Common.{take}
use Rattle.act_refs.specs.Distance.{reached_at}
use Rattle.act_refs.specs.Path.{child_lists}
use Rattle.act_refs.proofs.Reaching.{ReachesFrom}
use Rattle.act_refs.proofs.distance.reach.Given as goal

abbrev pub invariant-loop-child : goal.invariant-loop-child
invariant-loop-child l =
    ReachesFrom (child_lists l.fn.children) (reached_at l.fn.reached.items 0).0 l.distances l.reached.items l.place l.contract l.distance (take l.child-index l.child-items)
