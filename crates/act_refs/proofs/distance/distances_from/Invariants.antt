use Rattle.std.proofs.Common.{◌-◌, length}
use Rattle.act_refs.specs.Distance.{IsReached}
use Rattle.act_refs.specs.Path.{child_lists}
use Rattle.act_refs.proofs.distance.distances_from.Given as goal

abbrev pub invariant-reached : goal.invariant-reached
invariant-reached l = IsReached (child_lists l.children) l.from l.distances.items l.reached.items l.place

abbrev pub decreases-reached : goal.decreases-reached
decreases-reached l = length l.children - l.place
