use Rattle.act_refs.specs.Path.{child_lists}
use Rattle.act_refs.proofs.Returning.{LeadsTo}
use Rattle.act_refs.proofs.cycle.way_back.Given as goal

abbrev pub invariant-way : goal.invariant-way
invariant-way l = LeadsTo (child_lists l.children) l.start l.distances l.cycle.items l.next l.distance

abbrev pub decreases-way : goal.decreases-way
decreases-way l = l.distance
