use Rattle.act_refs.specs.Path.{child_lists}
use Rattle.act_refs.specs.Peeled.{IsPeeling}
use Rattle.act_refs.proofs.peel.peeled.Given as goal

abbrev pub invariant-places : goal.invariant-places
invariant-places l = IsPeeling (child_lists l.children) l.next.items l.peeled.items l.queue.items
