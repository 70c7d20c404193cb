use Rattle.act_refs.specs.Path.{child_lists}
use Rattle.act_refs.specs.Peeled.{IsPeeling}
use Rattle.act_refs.proofs.peel.look_at_parents.Given as goal

abbrev pub invariant-loop-parent : goal.invariant-loop-parent
invariant-loop-parent l = IsPeeling (child_lists l.children) l.next l.peeled l.queue.items
