use Rattle.std.specs.Arc.{arc_value}
use Rattle.act_run.proofs.Chosen.{IsChosen}
use Rattle.act_run.proofs.limit.chosen_close.Given as goal

abbrev pub invariant-children : goal.invariant-children
invariant-children l = IsChosen arc_value l.children l.child-index l.chosen
