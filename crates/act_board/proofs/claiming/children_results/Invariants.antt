use Rattle.std.proofs.Common.{map, take}
use Rattle.std.specs.Arc.{arc_value}
use Rattle.act_history.specs.History.{History}
use Rattle.act_keeping.specs.Keeping.{AreResults, Keeps}
use Rattle.act_board.proofs.claiming.children_results.Given as goal

-- those of the children before this one
abbrev pub invariant-loop-child : goal.invariant-loop-child
invariant-loop-child l = (history : History) → Keeps l.portfolio l.pairs history → AreResults history l.version (take l.child-index l.children) (map arc_value l.runs.items)
