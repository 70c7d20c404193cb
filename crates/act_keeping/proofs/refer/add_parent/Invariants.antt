use Rattle.std.proofs.Common.{take}
use Rattle.act_refs.specs.Path.{child_lists}
use Rattle.act_keeping.specs.Ready.{AddsTimes}
use Rattle.act_keeping.proofs.refer.add_parent.Given as goal

-- the contract is added to the parents of the children so far
abbrev pub invariant-loop-child : goal.invariant-loop-child
invariant-loop-child l = AddsTimes (child_lists l.fn.parents) (child_lists l.parents) (take l.child-index l.children) l.parent
