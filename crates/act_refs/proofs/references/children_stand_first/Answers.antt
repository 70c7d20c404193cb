use Rattle.act_refs.proofs.Depths.{children_first}
use Rattle.act_refs.proofs.references.children_stand_first.Goals as goal

pub returns : goal.returns
returns c = children_first
