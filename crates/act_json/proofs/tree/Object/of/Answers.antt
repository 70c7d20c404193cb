use Rattle.act_json.proofs.Trees.{object_seen}
use Rattle.act_json.proofs.tree.Object.of.Goals as goal

pub returns-in-Object : goal.returns-in-Object
returns-in-Object c = object_seen _ _ _ c.in-Object.is c.as_slice.ensures.value
