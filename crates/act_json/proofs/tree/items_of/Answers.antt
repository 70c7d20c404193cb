use Rattle.act_json.proofs.Trees.{list_seen}
use Rattle.act_json.proofs.tree.items_of.Goals as goal

pub returns-in-Array : goal.returns-in-Array
returns-in-Array c = list_seen _ _ _ c.in-Array.is c.as_slice.ensures.value
