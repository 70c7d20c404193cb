use Rattle.std.proofs.Common.{ap, ◌∙◌}
use Rattle.serde_json.specs.Find.{get}
use Rattle.act_json.proofs.Trees.{no_member, object_is}
use Rattle.act_json.specs.Tree.{data_in}
use Rattle.act_json.proofs.tree.member.Goals as goal

pub returns-in-Some : goal.returns-in-Some
returns-in-Some c = c.get.ensures ∙ ap (get c.args.name.now) (object_is (data_in c.args.value.now) _ c.in-Some.ensures)

pub returns-in-None : goal.returns-in-None
returns-in-None c = no_member (data_in c.args.value.now) c.args.name.now c.in-None.ensures
