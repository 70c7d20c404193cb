use Rattle.std.proofs.Common.{ap, ◌∙◌}
use Rattle.act_json.proofs.Trees.{no_field, object_is}
use Rattle.act_json.specs.Fields.{field_of}
use Rattle.act_json.specs.Tree.{data_in}
use Rattle.act_json.proofs.tree.text_within.Goals as goal

pub returns-in-Some : goal.returns-in-Some
returns-in-Some c = c.text.ensures ∙ ap (field_of c.args.name.now) (object_is (data_in c.args.value.now) _ c.in-Some.ensures)

pub returns-in-None : goal.returns-in-None
returns-in-None c = no_field (data_in c.args.value.now) c.args.name.now c.in-None.ensures
