use Rattle.std.proofs.Common.{sym, ◌∙◌}
use Rattle.json.specs.Value.{value_view}
use Rattle.act_json.proofs.Trees.{read_with_number, read_without_number}
use Rattle.act_json.proofs.tree.check_numbers.Goals as goal

pub returns-then-not-has_number-clause-read : goal.returns-then-not-has_number-clause-read
returns-then-not-has_number-clause-read c =
    read_without_number c.args.text.now (value_view c.args.tree.now) c.requires (sym c.has_number.ensures ∙ c.if-not-has_number.true)

pub returns-in-Ok-clause-read : goal.returns-in-Ok-clause-read
returns-in-Ok-clause-read c = read_with_number c.args.text.now (value_view c.args.tree.now) _ c.requires c.in-Ok.ensures.ok
