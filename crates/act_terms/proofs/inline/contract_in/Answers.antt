use Rattle.std.proofs.Common.{ap, option_map, sym, ◌∙◌}
use Rattle.act_json.specs.Tree.{data_in}
use Rattle.act_terms.proofs.Nesting.{inner-depth}
use Rattle.act_terms.proofs.inline.contract_in.Goals as goal

pub returns-then-is_inside-clause-lower : goal.returns-then-is_inside-clause-lower
returns-then-is_inside-clause-lower c =
    λ inner e. inner-depth (data_in c.args.element.now) (data_in inner.now) (sym c.inner_object.ensures ∙ ap (option_map (λ i. data_in i.now)) e)
