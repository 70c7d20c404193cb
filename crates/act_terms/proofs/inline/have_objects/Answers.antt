use Rattle.std.proofs.Common.{◌∙◌, rules, tests}
use Rattle.std.proofs.lemmas.Iterator.{YieldsList-from_slice}
use Rattle.std.proofs.lemmas.Iterator.Search.{any_from_yields_List}
use Rattle.act_json.specs.Tree.{data_in}
use Rattle.act_terms.specs.Inline.{has_object}
use Rattle.act_terms.proofs.TermNames.{list_any-map}
use Rattle.act_terms.proofs.inline.have_objects.Goals as goal

pub returns : goal.returns
returns c =
    any_from_yields_List (λ e. has_object (data_in e)) _ _ c.any.result c.any.ensures.ran (YieldsList-from_slice c.args.elements.now cc) (λ x b q k. search (rules, tests))
    ∙ list_any-map has_object data_in c.args.elements.now
