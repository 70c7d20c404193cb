use Rattle.std.proofs.Common.{ap, ◌∙◌}
use Rattle.act_terms.specs.Contract.{contract_type, type_given}
use Rattle.act_terms.proofs.contract.type_of_object.Goals as goal

pub returns : goal.returns
unfolding contract_type
returns c = c.type_given.ensures ∙ ap type_given c.text_within.ensures
