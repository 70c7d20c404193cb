use Rattle.std.proofs.Common.{sym, ◌∙◌}
use denote.Enum.Bare.{same_true}
use Rattle.act_model.specs.contracts.event.EventType.{the_type}
use Rattle.cases_runs.proofs.same.is_same_type.Goals as goal

pub returns : goal.returns
returns c = λ is. same_true the_type tt c.args.one c.args.other (sym c.eq.ensures ∙ is)
