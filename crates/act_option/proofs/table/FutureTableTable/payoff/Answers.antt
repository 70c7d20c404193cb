use Rattle.std.proofs.Common.{ap, ◌∙◌}
use Rattle.act_model.specs.declared.terms.Common.{Common}
use Rattle.act_model.specs.declared.terms.Futur.{Futur}
use Rattle.act_profile.specs.Exercise.{future_line}
use Rattle.act_profile.specs.Step.{amount_of}
use Rattle.act_option.proofs.table.FutureTableTable.payoff.Goals as goal

pub returns : goal.returns
returns c =
    let event = c.args.event.now in
    let amount = λ (common : Common). amount_of (future_line common c.args.self.now.1 event event.kind).payoff c.args._value c.args.state.now in
    c.payoff.ensures.future c.args.self.now.1 event c.args._value ∙ ap amount (ap (λ (t : Common × Futur). t.0) c.self.view_is)
