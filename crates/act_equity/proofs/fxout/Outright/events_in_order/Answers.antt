use Rattle.std.proofs.Common.{ap, sym, ◌∙◌}
use Rattle.std.proofs.lemmas.Result.{IfOk-weaker}
use Rattle.act_equity.specs.Outright.{OutrightTerms, outright_dates}
use Rattle.act_equity.proofs.Outrights.{plan_of_events}
use Rattle.act_profile.specs.Planning.{events_by_type}
use Rattle.act_equity.proofs.fxout.Outright.events_in_order.Goals as goal

pub returns-in-Ok-clause-events : goal.returns-in-Ok-clause-events
returns-in-Ok-clause-events c =
    let common = c.args.self.now.common in
    let fxout = c.args.self.now.fxout in
    let dates = outright_dates common fxout in
    let planned = sym (ap (λ (o : OutrightTerms). events_by_type o.common 0 dates) c.self.view_is) ∙ c.in-Ok.ensures.events dates c.requires.types in
    IfOk-weaker c.in_order.result _ _ (λ sorted order. plan_of_events common fxout c.in-Ok.events.items sorted.items planned order) c.in_order.ensures.in_order
