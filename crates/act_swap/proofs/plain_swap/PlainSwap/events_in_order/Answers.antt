use Rattle.std.proofs.Common.{ap, sym, ◌∙◌}
use Rattle.std.proofs.lemmas.Result.{IfOk-weaker}
use Rattle.act_profile.specs.Planning.{events_by_type}
use Rattle.act_profile.specs.Swap.{plain_swap_dates}
use Rattle.act_swap.proofs.Plans.{plan_of_events}
use Rattle.act_swap.specs.PlainSwap.{PlainSwapTerms}
use Rattle.act_swap.proofs.plain_swap.PlainSwap.events_in_order.Goals as goal

pub returns-in-Ok-clause-events : goal.returns-in-Ok-clause-events
returns-in-Ok-clause-events c =
    let common = c.args.self.now.common in
    let swap = c.args.self.now.swap in
    let dates = plain_swap_dates common swap in
    let planned = sym (ap (λ (s : PlainSwapTerms). events_by_type s.common 0 dates) c.self.view_is) ∙ c.in-Ok.ensures.events dates c.requires in
    IfOk-weaker c.in_order.result _ _ (λ sorted order. plan_of_events common swap c.in-Ok.events.items sorted.items planned order) c.in_order.ensures.in_order
