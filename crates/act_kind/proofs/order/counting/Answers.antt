use Rattle.std.proofs.Common.{◌-◌, length, take, drop, length-drop, ap, ◌∙◌, arith}
use Rattle.std.proofs.lemmas.List.{take_all}
use Rattle.act_model.specs.Run.{EventPlan}
use Rattle.act_kind.proofs.Counted.{counted-from}
use Rattle.act_kind.proofs.order.counting.Goals as goal

pub returns : goal.returns
returns c =
    let count = c.count_to_planned_end.result in
    let until = take count c.deref.result.now in
    let early = c.count_early.result in
    take_all (length until - early) (drop early until) (omega (arith, length-drop early until))
    ∙ ap (λ n. drop n until) c.count_early.ensures.count
    ∙ counted-from c.args.terms.now.common.status_date c.args.terms.now.kind c.args.plan.now.events until c.requires (ap (take count) (c.deref.ensures.value ∙ ap (λ (p : EventPlan). p.events) c.plan.view_is) ∙ c.count_to_planned_end.ensures.taken)
