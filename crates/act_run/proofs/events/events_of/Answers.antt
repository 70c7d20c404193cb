use Rattle.std.proofs.Common.{◌≡◌, map, ap, sym, subst, ◌∙◌}
use Rattle.std.specs.Arc.{arc_value}
use Rattle.act_model.specs.Observed.{observed_events}
use Rattle.act_profile.specs.Contract.{observed_as}
use Rattle.act_profile.specs.Events.{events_scheduled, with_exercise}
use Rattle.act_run.specs.Inputs.{Inputs}
use Rattle.act_run.proofs.Observations.{events_made}
use Rattle.act_run.proofs.events.events_of.Goals as goal

pub returns : goal.returns
returns g c =
    let inside = c.inputs.inside in
    let terms = inside.terms.now in
    let own = c.args.own.now in
    let scheduled = c.in_ok-events.events.items in
    let are = subst (λ (i : Inputs). own ≡ observed_events i.entries (observed_as i.terms.common)) (sym c.inputs.view_is) c.requires in
    let schedules = subst (λ (i : Inputs). scheduled ≡ events_scheduled i.terms.common i.terms.kind i.plan i.entries) (sym c.inputs.view_is) c.in_ok-events.ensures in
    rw (← c.inputs.view_is)
    (c.with_exercise.ensures ∙ ap (with_exercise terms.kind) c.retain_counting.ensures
    ∙ events_made terms inside.plan.now (g.O.Observed.entries inside.seen.now) own (map arc_value inside.children.now) scheduled _ _ _ are schedules
    c.in_ok-add_all.ensures c.in_ok-events-2.ensures c.in_ok-put_in_order.ensures.in_order)
