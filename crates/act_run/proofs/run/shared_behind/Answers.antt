use Rattle.std.proofs.Common.{refl, sym, subst, ◌∙◌}
use Rattle.std.specs.Arc.{arc_value}
use Rattle.act_model.specs.Run.{Stream}
use Rattle.act_run.specs.Resuming.{NeedsNoMore}
use Rattle.act_profile.specs.DayOrder.{AreInDayOrder}
use Rattle.act_run.proofs.Limited.{run_in_day_order}
use Rattle.act_run.proofs.Resumed.{no_more_is}
use Rattle.act_run.proofs.run.shared_behind.Goals as goal

pub returns-then-needs_no_more-clause-run : goal.returns-then-needs_no_more-clause-run
returns-then-needs_no_more-clause-run g c =
    let limit = c.in_ok-limit_of.field-0 in
    let events = c.in_ok-events_to_run.field-0.now in
    let enough = subst (λ (run : Stream). NeedsNoMore run c.args.count limit events) c.deref.ensures (c.if-needs_no_more.ensures refl) in
    c.in_ok-try_clone.ensures
    ∙ no_more_is c.args.inputs.now (arc_value c.args.kept.now) c.args.count limit events c.in_ok-limit_of.ensures c.in_ok-events_to_run.ensures c.requires.same enough

pub returns-then-needs_no_more-clause-in_day_order : goal.returns-then-needs_no_more-clause-in_day_order
returns-then-needs_no_more-clause-in_day_order g c =
    let inputs = c.args.inputs.now in
    subst (λ (run : Stream). AreInDayOrder run.rows) (sym (returns-then-needs_no_more-clause-run g c)) (run_in_day_order inputs.terms inputs.plan inputs.entries inputs.children)
