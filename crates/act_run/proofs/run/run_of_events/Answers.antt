use Rattle.std.proofs.Common.{take, refl, sym, subst, ◌∙◌}
use Rattle.act_model.specs.Run.{Stream}
use Rattle.act_profile.specs.DayOrder.{AreInDayOrder}
use Rattle.act_profile.specs.Steps.{start_of}
use Rattle.act_run.proofs.Limited.{run_in_day_order, run_stopped}
use Rattle.act_run.proofs.Resumed.{begun, enough_events, no_state, none_first, resumed_run}
use Rattle.act_run.proofs.run.run_of_events.Goals as goal

pub events_behind-left-requires : goal.events_behind-left-requires
events_behind-left-requires g c =
    let inputs = c.args.inputs.now in
    let course = c.args.course.now in
    let from = begun inputs (take c.args.count c.args.rows.now) c.in-Ok.state c.requires.same (sym c.state_or_start.ensures ∙ c.in-Ok.is) in
    enough_events inputs from.first course.limit course.events.now c.args.rows.now c.args.count c.before_limit-before.result.now
    from.starts c.requires.limit c.requires.events c.requires.same c.requires.within c.before_limit-before.ensures

pub returns-in_ok-run-in-Ok-clause-run : goal.returns-in_ok-run-in-Ok-clause-run
returns-in_ok-run-in-Ok-clause-run g c =
    let inputs = c.args.inputs.now in
    let course = c.args.course.now in
    let from = begun inputs (take c.args.count c.args.rows.now) c.in-Ok.state c.requires.same (sym c.state_or_start.ensures ∙ c.in-Ok.is) in
    c.closed_by.ensures ∙ resumed_run inputs from.first course.limit course.events.now c.args.rows.now c.args.count
    c.in_ok-kept-in-Ok.kept c.in-Ok.state c.before_limit-before.result.now c.events_behind-left.result.now c.in_ok-run-in-Ok.run'
    from.starts c.requires.limit c.requires.events c.requires.same c.requires.within c.in_ok-kept-in-Ok.ensures from.behind
    c.before_limit-before.ensures c.events_behind-left.ensures c.in_ok-run-in-Ok.ensures.run

pub returns-in_ok-run-in-Ok-clause-in_day_order : goal.returns-in_ok-run-in-Ok-clause-in_day_order
returns-in_ok-run-in-Ok-clause-in_day_order g c =
    let inputs = c.args.inputs.now in
    subst (λ (run : Stream). AreInDayOrder run.rows) (sym (returns-in_ok-run-in-Ok-clause-run g c)) (run_in_day_order inputs.terms inputs.plan inputs.entries inputs.children)

pub returns-in-Err-clause-run : goal.returns-in-Err-clause-run
returns-in-Err-clause-run g c =
    let inputs = c.args.inputs.now in
    let stops = no_state (start_of inputs.terms inputs.plan) (take c.args.count c.args.rows.now) c.in-Err.stop (sym c.state_or_start.ensures ∙ c.in-Err.is) in
    c.stopped_at_once.ensures ∙ run_stopped inputs.terms inputs.plan inputs.entries inputs.children c.in-Err.stop stops

pub returns-in-Err-clause-ticked : goal.returns-in-Err-clause-ticked
returns-in-Err-clause-ticked g c =
    let inputs = c.args.inputs.now in
    let stops = no_state (start_of inputs.terms inputs.plan) (take c.args.count c.args.rows.now) c.in-Err.stop (sym c.state_or_start.ensures ∙ c.in-Err.is) in
    let none = none_first inputs c.in-Err.stop c.args.rows.now c.args.count stops c.requires.same c.requires.within in
    rw none (rw c.stopped_at_once.ensures refl)
