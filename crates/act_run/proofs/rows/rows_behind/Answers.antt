use Rattle.std.proofs.Common.{arith, map, sym}
use Rattle.std.proofs.lemmas.List.{length_push}
use Rattle.std.specs.Arc.{arc_value}
use Rattle.act_model.specs.Run.{row_with}
use Rattle.act_profile.specs.Run.{row_of}
use Rattle.act_profile.specs.Steps.{currency_of, step_of}
use Rattle.act_run.proofs.TakenRows.{made_row, made_stop, taken_all, taken_one, taken_stop}
use Rattle.act_run.proofs.rows.rows_behind.Goals as goal

pub returns-in-Err-clause-run : goal.returns-in-Err-clause-run
returns-in-Err-clause-run g c =
    let inside = c.inputs.inside in
    let children = map arc_value inside.children.now in
    let step = step_of inside.terms.now inside.plan.now (g.O.Observed.entries inside.seen.now) children in
    let currency = currency_of inside.terms.now children in
    let event = c.event-item.result in
    rw (c.close_of-close.ensures, ← c.inputs.view_is)
    (sym (taken_stop step currency _ _ _ _ c.events.state c.events.event-index event c.in-Err.stop c.events.invariant.taken c.events-test.true c.event-item.is
    (made_stop step currency c.events.state event c.advance.new.state c.advance.result c.in-Err.stop c.advance.ensures.value c.in-Err.is)))

pub events-preserved : goal.events-preserved
events-preserved g c =
    let inside = c.inputs.inside in
    let children = map arc_value inside.children.now in
    let step = step_of inside.terms.now inside.plan.now (g.O.Observed.entries inside.seen.now) children in
    let currency = currency_of inside.terms.now children in
    let event = c.event-item.result in
    record {
      taken = rw c.in_ok-push-in-Ok.ensures.added (rw c.head_of.ensures
          (taken_one step currency _ _ _ _ c.events.state c.events.event-index event (row_of event (currency event) (c.in-Ok.payoff, c.advance.new.state)) c.events.invariant.taken c.events-test.true c.event-item.is
          (made_row step currency c.events.state event c.advance.new.state c.advance.result c.in-Ok.payoff c.advance.ensures.value c.in-Ok.is)));
      ticked = rw c.in_ok-push-in-Ok.ensures.added (omega (arith, length_push c.events.rows (row_with c.head_of.result c.advance.new.state), c.in-Ok.ensures.ticked));
    }

pub returns-clause-run : goal.returns-clause-run
returns-clause-run g c = rw (← c.inputs.view_is) (sym (taken_all _ _ _ _ _ _ c.events.state c.events.event-index c.events.invariant.taken c.events-test.false))
