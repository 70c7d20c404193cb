use Rattle.std.proofs.Common.{arith, refl, sym, ◌∙◌}
use Rattle.act_kind.proofs.PlannedEvents.{added_all, added_one, added_undefined}
use Rattle.act_kind.proofs.planned.push_events.Goals as goal

pub returns-in_default-clause-fault : goal.returns-in_default-clause-fault
returns-in_default-clause-fault c = λ _. (refl, added_undefined _ _ _ _ c.dates.place c.index-dates-place.result c.dates.invariant (omega arith) c.index-dates-place.is (sym c.planned_event.ensures ∙ c.in_default.is))

pub dates-preserved : goal.dates-preserved
dates-preserved c = rw c.in_ok-push.ensures.items (added_one _ _ _ _ c.dates.place c.index-dates-place.result c.in-Some.event c.dates.invariant (omega arith) c.index-dates-place.is (sym c.planned_event.ensures ∙ c.in-Some.is))

pub returns-clause-added : goal.returns-clause-added
returns-clause-added c = added_all _ _ _ _ c.dates.place c.dates.invariant (omega arith)
