use Rattle.act_kind.proofs.PlannedEvents.{HasAdded}
use Rattle.act_kind.proofs.planned.push_events.Given as goal

abbrev pub invariant-dates : goal.invariant-dates
invariant-dates l = HasAdded l.common l.dates l.initial.events.items l.events.items l.place
