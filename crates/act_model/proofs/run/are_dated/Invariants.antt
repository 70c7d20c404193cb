use Rattle.std.proofs.Common.{take}
use Rattle.std.specs.List.{All}
use Rattle.act_date.specs.Civil.{IsDay}
use Rattle.act_model.specs.declared.event.Event.{Event}
use Rattle.act_model.proofs.run.are_dated.Given as goal

abbrev pub invariant-events : goal.invariant-events
invariant-events l = All (λ (event : Event). IsDay event.day) (take l.event-index l.events)
