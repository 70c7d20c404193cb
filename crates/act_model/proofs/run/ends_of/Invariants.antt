use Rattle.std.proofs.Common.{◌≡◌, take}
use Rattle.std.specs.List.{filter}
use Rattle.act_model.specs.Run.{may_end}
use Rattle.act_model.proofs.run.ends_of.Given as goal

abbrev pub invariant-events : goal.invariant-events
invariant-events l = l.ends.items ≡ filter may_end (take l.event-index l.events)
