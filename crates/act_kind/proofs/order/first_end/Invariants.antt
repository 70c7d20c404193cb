use Rattle.std.proofs.Common.{◌≡◌, drop}
use Rattle.std.specs.List.{find}
use Rattle.act_profile.specs.Order.{ends}
use Rattle.act_kind.proofs.order.first_end.Given as goal

-- none of the events before ends the contract
abbrev pub invariant-loop-event : goal.invariant-loop-event
invariant-loop-event l = find (ends l.kind) (drop l.event-index l.events) ≡ find (ends l.kind) l.events
