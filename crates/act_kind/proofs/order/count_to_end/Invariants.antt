use Rattle.act_kind.proofs.UpToEnd.{NoneEnds}
use Rattle.act_kind.proofs.order.count_to_end.Given as goal

abbrev pub invariant-events : goal.invariant-events
invariant-events l = NoneEnds l.kind l.events l.place
