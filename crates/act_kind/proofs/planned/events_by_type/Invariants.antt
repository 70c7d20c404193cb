use Rattle.act_kind.proofs.TypesInTurn.{HasTaken}
use Rattle.act_kind.proofs.planned.events_by_type.Given as goal

abbrev pub invariant-types : goal.invariant-types
invariant-types l = HasTaken l.common l.types l.events.items l.answer-index
