use Rattle.std.proofs.Common.{◌≡◌}
use Rattle.act_turn.specs.Standing.{IsFree}
use Rattle.cases_desks.proofs.turns.four_turns.Given as goal

abbrev pub invariant-loop-round : goal.invariant-loop-round
invariant-loop-round g l = IsFree l.turn.id l.pass × (l.pass.number ≡ l.number)
