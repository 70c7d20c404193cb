use Rattle.std.proofs.Common.{◌≡◌}
use Rattle.act_turn.proofs.turn.Turn.wait.Given as goal

-- until the ticket is served nothing changes
abbrev pub invariant-loop : goal.invariant-loop
invariant-loop g l = (l.seat.table_id ≡ l.initial.seat.table_id) × (l.seat.id ≡ l.initial.seat.id) × (l.seat.me ≡ l.initial.seat.me)
