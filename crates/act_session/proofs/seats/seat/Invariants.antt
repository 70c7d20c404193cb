use Rattle.std.proofs.Common.{◌≡◌, ◌+◌, ◌≤◌, ◌++◌, length, reverse, vec_capacity}
use Rattle.act_session.specs.Seats.{passes_of}
use Rattle.act_session.proofs.seats.seat.Given as goal

-- the passes of the actors, and behind them those that are left, whose last is next
abbrev pub invariant-loop-pass : goal.invariant-loop-pass
invariant-loop-pass g l = record {
  passes : passes_of l.actors.items ++ reverse l.passes.items ≡ l.fn.passes.items;
  room : length l.actors.items + length l.passes.items ≤ vec_capacity l.actors;
  kept : length l.fn.passes.items ≤ vec_capacity l.passes;
}

abbrev pub decreases-loop-pass : goal.decreases-loop-pass
decreases-loop-pass g l = length l.passes.items
