use Rattle.std.proofs.Common.{◌≡◌, ◌+◌, ◌≤◌, ◌++◌, length, reverse, vec_capacity}
use Rattle.act_session.specs.Seats.{passes_of}
use Rattle.act_session.proofs.seats.rise.Given as goal

-- the passes of the actors that are left, and behind them those that were taken, the last one first
abbrev pub invariant-loop-actor : goal.invariant-loop-actor
invariant-loop-actor g l = record {
  passes : passes_of l.actors.items ++ reverse l.passes.items ≡ passes_of l.fn.actors.items;
  room : length l.actors.items + length l.passes.items ≤ vec_capacity l.passes;
}

abbrev pub decreases-loop-actor : goal.decreases-loop-actor
decreases-loop-actor g l = length l.actors.items
