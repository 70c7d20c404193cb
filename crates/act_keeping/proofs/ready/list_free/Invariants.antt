use Rattle.std.proofs.Common.{◌+◌, ◌≤◌, drop, length, vec_capacity}
use Rattle.act_keeping.specs.Ready.{AreFreeFrom, blocked}
use Rattle.act_keeping.proofs.ready.list_free.Given as goal

-- what may be claimed from this place on is listed
abbrev pub invariant-loop-place : goal.invariant-loop-place
invariant-loop-place l = record {
  within : l.place ≤ length l.pairs;
  free : AreFreeFrom l.pairs l.lacking l.place l.places.items;
  fits : length l.places.items + blocked (drop l.place l.lacking) + l.place ≤ length l.pairs;
  room : length l.pairs ≤ vec_capacity l.places;
}

abbrev pub decreases-loop-place : goal.decreases-loop-place
decreases-loop-place l = l.place
