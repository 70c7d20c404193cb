use Rattle.std.proofs.Common.{◌≡◌, ◌+◌, ◌<◌, ℕ, [], vec_len, vec_capacity, slice_get, Some}
use Rattle.act_turn.specs.Standing.{first_standing}
use Rattle.act_turn.specs.Turn.{opener, seen_of}
use Rattle.act_turn.proofs.turn.Turn.seat_all.Given as goal

-- so many numbers are given, and the passes from number 2 on are there
abbrev pub invariant-loop : goal.invariant-loop
invariant-loop g l = let xs = seen_of l.initial.first.me.0.members in record {
  first : l.first.me ≡ (record (opener xs) { given = Some l.counter }, []);
  seat : l.first.table_id ≡ l.self.id;
  count : vec_len l.passes + 1 ≡ l.counter;
  room : vec_capacity l.passes ≡ l.seats;
  passes : (k : ℕ) → k < vec_len l.passes → slice_get l.passes.items k ≡ Some (first_standing l.self.id (k + 2) xs);
}
