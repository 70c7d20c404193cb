use Rattle.std.proofs.Common.{◌≡◌, ◌≤◌, drop, length, map, take, Some, vec_capacity}
use Rattle.act_session.specs.Seats.{answers_at, passes_of}
use Rattle.act_session.proofs.seats.take_answers.Given as goal

-- the answers of the actors before this one are taken, and those of the others are still there
abbrev pub invariant-loop-place : goal.invariant-loop-place
invariant-loop-place g l = record {
  passes : passes_of l.actors ≡ passes_of l.fn.actors;
  kept : drop l.place (answers_at l.actors) ≡ drop l.place (answers_at l.fn.actors);
  all : map Some l.all.items ≡ take l.place (answers_at l.fn.actors);
  count : length l.all.items ≡ l.place;
  room : l.count ≤ vec_capacity l.all;
}
