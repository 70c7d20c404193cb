use Rattle.std.proofs.Common.{◌≡◌, ◌<◌, ◌≤◌, ℕ, length, Some, vec_capacity}
use Rattle.std.specs.List.{slice_get}
use Rattle.act_history.specs.History.{History}
use Rattle.act_keeping.specs.Keeping.{Keeps, contract_at}
use Rattle.act_keeping.specs.Ready.{lacking_of}
use Rattle.act_keeping.specs.declared.pair.Pair.{Pair}
use Rattle.act_board.proofs.ready.count_from.Given as goal

-- the pairs before this one are counted
abbrev pub invariant-loop-place : goal.invariant-loop-place
invariant-loop-place l = record {
  count : length l.lacking.items ≡ l.place;
  room : vec_capacity l.fn.lacking ≤ vec_capacity l.lacking;
  same : (k : ℕ) → k < l.start → slice_get l.lacking.items k ≡ slice_get l.fn.lacking.items k;
  counted : (history : History) → Keeps l.portfolio l.pairs history → (k : ℕ) (pair : Pair) → l.start ≤ k → k < l.place → slice_get l.pairs k ≡ Some pair
      → slice_get l.lacking.items k ≡ Some (lacking_of history (contract_at history pair.rank) pair.version);
}
