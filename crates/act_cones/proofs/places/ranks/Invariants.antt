use Rattle.std.proofs.Common.{◌≡◌, ℕ, ◌<◌, length, slice_get, slice_index, slice_index_or, Some}
use Rattle.act_cones.proofs.places.ranks.Given as goal

-- the contracts before this place of the order have their places
abbrev pub invariant-loop-place : goal.invariant-loop-place
invariant-loop-place l = record {
  count : length l.ranks.items ≡ length l.children;
  placed : (q : ℕ) → q < l.place → slice_get l.order (slice_index l.ranks.items (slice_index_or l.order q 0)) ≡ Some (slice_index_or l.order q 0);
}
