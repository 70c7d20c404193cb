use Rattle.std.proofs.Common.{◌≡◌, ◌-◌, ℕ, ◌<◌, ◌≤◌, length, Some}
use Rattle.std.specs.List.{slice_get}
use Rattle.act_keeping.proofs.ready.index_of.Given as goal

-- the places before the one are greater, and those from the other on aren't
abbrev pub invariant-loop-low : goal.invariant-loop-low
invariant-loop-low l = record {
  order : l.low ≤ l.high;
  within : l.high ≤ length l.places;
  before : (i other : ℕ) → i < l.low → slice_get l.places i ≡ Some other → l.place < other;
  behind : (i other : ℕ) → l.high ≤ i → slice_get l.places i ≡ Some other → other ≤ l.place;
}

abbrev pub decreases-loop-low : goal.decreases-loop-low
decreases-loop-low l = l.high - l.low
