use Rattle.std.proofs.Common.{◌≡◌, ◌-◌, ℕ, ◌<◌, ◌≤◌, true, length, Some}
use Rattle.std.specs.List.{slice_get}
use Rattle.act_keeping.specs.Keeping.{is_before}
use Rattle.act_keeping.specs.declared.pair.Pair.{Pair}
use Rattle.act_keeping.proofs.pair.place_by_halving.Given as goal

-- the pairs before the one place stand before those sought, and those from the other on don't
abbrev pub invariant-loop-low : goal.invariant-loop-low
invariant-loop-low l = record {
  order : l.low ≤ l.high;
  within : l.high ≤ length l.pairs;
  before : (k : ℕ) (pair : Pair) → k < l.low → slice_get l.pairs k ≡ Some pair → is_before pair l.version l.rank ≡ true;
  behind : (k : ℕ) (pair : Pair) → l.high ≤ k → slice_get l.pairs k ≡ Some pair → ¬ (is_before pair l.version l.rank ≡ true);
}

abbrev pub decreases-loop-low : goal.decreases-loop-low
decreases-loop-low l = l.high - l.low
