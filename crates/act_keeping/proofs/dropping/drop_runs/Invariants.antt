use Rattle.std.proofs.Common.{◌≡◌, ◌-◌, ◌<◌, ◌≤◌, ℕ, Some, false, length}
use Rattle.std.specs.List.{slice_get}
use Rattle.act_keeping.specs.Dropping.{Drops}
use Rattle.act_keeping.specs.Keeping.{is_kept}
use Rattle.act_keeping.specs.declared.pair.Pair.{Pair}
use Rattle.act_keeping.proofs.dropping.drop_runs.Given as goal

-- from the first place up to this one no run is left
abbrev pub invariant-loop-place : goal.invariant-loop-place
invariant-loop-place l = record {
  dropped : Drops l.fn.pairs l.callers l.version l.pairs;
  gone : (k : ℕ) (pair : Pair) → l.from ≤ k → k < l.place → slice_get l.pairs k ≡ Some pair → is_kept pair.progress ≡ false;
}

abbrev pub decreases-loop-place : goal.decreases-loop-place
decreases-loop-place l = length l.pairs - l.place
