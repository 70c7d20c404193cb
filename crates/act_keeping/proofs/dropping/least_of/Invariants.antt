use Rattle.std.proofs.Common.{◌≡◌, ℕ, ◌<◌, ◌≤◌, Some}
use Rattle.std.specs.List.{slice_get}
use Rattle.act_model.specs.declared.asks.Asking.{Asking}
use Rattle.act_keeping.proofs.dropping.least_of.Given as goal

-- it isn't greater than the version, nor than those of the asks before this one
abbrev pub invariant-loop-place : goal.invariant-loop-place
invariant-loop-place l = record {
  within : l.least ≤ l.version;
  least : (k : ℕ) (ask : Asking) → k < l.place → slice_get l.asks.items k ≡ Some ask → l.least ≤ ask.version;
}
