use Rattle.std.proofs.Common.{◌≡◌, ℕ, ◌<◌, ◌≤◌, Some}
use Rattle.std.specs.List.{slice_get}
use Rattle.act_keeping.specs.Dropping.{NoneOf}
use Rattle.act_keeping.specs.declared.caller.Caller.{Caller}
use Rattle.act_keeping.proofs.dropping.least_open.Given as goal

-- it isn't greater than the version, and no ask of the callers before this one is of a version before it
abbrev pub invariant-loop-caller : goal.invariant-loop-caller
invariant-loop-caller l = record {
  within : l.least ≤ l.version;
  least : (k : ℕ) (caller : Caller) → k < l.caller-index → slice_get l.callers k ≡ Some caller → (v : ℕ) → v < l.least → NoneOf caller.open_asks.items v;
}
