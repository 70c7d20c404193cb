-- Runs that nobody can ask for any more.
use Rattle.std.specs.Prelude.{◌≡◌, ◌⊎◌, ℕ, ◌<◌, ◌≤◌, true, List, length, Some}
use Rattle.std.specs.List.{slice_get}
use Rattle.act_model.specs.declared.asks.Asking.{Asking}
use Rattle.act_keeping.specs.Keeping.{is_done}
use Rattle.act_keeping.specs.declared.caller.Caller.{Caller}
use Rattle.act_keeping.specs.declared.pair.Pair.{Pair}
use Rattle.act_keeping.specs.declared.pair.Progress.TheVariants.{Dropped}

-- none of some asks is of a version
abbrev pub NoneOf : List Asking → ℕ → Type 0
NoneOf asks v = (k : ℕ) (ask : Asking) → slice_get asks k ≡ Some ask → ¬ (ask.version ≡ v)

-- no open ask is
abbrev pub NoneOpen : List Caller → ℕ → Type 0
NoneOpen callers v = (k : ℕ) (caller : Caller) → slice_get callers k ≡ Some caller → NoneOf caller.open_asks.items v

-- a version is before the book's, and no open ask is of it
abbrev pub IsUnasked : List Caller → ℕ → ℕ → Type 0
IsUnasked callers version v = (v < version) × NoneOpen callers v

-- no open ask is of a version before one, which isn't behind the book's
abbrev pub IsLeast : List Caller → ℕ → ℕ → Type 0
IsLeast callers version least = (least ≤ version) × ((v : ℕ) → v < least → NoneOpen callers v)

-- a pair's run is dropped, where it has one
pub record IsDropped (old new : Pair) : Type 0 where
  pub version : new.version ≡ old.version
  pub rank : new.rank ≡ old.rank
  pub progress : (new.progress ≡ old.progress) ⊎ ((new.progress ≡ Dropped) × (is_done old.progress ≡ true))

-- pairs are as they were, but for runs that nobody can ask for
pub record Drops (old : List Pair) (callers : List Caller) (version : ℕ) (new : List Pair) : Type 0 where
  pub count : length new ≡ length old
  pub each : (k : ℕ) (after : Pair) → slice_get new k ≡ Some after → (before : Pair) × (slice_get old k ≡ Some before) × IsDropped before after × ((after ≡ before) ⊎ IsUnasked callers version before.version)
