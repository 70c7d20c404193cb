-- What is added for an ask.
use Rattle.std.specs.Prelude.{◌≡◌, ◌⊎◌, ℕ, ◌+◌, ◌-◌, ◌<◌, ◌≤◌, Bool, true, List, length, slice_index_or, Some}
use Rattle.std.specs.List.{insert, range_with_len, slice_get, sum_by}
use Rattle.act_keeping.specs.Keeping.{AreSorted, Has, IsListed, is_before, owed_for}
use Rattle.act_history.specs.Reached.{is_wanted}
use Rattle.act_keeping.specs.declared.pair.Pair.{Pair}
use Rattle.act_keeping.specs.declared.pair.Progress.TheVariants.{Waiting}

-- a pair that waits
abbrev pub waiting : ℕ → ℕ → Pair
waiting version rank = record { version = version; rank = rank; progress = Waiting }

-- the place of the first pair that doesn't stand before those of a version and a rank
pub record IsPlaceOf (pairs : List Pair) (version rank place : ℕ) : Type 0 where
  pub within : place ≤ length pairs
  pub before : (k : ℕ) (pair : Pair) → k < place → slice_get pairs k ≡ Some pair → is_before pair version rank ≡ true
  pub behind : (k : ℕ) (pair : Pair) → place ≤ k → slice_get pairs k ≡ Some pair → ¬ (is_before pair version rank ≡ true)

-- a pair of a version and a rank was added at its place, unless there is one
abbrev pub IsAdded : List Pair → ℕ → ℕ → List Pair → Type 0
IsAdded old version rank new =
    (IsListed old version rank × (new ≡ old))
    ⊎ ((¬ (IsListed old version rank)) × (place : ℕ) × IsPlaceOf old version rank place × (new ≡ insert old place (waiting version rank)))

-- the contract of a rank is one of these numbers or marked
abbrev pub is_asked : List ℕ → ℕ → ℕ → List Bool → ℕ → Bool
is_asked order first end below rank = is_wanted (range_with_len first (end - first)) below (slice_index_or order rank 0)

-- a pair that was added: of the version, for a contract that is asked for and wasn't there
pub record IsNew (old : List Pair) (version : ℕ) (wanted : ℕ → Bool) (upto : ℕ) (pair : Pair) : Type 0 where
  pub is : pair ≡ waiting version pair.rank
  pub within : pair.rank < upto
  pub asked : wanted pair.rank ≡ true
  pub absent : ¬ (IsListed old version pair.rank)

-- what is asked for of the ranks up to one was added at a version, behind the pairs of earlier ones
pub record IsExtended (old : List Pair) (version : ℕ) (asked : ℕ → Bool) (begin upto : ℕ) (new : List Pair) : Type 0 where
  pub sorted : AreSorted new
  pub kept : (pair : Pair) → Has old pair → Has new pair
  pub only : (pair : Pair) → Has new pair → Has old pair ⊎ IsNew old version asked upto pair
  pub all : (r : ℕ) → r < upto → asked r ≡ true → IsListed new version r
  pub owed : sum_by owed_for new ≡ sum_by owed_for old
  pub few : length new ≤ length old + upto
  pub start : begin ≤ length new
  pub same : (k : ℕ) → k < begin → slice_get new k ≡ slice_get old k
  pub earlier : (k : ℕ) (pair : Pair) → k < begin → slice_get new k ≡ Some pair → is_before pair version 0 ≡ true
