-- What clauses on the depths found so far say.
use Rattle.std.specs.Prelude.{◌≡◌, ℕ, ◌+◌, ◌<◌, ◌≤◌, ◌⊎◌, Bool, false, nat_lt, List, length, slice_index_or, Option, Some, None, IsSome}
use Rattle.std.specs.List.{All, AllPairs, Contains}
use Rattle.act_refs.specs.Order.{ComesBefore}
use Rattle.act_refs.specs.Path.{HasChain, HasDepth}

-- a depth is known, and below another
abbrev pub is_below : ℕ → Option ℕ → Bool
is_below depth None = false
is_below depth (Some known) = nat_lt known depth

-- the first contract whose depth isn't known
pub record IsFirstUnknown (depths : List (Option ℕ)) (contract : ℕ) : Type 0 where
  pub within : contract < length depths
  pub unknown : slice_index_or depths contract None ≡ None
  pub first : (k : ℕ) → k < contract → IsSome (slice_index_or depths k None)

-- the contracts of all smaller depths, and those of this depth up to a place, are settled: their depths are known, and they
-- stand in the order, sorted. All others start a chain of so many contracts that they are deeper.
pub record AreSettled (graph : List (List ℕ)) (depth place : ℕ) (depths : List (Option ℕ)) (order : List ℕ) : Type 0 where
  pub count : length depths ≡ length graph
  pub known : (c d : ℕ) → slice_index_or depths c None ≡ Some d → HasDepth graph c d × ((d < depth) ⊎ ((d ≡ depth) × (c < place)))
  pub passed : (c : ℕ) → c < place → c < length graph → slice_index_or depths c None ≡ None → HasChain graph c (depth + 1)
  pub ahead : (c : ℕ) → place ≤ c → c < length graph → slice_index_or depths c None ≡ None → HasChain graph c depth
  pub each : (c d : ℕ) → slice_index_or depths c None ≡ Some d → Contains order c
  pub only : All (λ c. (d : ℕ) × (slice_index_or depths c None ≡ Some d)) order
  pub sorted : AllPairs (ComesBefore graph) order
