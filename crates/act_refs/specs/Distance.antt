-- What clauses on distances say.
use Rattle.std.specs.Prelude.{◌≡◌, ◌≢◌, ℕ, ◌+◌, ◌<◌, ◌≤◌, List, length, slice_index, slice_index_or, Option, Some, None, MatchOption}
use Rattle.std.specs.List.{All, AllPairs, Contains}
use Rattle.act_refs.specs.Path.{HasPath, IsChild}

-- ---- the result

-- the length of the shortest path
pub record IsDistance (graph : List (List ℕ)) (from to distance : ℕ) : Type 0 where
  pub path : HasPath graph distance from to
  pub shortest : (n : ℕ) → HasPath graph n from to → distance ≤ n

-- the distances from a contract to all, None where no path leads
pub record AreDistances (graph : List (List ℕ)) (from : ℕ) (distances : List (Option ℕ)) : Type 0 where
  pub count : length distances ≡ length graph
  pub each : (to : ℕ) → to < length graph →
      MatchOption (slice_index_or distances to None) ((n : ℕ) → ¬ (HasPath graph n from to)) (IsDistance graph from to)

-- the distances of all contracts to one, None where no path leads
pub record AreDistancesTo (graph : List (List ℕ)) (to : ℕ) (distances : List (Option ℕ)) : Type 0 where
  pub count : length distances ≡ length graph
  pub each : (from : ℕ) → from < length graph →
      MatchOption (slice_index_or distances from None) ((n : ℕ) → ¬ (HasPath graph n from to)) (IsDistance graph from to)

-- the first of some contracts, of which so many are looked at, among those with the least distance
pub record IsNearest (contracts : List ℕ) (distances : List (Option ℕ)) (count contract distance : ℕ) : Type 0 where
  pub place : ℕ
  pub within : place < count
  pub here : slice_index contracts place ≡ contract
  pub is : slice_index_or distances contract None ≡ Some distance
  pub fewest : (k d : ℕ) → k < count → slice_index_or distances (slice_index contracts k) None ≡ Some d → distance ≤ d
  pub first : (k d : ℕ) → k < place → slice_index_or distances (slice_index contracts k) None ≡ Some d → distance < d

-- none of them has one
abbrev pub HaveNone : List ℕ → List (Option ℕ) → ℕ → Type 0
HaveNone contracts distances count =
    (k d : ℕ) → k < count → slice_index_or distances (slice_index contracts k) None ≡ Some d → ⊥

-- ---- on the way

-- a contract's distance is known, and at most so many
abbrev pub IsWithin : List (Option ℕ) → ℕ → ℕ → Type 0
IsWithin distances bound contract = (d : ℕ) × (slice_index_or distances contract None ≡ Some d) × (d ≤ bound)

-- the contract that stands at a place, and its distance
abbrev pub reached_at : List (ℕ × ℕ) → ℕ → ℕ × ℕ
reached_at reached place = slice_index_or reached place (0, 0)

-- some contracts are reached, each with its distance, and stand in the order of these. Of those before a place, the children
-- are reached too; none is more than one reference farther than the one at the place.
pub record IsReached (graph : List (List ℕ)) (from : ℕ) (distances : List (Option ℕ)) (reached : List (ℕ × ℕ)) (place : ℕ) : Type 0 where
  pub count : length distances ≡ length graph
  pub starts : slice_index_or distances from None ≡ Some 0
  pub some : 0 < length reached
  pub begins : reached_at reached 0 ≡ (from, 0)
  pub sound : (c d : ℕ) → slice_index_or distances c None ≡ Some d → HasPath graph d from c
  pub listed : (c d : ℕ) → slice_index_or distances c None ≡ Some d → Contains reached (c, d)
  pub known : All (λ a. slice_index_or distances a.0 None ≡ Some a.1) reached
  pub sorted : AllPairs (λ a b. (a.1 ≤ b.1) × (a.0 ≢ b.0)) reached
  pub small : (k : ℕ) → k < length reached → (reached_at reached k).1 ≤ k
  pub closed : (k child : ℕ) → k < place → IsChild graph (reached_at reached k).0 child → IsWithin distances ((reached_at reached k).1 + 1) child
  pub near : place < length reached → All (λ a. a.1 ≤ (reached_at reached place).1 + 1) reached
