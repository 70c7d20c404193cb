-- The one cycle that is reported.
use Rattle.std.specs.Prelude.{◌≡◌, ◌≢◌, ℕ, ◌+◌, ◌<◌, ◌≤◌, List, [], ◌∷◌, ◌++◌, length, slice_index}
use Rattle.std.specs.List.{AllPairs}
use Rattle.act_refs.specs.Path.{HasPath, OnCycle, children_of}

-- the next contract on the way to a goal: the first child, in structure order, among those from which the fewest references
-- lead to the goal
pub record IsNext (graph : List (List ℕ)) (goal contract next : ℕ) : Type 0 where
  pub place : ℕ
  pub distance : ℕ
  pub within : place < length (children_of graph contract)
  pub here : slice_index (children_of graph contract) place ≡ next
  pub path : HasPath graph distance next goal
  pub fewest : (k n : ℕ) → k < length (children_of graph contract) →
      HasPath graph n (slice_index (children_of graph contract) k) goal → distance ≤ n
  pub first : (k n : ℕ) → k < place → HasPath graph n (slice_index (children_of graph contract) k) goal → distance < n

-- a way from a contract always to the next on the way back to it, until that is the start again; each contract stands once
pub record IsWayBack (graph : List (List ℕ)) (start : ℕ) (cycle : List ℕ) : Type 0 where
  pub some : 0 < length cycle
  pub starts : slice_index cycle 0 ≡ start
  pub steps : (k : ℕ) → k < length cycle →
      IsNext graph start (slice_index cycle k) (slice_index (cycle ++ start ∷ []) (k + 1))
  pub once : AllPairs (λ earlier later. earlier ≢ later) cycle

-- the cycle that is reported: the one from the least contract that is on a cycle
pub record IsReportedCycle (graph : List (List ℕ)) (cycle : List ℕ) : Type 0 where
  pub start : ℕ
  pub on_cycle : OnCycle graph start
  pub least : (contract : ℕ) → contract < start → ¬ (OnCycle graph contract)
  pub way : IsWayBack graph start cycle
