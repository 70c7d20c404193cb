-- What clauses on the contracts that are peeled off say.
use Rattle.std.specs.Prelude.{◌≡◌, ℕ, ◌<◌, Bool, true, false, List, length, slice_index, slice_index_or}
use Rattle.std.specs.List.{All}
use Rattle.act_refs.specs.Path.{OnCycle, children_of}

-- no contract that is marked is on a cycle
abbrev pub ArePeeled : List (List ℕ) → List Bool → Type 0
ArePeeled graph peeled = (contract : ℕ) → slice_index_or peeled contract false ≡ true → ¬ (OnCycle graph contract)

-- on the way: of each contract the children before its next one are marked
pub record IsPeeling (graph : List (List ℕ)) (next : List ℕ) (peeled : List Bool) (queue : List ℕ) : Type 0 where
  pub next_count : length next ≡ length graph
  pub count : length peeled ≡ length graph
  pub marked : ArePeeled graph peeled
  pub passed : (contract k : ℕ) → k < slice_index next contract → k < length (children_of graph contract) →
      slice_index_or peeled (slice_index (children_of graph contract) k) false ≡ true
  pub queued : All (λ contract. contract < length graph) queue
