-- The order in which contracts are evaluated, and when there is none.
use Rattle.std.specs.Prelude.{◌≡◌, ℕ, ◌<◌, ◌⊎◌, List, length, slice_index}
use Rattle.std.specs.List.{AllPairs, range_with_len}
use Rattle.std.specs.List.Sorted.{IsPermutation}
use Rattle.act_refs.specs.Path.{HasChain, HasDepth, IsChild}
use Rattle.act_refs.specs.declared.references.OrderFault.{OrderFault}
use Rattle.act_refs.specs.declared.references.OrderFault.TheVariants.{Cycle, NoMemory, TooDeep}

-- a contract comes before another: by depth, and then by number
pub record ComesBefore (graph : List (List ℕ)) (earlier later : ℕ) : Type 0 where
  pub depth : ℕ
  pub later_depth : ℕ
  pub has : HasDepth graph earlier depth
  pub later_has : HasDepth graph later later_depth
  pub less : (depth < later_depth) ⊎ ((depth ≡ later_depth) × (earlier < later))

-- the reference order, of contracts that all have a depth: their numbers, sorted by depth and then by number
pub record IsReferenceOrder (graph : List (List ℕ)) (order : List ℕ) : Type 0 where
  pub depths : (contract : ℕ) → contract < length graph → (depth : ℕ) × HasDepth graph contract depth
  pub permutation : IsPermutation (range_with_len 0 (length graph)) order
  pub sorted : AllPairs (ComesBefore graph) order

-- a contract is too deep: a chain of more than 16 contracts starts at it
abbrev pub IsTooDeep : List (List ℕ) → ℕ → Type 0
IsTooDeep graph contract = (count : ℕ) × (16 < count) × HasChain graph contract count

-- it is the one with the least number that is too deep
pub record IsFirstTooDeep (graph : List (List ℕ)) (contract : ℕ) : Type 0 where
  pub deep : IsTooDeep graph contract
  pub least : (other : ℕ) → other < contract → ¬ (IsTooDeep graph other)

-- what holds of the cycle, where the fault is one
abbrev pub IfCycle : OrderFault → (List ℕ → Type 0) → Type 0
IfCycle (Cycle list) P = P list.items
IfCycle (TooDeep contract) P = Unit {0}
IfCycle NoMemory P = Unit {0}

-- what holds of the contract, where the fault is one that is too deep
abbrev pub IfTooDeep : OrderFault → (ℕ → Type 0) → Type 0
IfTooDeep (Cycle list) P = Unit {0}
IfTooDeep (TooDeep contract) P = P contract
IfTooDeep NoMemory P = Unit {0}

-- a contract stands before another in a list
abbrev pub StandsBefore : List ℕ → ℕ → ℕ → Type 0
StandsBefore list earlier later =
    (i : ℕ) × (j : ℕ) × (i < j) × (j < length list) × (slice_index list i ≡ earlier) × (slice_index list j ≡ later)

-- in the reference order each child stands before its parent
abbrev pub ChildrenStandFirst : Type 0
ChildrenStandFirst =
    (graph : List (List ℕ)) (order : List ℕ) → IsReferenceOrder graph order →
    (parent child : ℕ) → IsChild graph parent child → child < length graph → StandsBefore order child parent
