-- Contracts that refer to others, their children, and the paths along the references. A contract is named by its number,
-- which is its place in the list.
use Rattle.std.specs.Prelude.{◌≡◌, ℕ, zero, suc, ◌≤◌, List, [], map, slice_index_or, Vec}
use Rattle.std.specs.List.{Contains}

-- the children of all contracts, as plain lists
unfoldable pub child_lists : {A : Type 0} → List (Vec ℕ A) → List (List ℕ)
child_lists children = map (λ list. list.items) children

-- the children of a contract, in structure order
abbrev pub children_of : List (List ℕ) → ℕ → List ℕ
children_of graph contract = slice_index_or graph contract []

-- a contract refers to another
abbrev pub IsChild : List (List ℕ) → ℕ → ℕ → Type 0
IsChild graph parent child = Contains (children_of graph parent) child

-- a path of so many references leads from a contract to another
unfoldable pub HasPath : List (List ℕ) → ℕ → ℕ → ℕ → Type 0
HasPath graph zero from to = from ≡ to
HasPath graph (suc n) from to = (child : ℕ) × IsChild graph from child × HasPath graph n child to

-- the contract is on a cycle: a path of at least one reference leads from it back to it
abbrev pub OnCycle : List (List ℕ) → ℕ → Type 0
OnCycle graph contract = (n : ℕ) × HasPath graph (suc n) contract contract

-- no contract is
abbrev pub HasNoCycle : List (List ℕ) → Type 0
HasNoCycle graph = (contract : ℕ) → ¬ (OnCycle graph contract)

-- a chain of so many contracts starts at the contract: a path, which has one reference less
pub record HasChain (graph : List (List ℕ)) (start count : ℕ) : Type 0 where
  pub last : ℕ
  pub references : ℕ
  pub path : HasPath graph references start last
  pub contracts : suc references ≡ count

-- the depth of a contract: the number of contracts on the longest chain that starts at it
pub record HasDepth (graph : List (List ℕ)) (contract depth : ℕ) : Type 0 where
  pub chain : HasChain graph contract depth
  pub longest : (count : ℕ) → HasChain graph contract count → count ≤ depth
