-- The order in which contracts are evaluated, or why there is none, as functions of the references: by trying out paths of 0, 1, 2 and more references.
use Rattle.std.specs.Prelude.{ℕ, zero, suc, ◌==◌, if◌then◌else◌, Bool, true, is_some, List, [], ◌∷◌, length, Option, Some, None, option_and_then, option_map, Result, Ok, Err}
use Rattle.std.specs.List.{count_by, filter, find, flat_map, list_any, range_with_len}
use Rattle.act_refs.specs.Path.{children_of}

-- ---- paths

-- a path of so many references leads to a contract, from another
unfoldable pub leads : List (List ℕ) → ℕ → ℕ → ℕ → Bool
leads graph zero to from = from == to
leads graph (suc n) to from = list_any (leads graph n to) (children_of graph from)

-- a path of so many references starts at a contract
unfoldable pub goes_on : List (List ℕ) → ℕ → ℕ → Bool
goes_on graph zero contract = true
goes_on graph (suc n) contract = list_any (goes_on graph n) (children_of graph contract)

-- ---- the cycle that is reported

-- the fewest references that lead to a goal from one of a contract's children
abbrev pub fewest_to : List (List ℕ) → ℕ → ℕ → Option ℕ
fewest_to graph goal contract = find (λ n. list_any (leads graph n goal) (children_of graph contract)) (range_with_len 0 (length graph))

-- the next contract on the way to a goal: the first child from which the fewest references lead to it
abbrev pub next_to : List (List ℕ) → ℕ → ℕ → Option ℕ
next_to graph goal contract = option_and_then (λ n. find (leads graph n goal) (children_of graph contract)) (fewest_to graph goal contract)

-- the way on from a contract by its next one, which ends before the goal
abbrev pub onward : (ℕ → List ℕ) → ℕ → Option ℕ → List ℕ
onward way goal None = []
onward way goal (Some next) = if next == goal then [] else way next

-- a contract and those behind it on the way to a goal, at most so many
unfoldable pub way_to : List (List ℕ) → ℕ → ℕ → ℕ → List ℕ
way_to graph goal zero contract = []
way_to graph goal (suc n) contract = contract ∷ onward (way_to graph goal n) goal (next_to graph goal contract)

-- a contract is on a cycle
abbrev pub is_on_cycle : List (List ℕ) → ℕ → Bool
is_on_cycle graph contract = is_some (fewest_to graph contract contract)

-- the cycle that is reported: from the least contract that is on one, always to the next on the way back to it
unfoldable pub reported_cycle : List (List ℕ) → Option (List ℕ)
reported_cycle graph =
    option_map (λ start. way_to graph start (length graph) start) (find (is_on_cycle graph) (range_with_len 0 (length graph)))

-- ---- the order

-- the most contracts in a chain
abbrev pub most_in_chain : ℕ
most_in_chain = 16

-- the least contract at which a chain of more contracts than that starts
unfoldable pub first_deep : List (List ℕ) → Option ℕ
first_deep graph = find (goes_on graph most_in_chain) (range_with_len 0 (length graph))

-- the depth of a contract: how many contracts the longest chain has that starts at it, where it has no more than there may be
unfoldable pub depth_of : List (List ℕ) → ℕ → ℕ
depth_of graph contract = count_by (λ n. goes_on graph n contract) (range_with_len 0 most_in_chain)

-- the contracts by depth, and those of one depth by number
unfoldable pub by_depth : List (List ℕ) → List ℕ
by_depth graph = flat_map (λ n. filter (λ contract. depth_of graph contract == suc n) (range_with_len 0 (length graph))) (range_with_len 0 most_in_chain)

-- why contracts have no order: those of a cycle, or the first at which a chain of too many starts
pub data Disorder : Type 0 where
  cyclic : List ℕ → Disorder
  deep : ℕ → Disorder

abbrev pub order_by : Option (List ℕ) → Option ℕ → List ℕ → Result (List ℕ) Disorder
order_by (Some cycle) first order = Err (cyclic cycle)
order_by None (Some first) order = Err (deep first)
order_by None None order = Ok order

-- the order in which contracts are evaluated, children first, or why there is none
unfoldable pub order_of : List (List ℕ) → Result (List ℕ) Disorder
order_of graph = order_by (reported_cycle graph) (first_deep graph) (by_depth graph)
