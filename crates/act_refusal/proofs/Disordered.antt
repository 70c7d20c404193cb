-- Why contracts have no order: where the cycle starts, and where the long chain does.
use Rattle.std.proofs.Common.{◌≡◌, ℕ, zero, suc, ◌<◌, List, [], length, map, inl, inr, refl, ap, arith}
use Rattle.std.proofs.lemmas.Bool.{cases_lt}
use Rattle.std.proofs.lemmas.List.{get_or_past}
use Rattle.std.specs.Prelude.{Vec, slice_index}
use Rattle.act_refs.specs.Cycle.{IsReportedCycle}
use Rattle.act_refs.specs.Order.{IsFirstTooDeep}
use Rattle.act_refs.specs.Path.{HasPath, child_lists, children_of}
use Rattle.act_refs.proofs.Paths.{HasPath-first, IsChild-within}

pub lists_are : {A : Type 0} (children : List (Vec ℕ A)) → child_lists children ≡ map (λ c. c.items) children
unfolding child_lists
lists_are children = refl

-- a contract that has children is one
has_children : (graph : List (List ℕ)) (contract place : ℕ) → place < length (children_of graph contract) → contract < length graph
has_children graph contract place within = elim (cases_lt contract (length graph)) [
  | inl lt ↦ lt
  | inr le ↦ let none : children_of graph contract ≡ [] = get_or_past graph contract [] le in absurd (omega (arith, ap length none))
]

-- the first contract of a cycle is one
pub cycle_exists : (graph : List (List ℕ)) (cycle : List ℕ) → IsReportedCycle graph cycle → slice_index cycle 0 < length graph
cycle_exists graph cycle is = let next = is.way.steps 0 is.way.some in has_children graph (slice_index cycle 0) next.place next.within

-- a contract at which a long chain starts is one
pub deep_exists : (graph : List (List ℕ)) (contract : ℕ) → IsFirstTooDeep graph contract → contract < length graph
deep_exists graph contract is = by_references is.deep.2.references is.deep.2.path (let many = is.deep.1 in let count = is.deep.2.contracts in omega arith)
  where
    by_references : (n : ℕ) → HasPath graph n contract is.deep.2.last → 0 < n → contract < length graph
    by_references zero path some = absurd (omega arith)
    by_references (suc n) path some = let step = HasPath-first graph n contract is.deep.2.last path in IsChild-within graph contract step.0 step.1
