-- The order as a function of the references is the one that the relations say.
use Rattle.std.proofs.Common.{◌≡◌, ℕ, ◌<◌, false, List, length, Option, Some, None, Ok, Err, inl, inr, refl}
use Rattle.std.proofs.lemmas.Bool.{cases_lt}
use Rattle.act_refs.specs.Cycle.{IsReportedCycle}
use Rattle.act_refs.specs.Order.{IsFirstTooDeep, IsReferenceOrder, IsTooDeep}
use Rattle.act_refs.specs.Ordered.{by_depth, cyclic, deep, first_deep, goes_on, order_by, order_of, reported_cycle}
use Rattle.act_refs.specs.Path.{HasNoCycle}
use Rattle.act_refs.proofs.Depths.{not_too_deep-outside}
use Rattle.act_refs.proofs.Finding.{find_no_number, find_number, no_number_found}
use Rattle.act_refs.proofs.Leading.{goes_on-from_deep, goes_on-not_deep}
use Rattle.act_refs.proofs.Shortening.{ChildrenExist, reported_cycle-is, reported_cycle-none}
use Rattle.act_refs.proofs.Sorting.{by_depth-order, reference_order-same}

-- ---- the first contract that is too deep

deep-within : (graph : List (List ℕ)) (contract : ℕ) → IsTooDeep graph contract → contract < length graph
deep-within graph contract is =
    elim (cases_lt contract (length graph)) [
      | inl within ↦ within
      | inr outside ↦ absurd (not_too_deep-outside graph contract outside is)
    ]

first_deep-is : (graph : List (List ℕ)) (contract : ℕ) → IsFirstTooDeep graph contract → first_deep graph ≡ Some contract
unfolding first_deep
first_deep-is graph contract is =
    find_number (goes_on graph 16) (length graph) contract (deep-within graph contract is.deep) (goes_on-from_deep graph contract is.deep) (λ k lt.
    goes_on-not_deep graph k (is.least k lt))

first_deep-none : (graph : List (List ℕ)) → ((contract : ℕ) → ¬ (IsTooDeep graph contract)) → first_deep graph ≡ None
unfolding first_deep
first_deep-none graph none = find_no_number (goes_on graph 16) (length graph) (λ k lt. goes_on-not_deep graph k (none k))

none_deep : (graph : List (List ℕ)) → first_deep graph ≡ None → (contract : ℕ) → contract < length graph → goes_on graph 16 contract ≡ false
unfolding first_deep
none_deep graph none contract within = no_number_found (goes_on graph 16) (length graph) none contract within

-- ---- what the relations say is what the function gives

pub order_of-ordered : (graph : List (List ℕ)) (order : List ℕ) → IsReferenceOrder graph order → HasNoCycle graph → ((contract : ℕ) → ¬ (IsTooDeep graph contract)) → order_of graph ≡ Ok order
unfolding order_of
order_of-ordered graph order is no_cycle shallow =
    let no_cycle_found = reported_cycle-none graph no_cycle in
    let none_found = first_deep-none graph shallow in
    let same = reference_order-same graph (by_depth graph) order (by_depth-order graph (λ c within. goes_on-not_deep graph c (shallow c))) is in
    rw (no_cycle_found, none_found, same) refl

pub order_of-cycle : (graph : List (List ℕ)) (cycle : List ℕ) → ChildrenExist graph → IsReportedCycle graph cycle → order_of graph ≡ Err (cyclic cycle)
unfolding order_of
order_of-cycle graph cycle exist is =
    let found = reported_cycle-is graph exist cycle is in
    rw found refl

pub order_of-deep : (graph : List (List ℕ)) (contract : ℕ) → HasNoCycle graph → IsFirstTooDeep graph contract → order_of graph ≡ Err (deep contract)
unfolding order_of
order_of-deep graph contract no_cycle is =
    let no_cycle_found = reported_cycle-none graph no_cycle in
    let found = first_deep-is graph contract is in
    rw (no_cycle_found, found) refl

-- ---- the laws

order_by-Ok : (cycle : Option (List ℕ)) (first : Option ℕ) (sorted order : List ℕ) → order_by cycle first sorted ≡ Ok order → (first ≡ None) × (sorted ≡ order)
order_by-Ok (Some cycle) first sorted order is = absurd (cc)
order_by-Ok None (Some first) sorted order is = absurd (cc)
order_by-Ok None None sorted order is = (refl, cc)

order_of-Ok : (graph : List (List ℕ)) (order : List ℕ) → order_of graph ≡ Ok order → (first_deep graph ≡ None) × (by_depth graph ≡ order)
unfolding order_of
order_of-Ok graph order is = order_by-Ok (reported_cycle graph) (first_deep graph) (by_depth graph) order is

pub order_of-short : (graph : List (List ℕ)) (order : List ℕ) → order_of graph ≡ Ok order → (contract : ℕ) → contract < length graph → goes_on graph 16 contract ≡ false
order_of-short graph order is = none_deep graph (order_of-Ok graph order is).0

pub order_of-reference : (graph : List (List ℕ)) (order : List ℕ) → order_of graph ≡ Ok order → IsReferenceOrder graph order
order_of-reference graph order is =
    let parts = order_of-Ok graph order is in
    rw parts.1 at (by_depth-order graph (none_deep graph parts.0))
