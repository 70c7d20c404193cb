-- The plans of contracts, their children, and the order that they have.
use Rattle.std.proofs.Common.{◌≡◌, ℕ, ◌<◌, List, [], length, map, Some, None, option_map, Ok, Vec, Global, inl, inr, get_or, refl, sym, ap, subst, ◌∙◌, arith, slice_get}
use Rattle.std.specs.List.{All, range_with_len}
use Rattle.std.proofs.lemmas.List.{get_or_default, length-map}
use Rattle.std.proofs.lemmas.List.Elements.{All-get_or}
use Rattle.std.proofs.lemmas.List.FromFn.{get_or-range_with_len, length-range_with_len}
use Rattle.std.proofs.lemmas.List.Sorted.{All-permutation, length_permutation}
use Rattle.std.proofs.lemmas.Option.{get_or_from_slice_get, same_Some, slice_get-map, slice_get_cases, slice_get_read, slice_get_within}
use Rattle.act_model.specs.Run.{EventPlan}
use Rattle.act_model.specs.declared.terms.Terms.{Terms}
use Rattle.act_profile.specs.Plan.{plan_of}
use Rattle.act_refs.specs.Ordered.{order_of}
use Rattle.act_refs.specs.Path.{IsChild}
use Rattle.act_refs.proofs.Ordering.{order_of-reference}
use Rattle.act_refs.proofs.Paths.{IsChild-within}

-- ---- plans, children and order

-- the plan of a contract is that of its terms
pub plan_at : (terms : List Terms) (plans : List EventPlan) → map plan_of terms ≡ map Ok plans → (c : ℕ) (t : Terms) (plan : EventPlan) → slice_get terms c ≡ Some t → plan ≡ get_or plans c plan → plan_of t ≡ Ok plan
plan_at terms plans planned c t plan here is =
    let both : Some (plan_of t) ≡ option_map Ok (slice_get plans c) = sym (slice_get-map plan_of terms c ∙ ap (option_map plan_of) here) ∙ ap (λ l. slice_get l c) planned ∙ slice_get-map Ok plans c in
    elim (slice_get_cases plans c).1 [
      | inl found ↦
          let same : found.0 ≡ plan = sym found.3 ∙ get_or_default plans c found.0 plan found.1 ∙ sym is in
          same_Some _ _ (both ∙ ap (option_map Ok) found.2) ∙ ap Ok same
      | inr past ↦ let none : Some (plan_of t) ≡ None = both ∙ ap (option_map Ok) past.1 in absurd (cc)
    ]

-- the same of each
pub plan_each : (terms : List Terms) (plans : List EventPlan) → map plan_of terms ≡ map Ok plans → (c : ℕ) (t : Terms) (plan : EventPlan) → slice_get terms c ≡ Some t → slice_get plans c ≡ Some plan → plan_of t ≡ Ok plan
plan_each terms plans planned c t plan here there =
    same_Some _ _ (sym (slice_get-map plan_of terms c ∙ ap (option_map plan_of) here) ∙ ap (λ l. slice_get l c) planned ∙ slice_get-map Ok plans c ∙ ap (option_map Ok) there)

-- what holds of each list of a graph holds of one that was read
pub list_at : (P : List ℕ → Type 0) (lists : List (Vec ℕ Global)) (n c : ℕ) (one : Vec ℕ Global) → length (map (λ v. v.items) lists) ≡ n → c < n → one ≡ get_or lists c one → All P (map (λ v. v.items) lists) → P one.items
list_at P lists n c one count within read all =
    let there : c < length lists = omega (arith, count, length-map lists (λ (v : Vec ℕ Global). v.items)) in
    let here : slice_get (map (λ (v : Vec ℕ Global). v.items) lists) c ≡ Some one.items = slice_get-map (λ (v : Vec ℕ Global). v.items) lists c ∙ ap (option_map (λ (v : Vec ℕ Global). v.items)) (slice_get_read lists (length lists) c one refl there read) in
    rw (get_or_from_slice_get _ c one.items one.items here) at (All-get_or P (map (λ (v : Vec ℕ Global). v.items) lists) c one.items (slice_get_within _ c one.items here) all)

-- each number of a reference order is that of a contract
pub order_numbered : (graph : List (List ℕ)) (order : List ℕ) (n : ℕ) → order_of graph ≡ Ok order → length graph ≡ n → All (λ contract. contract < n) order
order_numbered graph order n ordered count =
    All-permutation (λ contract. contract < n) (range_with_len 0 (length graph)) order (order_of-reference graph order ordered).permutation
    (λ k d within. let inside : k < length graph = omega (arith, length-range_with_len 0 (length graph)) in omega (arith, get_or-range_with_len 0 (length graph) k d inside))

-- there are as many as contracts
pub order_counted : (graph : List (List ℕ)) (order : List ℕ) → order_of graph ≡ Ok order → length order ≡ length graph
order_counted graph order ordered = length_permutation (range_with_len 0 (length graph)) order (order_of-reference graph order ordered).permutation ∙ length-range_with_len 0 (length graph)

-- each child is a contract
pub children_exist : (graph : List (List ℕ)) (n : ℕ) → All (All (λ child. child < n)) graph → (parent child : ℕ) → IsChild graph parent child → child < n
children_exist graph n all parent child has =
    let each = all parent [] (IsChild-within graph parent child has) in
    subst (λ (k : ℕ). k < n) has.2 (each has.0 child has.1)
