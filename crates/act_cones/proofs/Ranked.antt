-- The places of contracts in their order, one after the other.
use Rattle.std.proofs.Common.{◌≡◌, ◌≢◌, ℕ, inl, inr, ◌+◌, ◌<◌, ◌≤◌, ◌==◌, List, Ok, Some, length, get_or, slice_get, slice_set, slice_index, sym, ap, ◌∙◌, arith, eq-eqb}
use Rattle.std.proofs.lemmas.Bool.{cases_Bool, eqb-true}
use Rattle.std.proofs.lemmas.Grind.{get_or-set_at}
use Rattle.std.proofs.lemmas.List.{get_or-set_other}
use Rattle.std.proofs.lemmas.Option.{slice_get-get_or}
use Rattle.act_refs.specs.Ordered.{order_of}
use Rattle.act_refs.proofs.Depths.{place}
use Rattle.act_refs.proofs.Ordering.{order_of-reference}

-- the contracts before a place of the order have their places
abbrev pub AreRankedTo : List ℕ → List ℕ → ℕ → Type 0
AreRankedTo order ranks i = (q : ℕ) → q < i → slice_get order (slice_index ranks (get_or order q 0)) ≡ Some (get_or order q 0)

pub one_ranked : (order ranks : List ℕ) (i : ℕ) → i < length order → get_or order i 0 < length ranks → AreRankedTo order ranks i → AreRankedTo order (slice_set ranks (get_or order i 0) i) (i + 1)
one_ranked order ranks i within inside before = λ q lt. elim (cases_Bool (get_or order q 0 == get_or order i 0)) [
  | inl same ↦
      let at : get_or order q 0 ≡ get_or order i 0 = eqb-true (get_or order q 0) (get_or order i 0) same in
      ap (slice_get order) (get_or-set_at ranks (get_or order i 0) (get_or order q 0) i 0 at inside) ∙ (slice_get-get_or order i 0 within ∙ ap Some (sym at))
  | inr other ↦
      let apart : get_or order q 0 ≢ get_or order i 0 = λ is. let same = eq-eqb (get_or order q 0) (get_or order i 0) is in absurd (cc) in
      ap (slice_get order) (get_or-set_other ranks (get_or order i 0) (get_or order q 0) i 0 apart) ∙ before q (omega (arith, λ (is : q ≡ i). apart (ap (λ n. get_or order n 0) is)))
]

pub all_ranked : (graph : List (List ℕ)) (order ranks : List ℕ) (i : ℕ) → order_of graph ≡ Ok order → length order ≤ i → AreRankedTo order ranks i → (c : ℕ) → c < length graph → slice_get order (slice_index ranks c) ≡ Some c
all_ranked graph order ranks i ordered past ranked c within =
    let at = place graph order (order_of-reference graph order ordered) c within in
    rw at.2 at (ranked at.0 (let lt = at.1 in omega arith))
