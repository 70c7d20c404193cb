-- What a cone's contracts read is among what the cone reads.
use Rattle.std.proofs.Common.{◌≡◌, ◌==◌, ◌⊎◌, nat_lt, ℕ, zero, suc, true, false, List, [], ◌∷◌, map, Option, Some, None, inl, inr, refl, sym, ◌∙◌, ap, arith}
use Rattle.std.specs.List.{AllByRecursion, cons_option, filter_map, flat_map, fold, slice_get}
use Rattle.std.proofs.lemmas.Bool.{cases_Bool}
use Rattle.std.proofs.lemmas.Bool.Decides.{nat_tests}
use Rattle.act_model.specs.declared.terms.Terms.{Terms}
use Rattle.act_profile.specs.Contract.{observed_as}
use Rattle.act_profile.specs.Lists.{insert_once_by}
use Rattle.act_profile.specs.Reads.{ascending, codes_of, codes_read, cone_of, cone_terms, cone_to, contracts_read, is_in}
use Rattle.act_profile.specs.Run.{Contracts, deepest}
use Rattle.act_causality.specs.Causality.{IsWithinDepth, children_at}
use Rattle.act_causality.proofs.References.{Reads, ReadsOwn}
use Rattle.act_causality.proofs.Steps.{in_first, in_second}

-- ---- lists of numbers in order

same_number : (a b : ℕ) → (a == b) ≡ true → a ≡ b
same_number a b same = grind (arith, nat_tests)

itself : (a : ℕ) → (a == a) ≡ true
itself a = grind (arith, nat_tests)

neither : (y x : ℕ) → nat_lt y x ≡ false → nat_lt x y ≡ false → (y == x) ≡ true
neither y x up down = grind (arith, nat_tests)

in_insert : (xs : List ℕ) (x n : ℕ) → is_in xs n ≡ true → is_in (insert_once_by nat_lt xs x) n ≡ true
unfolding insert_once_by
in_insert [] x n is = absurd (cc)
in_insert (y ∷ ys) x n is =
    elim (cases_Bool (nat_lt y x)) [
      | inl less ↦ rw less (elim (cases_Bool (y == n)) [
        | inl here ↦ rw here refl
        | inr other ↦ rw other (in_insert ys x n (rw other at is))
      ])
      | inr more ↦ elim (cases_Bool (nat_lt x y)) [
        | inl between ↦ rw more (rw between (in_second (x ∷ []) (y ∷ ys) n is))
        | inr equal ↦ rw more (rw equal is)
      ]
    ]

in_inserted : (xs : List ℕ) (x : ℕ) → is_in (insert_once_by nat_lt xs x) x ≡ true
unfolding insert_once_by
in_inserted [] x = rw (itself x) refl
in_inserted (y ∷ ys) x =
    elim (cases_Bool (nat_lt y x)) [
      | inl less ↦ rw less (in_second (y ∷ []) (insert_once_by nat_lt ys x) x (in_inserted ys x))
      | inr more ↦ elim (cases_Bool (nat_lt x y)) [
        | inl between ↦ rw more (rw between (rw (itself x) refl))
        | inr equal ↦ rw more (rw equal (rw (neither y x more equal) refl))
      ]
    ]

in_fold : (xs some : List ℕ) (n : ℕ) → (is_in some n ≡ true) ⊎ (is_in xs n ≡ true) → is_in (fold (insert_once_by nat_lt) some xs) n ≡ true
in_fold [] some n (inl is) = is
in_fold [] some n (inr is) = absurd (cc)
in_fold (x ∷ xs) some n (inl is) = in_fold xs (insert_once_by nat_lt some x) n (inl (in_insert some x n is))
in_fold (x ∷ xs) some n (inr is) =
    elim (cases_Bool (x == n)) [
      | inl here ↦ in_fold xs (insert_once_by nat_lt some x) n (inl (rw (sym (same_number x n here)) (in_inserted some x)))
      | inr other ↦ in_fold xs (insert_once_by nat_lt some x) n (inr (rw other at is))
    ]

in_ascending : (xs : List ℕ) (n : ℕ) → is_in xs n ≡ true → is_in (ascending xs) n ≡ true
in_ascending xs n is = in_fold xs [] n (inr is)

-- ---- what the contracts of a list read

more-codes : (o : Option Terms) (rest : List Terms) (code : ℕ) → is_in (flat_map codes_of rest) code ≡ true → is_in (flat_map codes_of (cons_option o rest)) code ≡ true
more-codes None rest code is = is
more-codes (Some t) rest code is = in_second (codes_of t) (flat_map codes_of rest) code is

more-contracts : (o : Option Terms) (rest : List Terms) (n : ℕ) → is_in (map (λ (t : Terms). observed_as t.common) rest) n ≡ true → is_in (map (λ (t : Terms). observed_as t.common) (cons_option o rest)) n ≡ true
more-contracts None rest n is = is
more-contracts (Some t) rest n is = in_second (observed_as t.common ∷ []) (map (λ (u : Terms). observed_as u.common) rest) n is

module _ (contracts : Contracts) where
  in_codes : (xs : List ℕ) (m code : ℕ) (t : Terms) → is_in xs m ≡ true → slice_get contracts.terms m ≡ Some t → is_in (codes_of t) code ≡ true → is_in (flat_map codes_of (filter_map (slice_get contracts.terms) xs)) code ≡ true
  in_codes [] m code t is here within = absurd (cc)
  in_codes (x ∷ xs) m code t is here within =
      elim (cases_Bool (x == m)) [
        | inl same ↦
            let found : slice_get contracts.terms x ≡ Some t = ap (λ (n : ℕ). slice_get contracts.terms n) (same_number x m same) ∙ here in
            rw found (in_first (codes_of t) (flat_map codes_of (filter_map (slice_get contracts.terms) xs)) code within)
        | inr other ↦ more-codes (slice_get contracts.terms x) (filter_map (slice_get contracts.terms) xs) code (in_codes xs m code t (rw other at is) here within)
      ]

  in_contracts : (xs : List ℕ) (m : ℕ) (t : Terms) → is_in xs m ≡ true → slice_get contracts.terms m ≡ Some t → is_in (map (λ (u : Terms). observed_as u.common) (filter_map (slice_get contracts.terms) xs)) (observed_as t.common) ≡ true
  in_contracts [] m t is here = absurd (cc)
  in_contracts (x ∷ xs) m t is here =
      elim (cases_Bool (x == m)) [
        | inl same ↦
            let found : slice_get contracts.terms x ≡ Some t = ap (λ (n : ℕ). slice_get contracts.terms n) (same_number x m same) ∙ here in
            rw found (rw (itself (observed_as t.common)) refl)
        | inr other ↦ more-contracts (slice_get contracts.terms x) (filter_map (slice_get contracts.terms) xs) (observed_as t.common) (in_contracts xs m t (rw other at is) here)
      ]

  -- a contract of a cone reads what the cone reads
  cone-reads : (c m : ℕ) → is_in (cone_to deepest contracts c) m ≡ true → ReadsOwn contracts (codes_read contracts c) (contracts_read contracts c) m
  cone-reads c m is = record {
    own_codes = λ t here code within. in_ascending (flat_map codes_of (cone_terms contracts c)) code (in_codes (cone_of contracts c) m code t (in_ascending (cone_to deepest contracts c) m is) here within);
    own_events = λ t here. in_ascending (map (λ (u : Terms). observed_as u.common) (cone_terms contracts c)) (observed_as t.common) (in_contracts (cone_of contracts c) m t (in_ascending (cone_to deepest contracts c) m is) here);
  }

  module _ (codes reads : List ℕ) where
    children-read : (n : ℕ) (children : List ℕ) → ((k : ℕ) → IsWithinDepth n contracts k → ((m : ℕ) → is_in (cone_to n contracts k) m ≡ true → ReadsOwn contracts codes reads m) → Reads contracts codes reads n k) →
        AllByRecursion (IsWithinDepth n contracts) children → ((m : ℕ) → is_in (flat_map (cone_to n contracts) children) m ≡ true → ReadsOwn contracts codes reads m) → AllByRecursion (Reads contracts codes reads n) children
    children-read n [] each within own = tt
    children-read n (k ∷ children) each within own = (
      each k within.0 (λ m is. own m (in_first (cone_to n contracts k) (flat_map (cone_to n contracts) children) m is)),
      children-read n children each within.1 (λ m is. own m (in_second (cone_to n contracts k) (flat_map (cone_to n contracts) children) m is)),
    )

    reads-all : (n c : ℕ) → IsWithinDepth n contracts c → ((m : ℕ) → is_in (cone_to n contracts c) m ≡ true → ReadsOwn contracts codes reads m) → Reads contracts codes reads n c
    unfolding cone_to
    reads-all zero c within own = absurd within
    reads-all (suc n) c within own =
        (own c (rw (itself c) refl), children-read n (children_at contracts c) (reads-all n) within (λ m is. own m (in_second (c ∷ []) (flat_map (cone_to n contracts) (children_at contracts c)) m is)))

  -- a contract of a chain of references that isn't too deep reads, and all that it reaches reads, what its cone reads
  pub cone-read : (c : ℕ) → IsWithinDepth deepest contracts c → Reads contracts (codes_read contracts c) (contracts_read contracts c) deepest c
  cone-read c within = reads-all (codes_read contracts c) (contracts_read contracts c) deepest c within (cone-reads c)
