-- The order of pairs.
use Rattle.std.proofs.Common.{◌≡◌, ◌⊎◌, ℕ, zero, suc, ◌+◌, ◌<◌, ◌≤◌, ◌==◌, nat_lt, true, false, List, [], ◌∷◌, length, Option, Some, None, inl, inr, refl, sym, ap, ◌∙◌, arith, eq-eqb}
use Rattle.std.specs.List.{slice_get}
use Rattle.std.proofs.lemmas.Bool.{and_from, and_parts, cases_order, eqb-true, lt-ltb, ltb-true, or_cases}
use Rattle.std.proofs.lemmas.Option.{same_Some, slice_get_within}
use Rattle.act_keeping.specs.Keeping.{AreSorted, IsListed, is_before}
use Rattle.act_keeping.specs.Wanting.{IsPlaceOf}
use Rattle.act_keeping.specs.declared.pair.Pair.{Pair}
use Rattle.act_history.proofs.Reaching.{left-so, right-so}

missing-past : {X : Type 0} (xs : List X) (i : ℕ) → slice_get xs i ≡ None → length xs ≤ i
missing-past [] i none = omega arith
missing-past (x ∷ xs) zero none = absurd (cc)
missing-past (x ∷ xs) (suc i) none = omega (arith, missing-past xs i none)

-- by version, and then by rank
pub before-is : (p : Pair) (v r : ℕ) → is_before p v r ≡ true → (p.version < v) ⊎ ((p.version ≡ v) × (p.rank < r))
before-is p v r is = elim (or_cases (nat_lt p.version v) _ is) [
  | inl lt ↦ inl (ltb-true p.version v lt)
  | inr both ↦ let parts = and_parts (p.version == v) (nat_lt p.rank r) both in inr (eqb-true p.version v parts.0, ltb-true p.rank r parts.1)
]

pub before-so : (p : Pair) (v r : ℕ) → (p.version < v) ⊎ ((p.version ≡ v) × (p.rank < r)) → is_before p v r ≡ true
before-so p v r (inl lt) = left-so (nat_lt p.version v) _ (lt-ltb p.version v lt)
before-so p v r (inr both) = right-so (nat_lt p.version v) _ (and_from (p.version == v) (nat_lt p.rank r) (eq-eqb p.version v both.0) (lt-ltb p.rank r both.1))

pub before-through : (a b : Pair) (v r : ℕ) → is_before a b.version b.rank ≡ true → is_before b v r ≡ true → is_before a v r ≡ true
before-through a b v r ab bv = before-so a v r (elim (before-is a b.version b.rank ab) [
  | inl lt ↦ elim (before-is b v r bv) [ inl lt2 ↦ inl (omega arith) | inr tie ↦ inl (omega (arith, tie.0)) ]
  | inr tie ↦ elim (before-is b v r bv) [ inl lt2 ↦ inl (omega (arith, tie.0)) | inr tie2 ↦ inr (tie.0 ∙ tie2.0, omega (arith, tie.1, tie2.1)) ]
])

pub not-itself : (p : Pair) (v r : ℕ) → is_before p v r ≡ true → p.version ≡ v → p.rank ≡ r → ⊥
not-itself p v r is same_version same_rank = elim (before-is p v r is) [ inl lt ↦ absurd (omega arith) | inr tie ↦ absurd (omega (arith, tie.1)) ]

module _ (pairs : List Pair) (sorted : AreSorted pairs) where
  -- of a version and a rank there is one pair at most
  pub one-only : (i j : ℕ) (a b : Pair) → slice_get pairs i ≡ Some a → slice_get pairs j ≡ Some b → a.version ≡ b.version → a.rank ≡ b.rank → i ≡ j
  one-only i j a b at_i at_j version rank = elim (cases_order i j) [
    | inl same ↦ same
    | inr apart ↦ elim apart [
      | inl lt ↦ absurd (not-itself a b.version b.rank (sorted i j a b lt at_i at_j) version rank)
      | inr gt ↦ absurd (not-itself b a.version a.rank (sorted j i b a gt at_j at_i) (sym version) (sym rank))
    ]
  ]

  pub same-pair : (i j : ℕ) (a b : Pair) → slice_get pairs i ≡ Some a → slice_get pairs j ≡ Some b → a.version ≡ b.version → a.rank ≡ b.rank → a ≡ b
  same-pair i j a b at_i at_j version rank =
      let same = one-only i j a b at_i at_j version rank in
      same_Some a b (sym at_i ∙ (ap (λ (k : ℕ). slice_get pairs k) same ∙ at_j))

  -- a step of the search
  pub lower : (v r middle : ℕ) (m : Pair) → slice_get pairs middle ≡ Some m → is_before m v r ≡ true → (k : ℕ) (pair : Pair) → k < middle + 1 → slice_get pairs k ≡ Some pair → is_before pair v r ≡ true
  lower v r middle m here is k pair lt at = elim (cases_order k middle) [
    | inl same ↦
        let pair-is : m ≡ pair = same_Some m pair (sym here ∙ (ap (λ (n : ℕ). slice_get pairs n) (sym same) ∙ at)) in
        sym (ap (λ (p : Pair). is_before p v r) pair-is) ∙ is
    | inr apart ↦ elim apart [
      | inl less ↦ before-through pair m v r (sorted k middle pair m less at here) is
      | inr gt ↦ absurd (omega arith)
    ]
  ]

  pub upper : (v r middle : ℕ) (m : Pair) → slice_get pairs middle ≡ Some m → is_before m v r ≡ false → (k : ℕ) (pair : Pair) → middle ≤ k → slice_get pairs k ≡ Some pair → ¬ (is_before pair v r ≡ true)
  upper v r middle m here not k pair from at = λ is. elim (cases_order k middle) [
    | inl same ↦
        let pair-is : m ≡ pair = same_Some m pair (sym here ∙ (ap (λ (n : ℕ). slice_get pairs n) (sym same) ∙ at)) in
        let so : is_before m v r ≡ true = ap (λ (p : Pair). is_before p v r) pair-is ∙ is in absurd (cc)
    | inr apart ↦ elim apart [
      | inl less ↦ absurd (omega arith)
      | inr gt ↦ let so : is_before m v r ≡ true = before-through m pair v r (sorted middle k m pair gt here at) is in absurd (cc)
    ]
  ]

  -- what is found
  pub not-listed : (v r place : ℕ) → IsPlaceOf pairs v r place → ((pair : Pair) → slice_get pairs place ≡ Some pair → pair.version ≡ v → pair.rank ≡ r → ⊥) → ¬ (IsListed pairs v r)
  not-listed v r place at none = λ listed.
      let pair = listed.0 in
      let k = listed.1.0 in
      let here : slice_get pairs k ≡ Some pair = listed.1.1 in
      elim (cases_order k place) [
        | inl same ↦ none pair (ap (λ (n : ℕ). slice_get pairs n) (sym same) ∙ here) listed.2 listed.3
        | inr apart ↦ elim apart [
          | inl less ↦ not-itself pair v r (at.before k pair less here) listed.2 listed.3
          | inr gt ↦ past pair k here listed.2 listed.3 gt
        ]
      ]
    where
      past : (pair : Pair) (k : ℕ) → slice_get pairs k ≡ Some pair → pair.version ≡ v → pair.rank ≡ r → place < k → ⊥
      past pair k here version rank gt = absurd (by (slice_get pairs place) refl)
        where
          by : (o : Option Pair) → slice_get pairs place ≡ o → ⊥
          by None is = absurd (omega (arith, slice_get_within pairs k pair here, missing-past pairs place is))
          by (Some first) is =
              at.behind place first (omega arith) is
              (before-so first v r (elim (before-is first pair.version pair.rank (sorted place k first pair gt is here)) [
                | inl lt ↦ inl (omega (arith, version))
                | inr tie ↦ inr (tie.0 ∙ version, omega (arith, tie.1, rank))
              ]))
