-- Elements of lists by their places.
use Rattle.std.proofs.Common.{◌≡◌, ◌≢◌, ◌⊎◌, ℕ, zero, suc, ◌+◌, ◌<◌, ◌≤◌, List, [], ◌∷◌, ◌++◌, length, take, set, Some, inl, inr, refl, sym, ap, ◌∙◌, arith}
use Rattle.std.specs.List.{insert, slice_get}
use Rattle.std.proofs.lemmas.Bool.{cases_order}
use Rattle.std.proofs.lemmas.List.Edits.{get_or-insert_above, get_or-insert_at, get_or-insert_below, length-insert}
use Rattle.std.proofs.lemmas.Option.{same_Some, slice_get-get_or, slice_get_within}

module _ {X : Type 0} where
  -- ---- a write

  pub get-set : (xs : List X) (i : ℕ) (y : X) → i < length xs → slice_get (set xs i y) i ≡ Some y
  get-set [] i y within = absurd (omega arith)
  get-set (x ∷ xs) zero y within = refl
  get-set (x ∷ xs) (suc i) y within = get-set xs i y (omega arith)

  pub get-set_other : (xs : List X) (i j : ℕ) (y : X) → j ≢ i → slice_get (set xs i y) j ≡ slice_get xs j
  get-set_other [] i j y other = refl
  get-set_other (x ∷ xs) zero zero y other = absurd (other refl)
  get-set_other (x ∷ xs) zero (suc j) y other = refl
  get-set_other (x ∷ xs) (suc i) zero y other = refl
  get-set_other (x ∷ xs) (suc i) (suc j) y other = get-set_other xs i j y (λ same. other (ap suc same))

  -- the element at a place after a write: the new one, or an old one of another place
  pub get-set_cases : (xs : List X) (i j : ℕ) (y z : X) → i < length xs → slice_get (set xs i y) j ≡ Some z → ((j ≡ i) × (y ≡ z)) ⊎ ((j ≢ i) × (slice_get xs j ≡ Some z))
  get-set_cases xs i j y z within is = elim (cases_order j i) [
    | inl same ↦ inl (same, same_Some y z (sym (get-set xs i y within) ∙ (ap (λ (k : ℕ). slice_get (set xs i y) k) (sym same) ∙ is)))
    | inr apart ↦ let other : j ≢ i = λ same. elim apart [ inl lt ↦ absurd (omega arith) | inr gt ↦ absurd (omega arith) ] in inr (other, sym (get-set_other xs i j y other) ∙ is)
  ]

  -- ---- one more at the end

  pub get-push : (xs : List X) (y : X) → slice_get (xs ++ y ∷ []) (length xs) ≡ Some y
  get-push [] y = refl
  get-push (x ∷ xs) y = get-push xs y

  pub get-push_cases : (xs : List X) (y z : X) (k : ℕ) → slice_get (xs ++ y ∷ []) k ≡ Some z → ((k < length xs) × (slice_get xs k ≡ Some z)) ⊎ ((k ≡ length xs) × (y ≡ z))
  get-push_cases [] y z zero is = inr (refl, same_Some y z is)
  get-push_cases [] y z (suc k) is = absurd (cc)
  get-push_cases (x ∷ xs) y z zero is = inl (omega arith, is)
  get-push_cases (x ∷ xs) y z (suc k) is = elim (get-push_cases xs y z k is) [
    | inl old ↦ inl (omega (arith, old.0), old.1)
    | inr new ↦ inr (ap suc new.0, new.1)
  ]

  pub get-take : (xs : List X) (n k : ℕ) → k < n → slice_get (take n xs) k ≡ slice_get xs k
  get-take [] zero k lt = refl
  get-take [] (suc n) k lt = refl
  get-take (x ∷ xs) zero k lt = absurd (omega arith)
  get-take (x ∷ xs) (suc n) zero lt = refl
  get-take (x ∷ xs) (suc n) (suc k) lt = get-take xs n k (omega arith)

  -- ---- an insert

  module _ (xs : List X) (i : ℕ) (y : X) (le : i ≤ length xs) where
    pub get-insert_below : (k : ℕ) → k < i → slice_get (insert xs i y) k ≡ slice_get xs k
    get-insert_below k lt =
        slice_get-get_or (insert xs i y) k y (omega (arith, length-insert xs i y le))
        ∙ (ap Some (get_or-insert_below xs i y y k lt le) ∙ sym (slice_get-get_or xs k y (omega arith)))

    pub get-insert_at : slice_get (insert xs i y) i ≡ Some y
    get-insert_at = slice_get-get_or (insert xs i y) i y (omega (arith, length-insert xs i y le)) ∙ ap Some (get_or-insert_at xs i y y le)

    pub get-insert_above : (k : ℕ) → i ≤ k → k < length xs → slice_get (insert xs i y) (k + 1) ≡ slice_get xs k
    get-insert_above k from within =
        slice_get-get_or (insert xs i y) (k + 1) y (omega (arith, length-insert xs i y le))
        ∙ (ap Some (get_or-insert_above xs i y y k from le) ∙ sym (slice_get-get_or xs k y within))

    -- the element at a place after an insert: an old one before it, the new one, or an old one behind it
    pub get-insert_cases : (k : ℕ) (z : X) → slice_get (insert xs i y) k ≡ Some z
        → ((k < i) × (slice_get xs k ≡ Some z)) ⊎ (((k ≡ i) × (y ≡ z)) ⊎ ((j : ℕ) × (k ≡ j + 1) × (i ≤ j) × (slice_get xs j ≡ Some z)))
    get-insert_cases k z is = elim (cases_order k i) [
      | inl same ↦ inr (inl (same, same_Some y z (sym get-insert_at ∙ (ap (λ (n : ℕ). slice_get (insert xs i y) n) (sym same) ∙ is))))
      | inr apart ↦ elim apart [
        | inl lt ↦ inl (lt, sym (get-insert_below k lt) ∙ is)
        | inr gt ↦ behind k gt is
      ]
    ]
      where
        behind : (k : ℕ) → i < k → slice_get (insert xs i y) k ≡ Some z → ((k < i) × (slice_get xs k ≡ Some z)) ⊎ (((k ≡ i) × (y ≡ z)) ⊎ ((j : ℕ) × (k ≡ j + 1) × (i ≤ j) × (slice_get xs j ≡ Some z)))
        behind zero gt is = absurd (omega arith)
        behind (suc j) gt is =
            let within = slice_get_within (insert xs i y) (suc j) z is in
            let next : suc j ≡ j + 1 = omega arith in
            inr (inr (j, next, omega arith, sym (get-insert_above j (omega arith) (omega (arith, within, length-insert xs i y le))) ∙ (ap (λ (n : ℕ). slice_get (insert xs i y) n) (sym next) ∙ is)))
