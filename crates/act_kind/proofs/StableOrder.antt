-- A stable sort has one outcome: insertion's.
use Rattle.std.proofs.Common.{◌≡◌, ℕ, zero, suc, ◌<◌, ◌≤◌, Bool, true, false, List, [], ◌∷◌, length, get_or, inl, inr, refl, sym, ap, ◌∙◌, arith}
use Rattle.std.proofs.lemmas.Bool.{cases_Bool}
use Rattle.std.proofs.lemmas.List.Sorted.{IsPermutation-cons, IsPermutation-middle, IsPermutation-refl, IsPermutation-sym, IsPermutation-trans, sorted_far}
use Rattle.std.specs.Cmp.{IsStrictWeakOrder}
use Rattle.std.specs.List.{AllPairs, filter}
use Rattle.std.specs.List.Sorted.{IsPermutation, IsSortedBy, ties}
use Rattle.act_profile.specs.Lists.{insert_by}

-- none of a list comes before x
abbrev pub NoneBefore : {X : Type 0} → (X → X → Bool) → X → List X → Type 0
NoneBefore lt x [] = Unit {0}
NoneBefore lt x (y ∷ ys) = (lt y x ≡ false) × NoneBefore lt x ys

-- no later one comes before an earlier one
abbrev pub Ascends : {X : Type 0} → (X → X → Bool) → List X → Type 0
Ascends lt [] = Unit {0}
Ascends lt (x ∷ xs) = NoneBefore lt x xs × Ascends lt xs

module _ {X : Type 0} (lt : X → X → Bool) (order : IsStrictWeakOrder lt) where
  pub no_self : (x : X) → lt x x ≡ false
  no_self x = elim (cases_Bool (lt x x)) [ inl holds ↦ order.one_way x x holds | inr fails ↦ fails ]

  ties_self : (x : X) → ties lt x x ≡ true
  ties_self x = rw no_self refl

  -- what ties with one that comes before e doesn't tie with e
  no_tie : (z y e : X) → lt y e ≡ true → ties lt z y ≡ true → ties lt z e ≡ false
  no_tie z y e first tie =
      elim (cases_Bool (lt z y)) [
        | inl holds ↦ let never = rw holds at tie in cc
        | inr not_before ↦ elim (cases_Bool (lt y z)) [
          | inl holds ↦ let never = rw (not_before, holds) at tie in cc
          | inr not_after ↦ elim (cases_Bool (lt z e)) [
            | inl holds ↦ rw holds refl
            | inr fails ↦ let never = order.chain y z e not_after fails in cc
          ]
        ]
      ]

  -- ---- insertion

  pub filter-insert : (z e : X) (xs : List X) → filter (ties lt z) (insert_by lt e xs) ≡ filter (ties lt z) (e ∷ xs)
  unfolding insert_by
  filter-insert z e [] = refl
  filter-insert z e (y ∷ ys) =
      elim (cases_Bool (lt y e)) [
        | inl holds ↦
            let ih = filter-insert z e ys in
            elim (cases_Bool (ties lt z y)) [
              | inl tie ↦ let other = no_tie z y e holds tie in rw (holds, tie, other) (ap (λ l. y ∷ l) (rw other at ih))
              | inr none ↦ rw (holds, none, ih) refl
            ]
        | inr fails ↦ rw fails refl
      ]

  none_before-insert : (x e : X) (ys : List X) → NoneBefore lt x ys → lt e x ≡ false → NoneBefore lt x (insert_by lt e ys)
  unfolding insert_by
  none_before-insert x e [] none late = (late, tt)
  none_before-insert x e (y ∷ ys) none late =
      elim (cases_Bool (lt y e)) [
        | inl holds ↦ rw holds (none.0, none_before-insert x e ys none.1 late)
        | inr fails ↦ rw fails (late, none)
      ]

  none_before-later : (y e : X) (ys : List X) → lt y e ≡ false → NoneBefore lt y ys → NoneBefore lt e ys
  none_before-later y e [] late none = tt
  none_before-later y e (z ∷ ys) late none = (order.chain z y e none.0 late, none_before-later y e ys late none.1)

  pub ascends-insert : (e : X) (xs : List X) → Ascends lt xs → Ascends lt (insert_by lt e xs)
  unfolding insert_by
  ascends-insert e [] up = (tt, tt)
  ascends-insert e (y ∷ ys) up =
      elim (cases_Bool (lt y e)) [
        | inl holds ↦ rw holds (none_before-insert y e ys up.0 (order.one_way y e holds), ascends-insert e ys up.1)
        | inr fails ↦ rw fails ((fails, none_before-later y e ys fails up.0), up)
      ]

  pub permutation-insert : (e : X) (xs : List X) → IsPermutation (e ∷ xs) (insert_by lt e xs)
  unfolding insert_by
  permutation-insert e [] = IsPermutation-refl (e ∷ [])
  permutation-insert e (y ∷ ys) =
      elim (cases_Bool (lt y e)) [
        | inl holds ↦
            let front = IsPermutation-sym (y ∷ e ∷ ys) (e ∷ y ∷ ys) (IsPermutation-middle (y ∷ []) e ys) in
            rw holds (IsPermutation-trans (e ∷ y ∷ ys) (y ∷ e ∷ ys) (y ∷ insert_by lt e ys) front (IsPermutation-cons y (e ∷ ys) (insert_by lt e ys) (permutation-insert e ys)))
        | inr fails ↦ rw fails (IsPermutation-refl (e ∷ y ∷ ys))
      ]

  -- ---- one outcome

  -- where x comes before y, nothing from y on ties with x
  none_tie : (x y : X) (ys : List X) → lt x y ≡ true → NoneBefore lt y ys → filter (ties lt x) ys ≡ []
  none_tie x y [] first none = refl
  none_tie x y (z ∷ ys) first none =
      elim (cases_Bool (lt x z)) [
        | inl holds ↦ rw holds (none_tie x y ys first none.1)
        | inr fails ↦ let never = order.chain x z y fails none.0 in cc
      ]

  not_later : (x y : X) (xs ys : List X) → NoneBefore lt y ys → filter (ties lt x) (x ∷ xs) ≡ filter (ties lt x) (y ∷ ys) → lt x y ≡ false
  not_later x y xs ys none same =
      elim (cases_Bool (lt x y)) [
        | inl holds ↦
            let empty : filter (ties lt x) (y ∷ ys) ≡ [] = none_tie x y (y ∷ ys) holds (no_self y, none) in
            let first : filter (ties lt x) (x ∷ xs) ≡ x ∷ filter (ties lt x) xs = rw no_self refl in
            let never : x ∷ filter (ties lt x) xs ≡ [] = sym first ∙ same ∙ empty in
            cc
        | inr fails ↦ fails
      ]

  same_head : (x y : X) (xs ys : List X) → ties lt x y ≡ true → filter (ties lt x) (x ∷ xs) ≡ filter (ties lt x) (y ∷ ys) → x ≡ y
  same_head x y xs ys tie same = let whole = rw (ties_self, tie) at same in cc

  same_rest : (z x y : X) (xs ys : List X) → x ≡ y → filter (ties lt z) (x ∷ xs) ≡ filter (ties lt z) (y ∷ ys) → filter (ties lt z) xs ≡ filter (ties lt z) ys
  same_rest z x y xs ys head same =
      let whole : filter (ties lt z) (x ∷ xs) ≡ filter (ties lt z) (x ∷ ys) = same ∙ ap (λ w. filter (ties lt z) (w ∷ ys)) (sym head) in
      elim (cases_Bool (ties lt z x)) [
        | inl tie ↦ let tails = rw tie at whole in cc
        | inr none ↦ rw none at whole
      ]

  pub same_order : (xs ys : List X) → Ascends lt xs → Ascends lt ys → ((z : X) → filter (ties lt z) xs ≡ filter (ties lt z) ys) → xs ≡ ys
  same_order [] [] up up₂ same = refl
  same_order [] (y ∷ ys) up up₂ same = let never = rw ties_self at (same y) in cc
  same_order (x ∷ xs) [] up up₂ same = let never = rw ties_self at (same x) in cc
  same_order (x ∷ xs) (y ∷ ys) up up₂ same =
      let before = not_later x y xs ys up₂.0 (same x) in
      let after = not_later y x ys xs up.0 (sym (same y)) in
      let tie : ties lt x y ≡ true = rw (before, after) refl in
      let head = same_head x y xs ys tie (same x) in
      let rest = same_order xs ys up.1 up₂.1 (λ z. same_rest z x y xs ys head (same z)) in
      cc

  -- ---- in std's words

  none_before-from_far : (x : X) (xs : List X) → ((k : ℕ) (d : X) → k < length xs → lt (get_or xs k d) x ≡ false) → NoneBefore lt x xs
  none_before-from_far x [] far = tt
  none_before-from_far x (y ∷ ys) far = (far 0 y (omega arith), none_before-from_far x ys (λ k d inside. far (suc k) d (omega arith)))

  ascends-from_far : (xs : List X) → ((i j : ℕ) (d : X) → i ≤ j → j < length xs → lt (get_or xs j d) (get_or xs i d) ≡ false) → Ascends lt xs
  ascends-from_far [] far = tt
  ascends-from_far (x ∷ xs) far = (
    none_before-from_far x xs (λ k d inside. far 0 (suc k) d (omega arith) (omega arith)),
    ascends-from_far xs (λ i j d le inside. far (suc i) (suc j) d (omega arith) (omega arith)),
  )

  pub ascends-from_sorted : (xs : List X) → IsSortedBy lt xs → Ascends lt xs
  ascends-from_sorted xs up = ascends-from_far xs (sorted_far lt order xs up)

  far_none_before : (x : X) (xs : List X) → NoneBefore lt x xs → (k : ℕ) (d : X) → k < length xs → lt (get_or xs k d) x ≡ false
  far_none_before x [] none k d inside = absurd (omega arith)
  far_none_before x (y ∷ ys) none zero d inside = none.0
  far_none_before x (y ∷ ys) none (suc k) d inside = far_none_before x ys none.1 k d (omega arith)

  pub pairs-from_ascends : (xs : List X) → Ascends lt xs → AllPairs (λ earlier later. lt later earlier ≡ false) xs
  pairs-from_ascends [] up i j d less inside = absurd (omega arith)
  pairs-from_ascends (x ∷ xs) up i zero d less inside = absurd (omega arith)
  pairs-from_ascends (x ∷ xs) up zero (suc j) d less inside = far_none_before x xs up.0 j d (omega arith)
  pairs-from_ascends (x ∷ xs) up (suc i) (suc j) d less inside = pairs-from_ascends xs up.1 i j d (omega arith) (omega arith)
