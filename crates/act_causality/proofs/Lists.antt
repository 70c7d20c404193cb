-- Lists cut at a day: what passes a test, and behind it nothing that does.
pub use Rattle.act_causality.specs.Causality.{IsCut, Late}
use Rattle.std.proofs.Common.{◌≡◌, Bool, true, false, List, [], ◌∷◌, map, Option, None, inl, inr, refl, ap}
use Rattle.std.specs.List.{filter, filter_map, cons_option}
use Rattle.std.proofs.lemmas.Bool.{cases_Bool}

module _ {A : Type 0} (test : A → Bool) where
  pub late-none : (xs : List A) → Late test xs → filter test xs ≡ []
  late-none [] late = refl
  late-none (x ∷ xs) late = rw (late.0) (late-none xs late.1)

  pub none-late : (xs : List A) → filter test xs ≡ [] → Late test xs
  none-late [] none = tt
  none-late (x ∷ xs) none =
      elim (cases_Bool (test x)) [
        | inl passes ↦ let one : x ∷ filter test xs ≡ [] = rw passes at none in absurd (cc)
        | inr fails ↦ (fails, none-late xs (rw fails at none))
      ]

  pub late-cut : (xs : List A) → Late test xs → IsCut test xs
  late-cut [] late = tt
  late-cut (x ∷ xs) late = (λ is. late.1, late-cut xs late.1)

  pub late-filter : (kept : A → Bool) (xs : List A) → Late test xs → Late test (filter kept xs)
  late-filter kept [] late = tt
  late-filter kept (x ∷ xs) late =
      elim (cases_Bool (kept x)) [
        | inl stays ↦ rw stays (late.0, late-filter kept xs late.1)
        | inr goes ↦ rw goes (late-filter kept xs late.1)
      ]

  pub cut-filter : (kept : A → Bool) (xs : List A) → IsCut test xs → IsCut test (filter kept xs)
  cut-filter kept [] cut = tt
  cut-filter kept (x ∷ xs) cut =
      elim (cases_Bool (kept x)) [
        | inl stays ↦ rw stays ((λ is. late-filter kept xs (cut.0 is)), cut-filter kept xs cut.1)
        | inr goes ↦ rw goes (cut-filter kept xs cut.1)
      ]

-- ---- one filter after another

filter-passing : {A : Type 0} (p : A → Bool) (x : A) (xs : List A) → p x ≡ true → filter p (x ∷ xs) ≡ x ∷ filter p xs
filter-passing p x xs is = rw is refl

filter-failing : {A : Type 0} (p : A → Bool) (x : A) (xs : List A) → p x ≡ false → filter p (x ∷ xs) ≡ filter p xs
filter-failing p x xs is = rw is refl

-- the order of two filters doesn't matter
pub filter-swap : {A : Type 0} (p q : A → Bool) (xs : List A) → filter p (filter q xs) ≡ filter q (filter p xs)
filter-swap p q [] = refl
filter-swap p q (x ∷ xs) =
    elim (cases_Bool (p x)) [
      | inl isp ↦ elim (cases_Bool (q x)) [
        | inl isq ↦ rw isp (rw isq (rw isp (ap (λ ys. x ∷ ys) (filter-swap p q xs))))
        | inr notq ↦ rw isp (rw notq (filter-swap p q xs))
      ]
      | inr notp ↦ elim (cases_Bool (q x)) [
        | inl isq ↦ rw notp (rw isq (rw notp (filter-swap p q xs)))
        | inr notq ↦ rw notp (rw notq (filter-swap p q xs))
      ]
    ]

-- a filter after one that lets through all that it does
pub filter-within : {A : Type 0} (p q : A → Bool) → ((x : A) → p x ≡ true → q x ≡ true) → (xs : List A) → filter p (filter q xs) ≡ filter p xs
filter-within p q within [] = refl
filter-within p q within (x ∷ xs) =
    elim (cases_Bool (p x)) [
      | inl isp ↦ rw (within x isp) (rw isp (ap (λ ys. x ∷ ys) (filter-within p q within xs)))
      | inr notp ↦ elim (cases_Bool (q x)) [
        | inl isq ↦ rw notp (rw isq (rw notp (filter-within p q within xs)))
        | inr notq ↦ rw notp (rw notq (filter-within p q within xs))
      ]
    ]

-- a list of what a function gives doesn't need the elements where it gives nothing
pub filter_map-within : {A B : Type 0} (f : A → Option B) (p : A → Bool) → ((x : A) → p x ≡ false → f x ≡ None) → (xs : List A) → filter_map f (filter p xs) ≡ filter_map f xs
filter_map-within f p nothing [] = refl
filter_map-within f p nothing (x ∷ xs) =
    elim (cases_Bool (p x)) [
      | inl is ↦ rw is (ap (λ ys. cons_option (f x) ys) (filter_map-within f p nothing xs))
      | inr fails ↦ rw fails (rw (nothing x fails) (filter_map-within f p nothing xs))
    ]

-- the same elements pass where a map changes nothing that is tested
pub filter-map : {A B : Type 0} (p : A → Bool) (q : B → Bool) (f : A → B) → ((x : A) → q (f x) ≡ p x) → (xs : List A) → filter q (map f xs) ≡ map f (filter p xs)
filter-map p q f same [] = refl
filter-map p q f same (x ∷ xs) =
    elim (cases_Bool (p x)) [
      | inl is ↦ rw (same x) (rw is (ap (λ ys. f x ∷ ys) (filter-map p q f same xs)))
      | inr fails ↦ rw (same x) (rw fails (filter-map p q f same xs))
    ]
