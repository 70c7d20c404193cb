-- Lists read by `get_elem?`, and sums over them.
use Rattle.std.proofs.Common.{◌≡◌, ◌≢◌, ℕ, zero, suc, ◌+◌, ◌<◌, ◌≤◌, List, [], ◌∷◌, ◌++◌, map, length, get_or, set, refl, sym, ap, ◌∙◌, subst, ⊎_elim, arith, Some, slice_get, add-one}
use Rattle.std.specs.List.{sum_by, All}
use Rattle.std.proofs.lemmas.List.Elements.{All-nil, All-cons, All-head, All-tail}
use Rattle.std.proofs.lemmas.List.Sums.{sum_by-set, get_or-le-sum_by}
use mathlib.Core.Logic.{dite}
use native.Mathlib.Decide.{ℕ_discrete}
use mathlib.Core.Option.{some, some-injective, some-ne-none}
use lib.ListN.{get_elem?}
use Rattle.atomic_table.proofs.Lists.{at_set, at_snoc, set_else}

module _ {A : Type 0} where
  -- a place that has an element is within the list
  pub inside : (l : List A) (i : ℕ) (a : A) → get_elem? l i ≡ some a → i < length l
  inside [] i a e = absurd (some-ne-none a (sym e))
  inside (x ∷ xs) zero a e = omega arith
  inside (x ∷ xs) (suc i) a e = let k = inside xs i a e in omega arith

  pub get_or_is : (l : List A) (i : ℕ) (a d : A) → get_elem? l i ≡ some a → get_or l i d ≡ a
  get_or_is [] i a d e = absurd (some-ne-none a (sym e))
  get_or_is (x ∷ xs) zero a d e = some-injective x a e
  get_or_is (x ∷ xs) (suc i) a d e = get_or_is xs i a d e

  -- a list of one element
  pub only_place : (a b : A) (i : ℕ) → get_elem? (a ∷ []) i ≡ some b → (i ≡ 0) × (a ≡ b)
  only_place a b zero e = (refl, some-injective a b e)
  only_place a b (suc i) e = absurd (some-ne-none b (sym e))

  pub single : (P : A → Type 0) (x : A) → P x → All P (x ∷ [])
  single P x p = All-cons P x [] p (All-nil P)

  -- Q of each element, after one was changed or added
  pub each_set : (Q : A → Type 0) (l : List A) (i : ℕ) (a : A) → ((j : ℕ) (x : A) → get_elem? l j ≡ some x → Q x) → Q a → (j : ℕ) (x : A) → get_elem? (set l i a) j ≡ some x → Q x
  each_set Q l i a h q j x e = ⊎_elim (λ (t : (j ≡ i) × (a ≡ x)). subst Q t.1 q) (λ (t : (j ≢ i) × (get_elem? l j ≡ some x)). h j x t.1) (at_set l i j a x e)

  pub each_snoc : (Q : A → Type 0) (l : List A) (a : A) → ((j : ℕ) (x : A) → get_elem? l j ≡ some x → Q x) → Q a → (j : ℕ) (x : A) → get_elem? (l ++ a ∷ []) j ≡ some x → Q x
  each_snoc Q l a h q j x e = ⊎_elim (h j x) (λ (t : a ≡ x). subst Q t q) (at_snoc l a x j e)

  slice_left : (xs ys : List A) (k : ℕ) → k < length xs → slice_get (xs ++ ys) k ≡ slice_get xs k
  slice_left [] ys k h = absurd (omega arith)
  slice_left (x ∷ xs) ys zero h = refl
  slice_left (x ∷ xs) ys (suc k) h = slice_left xs ys k (omega arith)

  slice_here : (xs : List A) (y : A) → slice_get (xs ++ y ∷ []) (length xs) ≡ Some y
  slice_here [] y = refl
  slice_here (x ∷ xs) y = slice_here xs y

  -- one more behind the list, of which F says what stands where
  pub slice_push : (F : ℕ → A) (xs : List A) (y : A) → ((k : ℕ) → k < length xs → slice_get xs k ≡ Some (F k)) → y ≡ F (length xs) → (k : ℕ) → k < length xs + 1 → slice_get (xs ++ y ∷ []) k ≡ Some (F k)
  slice_push F xs y h is k l = dite (ℕ_discrete k (length xs)) (λ e. ap (slice_get (xs ++ y ∷ [])) e ∙ (slice_here xs y ∙ ap Some (is ∙ ap F (sym e))))
      (λ other. let less : k < length xs = omega arith in slice_left xs (y ∷ []) k less ∙ h k less)

  -- one more in front
  pub slice_front : (F : ℕ → A) (xs : List A) (y : A) → ((k : ℕ) → k < length xs → slice_get xs k ≡ Some (F (k + 1))) → y ≡ F 0 → (k : ℕ) → k < length xs + 1 → slice_get (y ∷ xs) k ≡ Some (F k)
  slice_front F xs y h is zero l = ap Some is
  slice_front F xs y h is (suc k) l = rw (← add-one) (h k (omega arith))

  module _ (f : A → ℕ) where
    pub sum_set : (l : List A) (i : ℕ) (a b : A) → get_elem? l i ≡ some a → sum_by f (set l i b) + f a ≡ sum_by f l + f b
    sum_set l i a b at = subst (λ (z : A). sum_by f (set l i b) + f z ≡ sum_by f l + f b) (get_or_is l i a b at) (sum_by-set f l i b b (inside l i a at))

    pub sum_at : (l : List A) (i : ℕ) (a : A) → get_elem? l i ≡ some a → f a ≤ sum_by f l
    sum_at l i a at = subst (λ (z : A). f z ≤ sum_by f l) (get_or_is l i a a at) (get_or-le-sum_by f l i a (inside l i a at))

    -- z weighs nothing
    pub sum_two : (l : List A) (i j : ℕ) (a b z : A) → get_elem? l i ≡ some a → get_elem? l j ≡ some b → j ≢ i → f z ≡ 0 → f a + f b ≤ sum_by f l
    sum_two l i j a b z p q other none = let less = sum_set l i a z p in let rest = sum_at (set l i z) j b (subst (λ o. o ≡ some b) (sym (set_else l i j z other)) q) in omega arith

module _ {A B : Type 0} (f : A → B) where
  pub all_of_map : (P : B → Type 0) (xs : List A) → All P (map f xs) → All (λ x. P (f x)) xs
  all_of_map P [] h = All-nil (λ x. P (f x))
  all_of_map P (x ∷ xs) h = All-cons (λ x. P (f x)) x xs (All-head P (f x) (map f xs) h) (all_of_map P xs (All-tail P (f x) (map f xs) h))

  pub place_of_map : (xs : List A) (k : ℕ) (y : B) → k < length (map f xs) → get_or (map f xs) k y ≡ y → (x : A) × (k < length xs) × (get_or xs k x ≡ x) × (f x ≡ y)
  place_of_map [] k y l e = absurd (omega arith)
  place_of_map (x ∷ xs) zero y l e = (x, omega arith, refl, e)
  place_of_map (x ∷ xs) (suc k) y l e = let t = place_of_map xs k y (omega arith) e in (t.0, let m = t.1 in omega arith, t.2, t.3)
