-- Lists that are filtered, mapped and joined.
use Rattle.std.proofs.Common.{◌≡◌, ℕ, zero, suc, ◌+◌, ◌-◌, ◌<◌, ◌≤◌, Bool, true, false, List, [], ◌∷◌, ◌++◌, length, get_or, reverse, Some, refl, sym, ap, ◌∙◌, arith}
use Rattle.std.specs.Prelude.{map}
use Rattle.std.specs.List.{All, count_by, filter, flat_map, list_any, range_with_len, slice_get}
use Rattle.std.proofs.lemmas.List.{get_or-reverse, map-append}
use Rattle.std.proofs.lemmas.List.Elements.{All-cons, All-nil}
use Rattle.std.proofs.lemmas.List.Sums.{length-filter}

-- ---- a test of elements that pass another

module _ {X : Type 0} (p q : X → Bool) (implies : (x : X) → p x ≡ true → q x ≡ true) where
  pub filter-within : (xs : List X) → filter p (filter q xs) ≡ filter p xs
  filter-within [] = refl
  filter-within (x ∷ xs) = by (filter-within xs) (p x) (q x) refl refl
    where
      by : filter p (filter q xs) ≡ filter p xs → (yes kept : Bool) → p x ≡ yes → q x ≡ kept → filter p (filter q (x ∷ xs)) ≡ filter p (x ∷ xs)
      by rest true true is keeps = rw (keeps, is) (ap (λ (ys : List X). x ∷ ys) rest)
      by rest true false is keeps = absurd (let so = implies x is in cc)
      by rest false true is keeps = rw (keeps, is) rest
      by rest false false is keeps = rw (keeps, is) rest

  pub count-within : (xs : List X) → count_by p (filter q xs) ≡ count_by p xs
  count-within xs = sym (length-filter p (filter q xs)) ∙ (ap length (filter-within xs) ∙ length-filter p xs)

  pub any-within : (xs : List X) → list_any p (filter q xs) ≡ list_any p xs
  any-within [] = refl
  any-within (x ∷ xs) = by (any-within xs) (p x) (q x) refl refl
    where
      by : list_any p (filter q xs) ≡ list_any p xs → (yes kept : Bool) → p x ≡ yes → q x ≡ kept → list_any p (filter q (x ∷ xs)) ≡ list_any p (x ∷ xs)
      by rest true true is keeps = rw (keeps, is) refl
      by rest true false is keeps = absurd (let so = implies x is in cc)
      by rest false true is keeps = rw (keeps, is) rest
      by rest false false is keeps = rw (keeps, is) rest

-- ---- what holds of each

module _ {X : Type 0} where
  pub All-by_place : (P : X → Type 0) (xs : List X) → ((k : ℕ) (x : X) → slice_get xs k ≡ Some x → P x) → All P xs
  All-by_place P [] each = All-nil P
  All-by_place P (x ∷ xs) each = All-cons P x xs (each 0 x refl) (All-by_place P xs (λ k y at. each (suc k) y at))

  -- the element of a place of a list that was turned round
  pub turned-read : (xs ys : List X) (k : ℕ) (x : X) → ys ≡ reverse xs → k < length xs → x ≡ get_or ys k x → x ≡ get_or xs (length xs - 1 - k) x
  turned-read xs ys k x turned within read = read ∙ (ap (λ (zs : List X). get_or zs k x) turned ∙ get_or-reverse xs k x within)

-- ---- lists that are joined

module _ {X Y Z : Type 0} where
  pub map-joined : (f : Y → Z) (g : X → List Y) (xs : List X) → map f (flat_map g xs) ≡ flat_map (λ x. map f (g x)) xs
  map-joined f g [] = refl
  map-joined f g (x ∷ xs) = map-append f (g x) (flat_map g xs) ∙ ap (λ (zs : List Z). map f (g x) ++ zs) (map-joined f g xs)

module _ {Y : Type 0} (g : ℕ → List Y) where
  none-joined : (count first : ℕ) → ((n : ℕ) → first ≤ n → g n ≡ []) → flat_map g (range_with_len first count) ≡ []
  none-joined zero first none = refl
  none-joined (suc count) first none =
      ap (λ (ys : List Y). ys ++ flat_map g (range_with_len (first + 1) count)) (none first (omega arith))
      ∙ none-joined count (first + 1) (λ n behind. none n (omega (arith, behind)))

  -- the parts of a list, where the part of each place is that of its number, and those of the numbers behind them are empty
  pub joined-by_number : {X : Type 0} (of : X → List Y) (xs : List X) (first more : ℕ) → ((k : ℕ) (x : X) → slice_get xs k ≡ Some x → of x ≡ g (first + k))
      → ((n : ℕ) → first + length xs ≤ n → g n ≡ []) → flat_map of xs ≡ flat_map g (range_with_len first (length xs + more))
  joined-by_number of [] first more each none =
      let count : more ≡ 0 + more = omega arith in
      sym (none-joined more first (λ n behind. none n (omega (arith, behind)))) ∙ ap (λ (k : ℕ). flat_map g (range_with_len first k)) count
  joined-by_number {X} of (x ∷ xs) first more each none =
      let count : suc (length xs + more) ≡ length (x ∷ xs) + more = omega arith in
      let here : first + 0 ≡ first = omega arith in
      let rest : flat_map of xs ≡ flat_map g (range_with_len (first + 1) (length xs + more)) =
      joined-by_number of xs (first + 1) more
      (λ k y at. let there : first + suc k ≡ (first + 1) + k = omega arith in each (suc k) y at ∙ ap g there) (λ n behind. none n (omega (arith, behind))) in
      ap (λ (ys : List Y). ys ++ flat_map of xs) (each 0 x refl ∙ ap g here)
      ∙ (ap (λ (ys : List Y). g first ++ ys) rest ∙ ap (λ (k : ℕ). flat_map g (range_with_len first k)) count)

-- the elements of a list, where that of each place is that of its number
pub mapped-by_number : {X Y : Type 0} (g : ℕ → Y) (f : X → Y) (xs : List X) (first : ℕ) → ((k : ℕ) (x : X) → slice_get xs k ≡ Some x → f x ≡ g (first + k)) → map f xs ≡ map g (range_with_len first (length xs))
mapped-by_number g f [] first each = refl
mapped-by_number {X} {Y} g f (x ∷ xs) first each =
    let here : first + 0 ≡ first = omega arith in
    let rest : map f xs ≡ map g (range_with_len (first + 1) (length xs)) =
    mapped-by_number g f xs (first + 1) (λ k y at. let there : first + suc k ≡ (first + 1) + k = omega arith in each (suc k) y at ∙ ap g there) in
    ap (λ (y : Y). y ∷ map f xs) (each 0 x refl ∙ ap g here) ∙ ap (λ (ys : List Y). g first ∷ ys) rest
