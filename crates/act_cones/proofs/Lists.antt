-- Lists that are gone through one by one.
use Rattle.std.proofs.Common.{◌≡◌, ℕ, zero, suc, ◌+◌, ◌<◌, ◌≤◌, ◌⊎◌, List, [], ◌∷◌, ◌++◌, length, get_or, map, drop, take, slice_get, Option, Some, option_map, inl, inr, refl, sym, ap, ◌∙◌, arith}
use Rattle.std.proofs.lemmas.List.{get_or_append_left, get_or_default, length-append, map-append, take_all, take_more}
use Rattle.std.proofs.lemmas.List.Elements.{All-get_or, filter_map-append}
use Rattle.std.proofs.lemmas.Option.{get_or_from_slice_get, same_Some, slice_get-get_or, slice_get_within}
use Rattle.std.proofs.lemmas.Slice.Zip.{get_or-zip, length-zip}
use Rattle.std.specs.List.{All, cons_option, filter_map, zip}
use Rattle.act_model.proofs.Lists.{next_of}

-- what is made of the items from a place on: of the item there, and of those behind it
pub left_from : {A B : Type 0} (f : A → B) (xs : List A) (i : ℕ) (x : A) → i < length xs → x ≡ get_or xs i x → map f (drop i xs) ≡ f x ∷ map f (drop (i + 1) xs)
left_from f xs i x within is = ap (map f) (next_of xs i x within is)

-- ---- the first of what is made of some items

abbrev pub first_of : {A B : Type 0} → (A → Option B) → List A → Option B
first_of f xs = slice_get (filter_map f xs) 0

-- ---- items up to a place

-- one more item
pub one_more : {A : Type 0} (xs : List A) (i : ℕ) (x : A) → i < length xs → x ≡ get_or xs i x → take (i + 1) xs ≡ take i xs ++ x ∷ []
one_more xs i x within is = take_more xs i x within ∙ ap (λ y. take i xs ++ y ∷ []) (sym is)

-- what is made of the items, where something is
pub one_more_kept : {A B : Type 0} (f : A → Option B) (xs : List A) (i : ℕ) (x : A) → i < length xs → x ≡ get_or xs i x → filter_map f (take (i + 1) xs) ≡ filter_map f (take i xs) ++ cons_option (f x) []
one_more_kept f xs i x within is = ap (filter_map f) (one_more xs i x within is) ∙ filter_map-append f (take i xs) (x ∷ [])

-- the pair at a place of two lists
pub pair_at : {A B : Type 0} (xs : List A) (ys : List B) (i : ℕ) (x : A) (y d : B) → i < length xs → length ys ≡ length xs → x ≡ get_or xs i x → y ≡ get_or ys i d → (x, y) ≡ get_or (zip xs ys) i (x, y)
pair_at xs ys i x y d within many here there =
    let lt : i < length ys = omega arith in
    ap (λ z. (z, y)) here ∙ ap (λ z. (get_or xs i x, z)) (there ∙ get_or_default ys i d y lt) ∙ sym (get_or-zip xs ys i (x, y) within lt)

pub within_pairs : {A B : Type 0} (xs : List A) (ys : List B) (i : ℕ) → i < length xs → length ys ≡ length xs → i < length (zip xs ys)
within_pairs xs ys i within many = omega (arith, length-zip xs ys)

-- one more item is looked at: what is made of it, if anything, is behind what is made of the others
pub kept_with : {A B : Type 0} (f : A → Option B) (xs : List A) (i : ℕ) (x : A) (kept next : List B) (made : Option B) → i < length xs → x ≡ get_or xs i x → kept ≡ filter_map f (take i xs) → made ≡ f x → next ≡ kept ++ cons_option made []
    → next ≡ filter_map f (take (i + 1) xs)
kept_with f xs i x kept next made within is so_far here now =
    now ∙ ap (λ l. l ++ cons_option made []) so_far ∙ ap (λ o. filter_map f (take i xs) ++ cons_option o []) here ∙ sym (one_more_kept f xs i x within is)

-- all pairs are looked at
pub all_pairs : {A B : Type 0} (xs : List A) (ys : List B) (i : ℕ) → length xs ≤ i → take i (zip xs ys) ≡ zip xs ys
all_pairs xs ys i past = take_all i (zip xs ys) (omega (arith, length-zip xs ys))

-- one more item is looked at, of which something is always made
pub mapped_with : {A B : Type 0} (f : A → B) (xs : List A) (i : ℕ) (x : A) (so_far next : List B) (made : B) → i < length xs → x ≡ get_or xs i x → so_far ≡ map f (take i xs) → made ≡ f x → next ≡ so_far ++ made ∷ []
    → next ≡ map f (take (i + 1) xs)
mapped_with f xs i x so_far next made within is before here now =
    now ∙ ap (λ l. l ++ made ∷ []) before ∙ ap (λ y. map f (take i xs) ++ y ∷ []) here ∙ sym (map-append f (take i xs) (x ∷ [])) ∙ ap (map f) (sym (one_more xs i x within is))

-- one more pair
pub zip-push : {A B : Type 0} (xs : List A) (ys : List B) (x : A) (y : B) → length xs ≡ length ys → zip (xs ++ x ∷ []) (ys ++ y ∷ []) ≡ zip xs ys ++ (x, y) ∷ []
zip-push [] [] x y same = refl
zip-push [] (b ∷ ys) x y same = absurd (omega arith)
zip-push (a ∷ xs) [] x y same = absurd (omega arith)
zip-push (a ∷ xs) (b ∷ ys) x y same = ap (λ l. (a, b) ∷ l) (zip-push xs ys x y (omega arith))

-- ---- items that are there

-- what holds of all holds of one that is there
pub all_at : {A : Type 0} (P : A → Type 0) (xs : List A) → All P xs → (c : ℕ) (x : A) → slice_get xs c ≡ Some x → P x
all_at P xs all c x here = rw (get_or_from_slice_get xs c x x here) at (All-get_or P xs c x (slice_get_within xs c x here) all)

-- one of those before others is there with these behind it
pub slice_get_before : {A : Type 0} (xs ys : List A) (c : ℕ) (x : A) → slice_get xs c ≡ Some x → slice_get (xs ++ ys) c ≡ Some x
slice_get_before xs ys c x here =
    let within = slice_get_within xs c x here in
    slice_get-get_or (xs ++ ys) c x (omega (arith, length-append xs ys)) ∙ ap Some (get_or_append_left xs ys x c within ∙ get_or_from_slice_get xs c x x here)

-- one of two lists together is one of the first or one of the second
pub either_at : {A : Type 0} (xs ys : List A) (c : ℕ) (x : A) → slice_get (xs ++ ys) c ≡ Some x → (slice_get xs c ≡ Some x) ⊎ ((i : ℕ) × (slice_get ys i ≡ Some x))
either_at [] ys c x here = inr (c, here)
either_at (a ∷ xs) ys zero x here = inl here
either_at (a ∷ xs) ys (suc c) x here = either_at xs ys c x here

-- the first behind some
pub first_behind : {A : Type 0} (xs : List A) (x : A) (more : List A) → slice_get (xs ++ x ∷ more) (length xs) ≡ Some x
first_behind [] x more = refl
first_behind (a ∷ xs) x more = first_behind xs x more

-- what is made of items is made of one that is there
pub made_at : {A B : Type 0} (f : A → B) (xs : List A) (c : ℕ) (y : B) → slice_get (map f xs) c ≡ Some y → (x : A) × (slice_get xs c ≡ Some x) × (f x ≡ y)
made_at f [] c y here = absurd (cc)
made_at f (x ∷ xs) zero y here = (x, refl, same_Some _ _ here)
made_at f (x ∷ xs) (suc c) y here = made_at f xs c y here

-- a pair is of an item, and each item is in one
pub first_of_pair : {A B : Type 0} (xs : List A) (ys : List B) (c : ℕ) (p : A × B) → slice_get (zip xs ys) c ≡ Some p → slice_get xs c ≡ Some p.0
first_of_pair [] ys c p here = absurd (cc)
first_of_pair (x ∷ xs) [] c p here = absurd (cc)
first_of_pair (x ∷ xs) (y ∷ ys) zero p here = ap (option_map (λ q. q.0)) here
first_of_pair (x ∷ xs) (y ∷ ys) (suc c) p here = first_of_pair xs ys c p here

pub in_a_pair : {A B : Type 0} (xs : List A) (ys : List B) (c : ℕ) (x : A) → length ys ≡ length xs → slice_get xs c ≡ Some x → (y : B) × (slice_get (zip xs ys) c ≡ Some (x, y))
in_a_pair [] ys c x many here = absurd (cc)
in_a_pair (a ∷ xs) [] c x many here = absurd (omega arith)
in_a_pair (a ∷ xs) (b ∷ ys) zero x many here = (b, ap (option_map (λ z. (z, b))) here)
in_a_pair (a ∷ xs) (b ∷ ys) (suc c) x many here = in_a_pair xs ys c x (omega arith) here
