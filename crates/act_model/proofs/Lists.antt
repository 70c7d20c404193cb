-- Lists that are gone through one by one.
use Rattle.std.proofs.Common.{◌≡◌, ℕ, ◌+◌, ◌-◌, ◌<◌, ◌≤◌, List, [], ◌∷◌, ◌++◌, length, take, drop, get_or, slice_get, Some, inl, inr, refl, sym, ap, ◌∙◌, arith}
use Rattle.std.proofs.lemmas.Bool.{cases_lt}
use Rattle.std.proofs.lemmas.List.{drop-take, drop_more, get_or-append_right, get_or_append_left, length-append, take-append-drop, take-take}
use Rattle.std.proofs.lemmas.Option.{slice_get-get_or, slice_get_past}

-- what stands behind a front
pub behind : {X : Type 0} (front back : List X) (x : X) → slice_get (front ++ x ∷ back) (length front) ≡ Some x
behind [] back x = refl
behind (y ∷ front) back x = behind front back x

-- what comes next, from a place on
pub next_of : {X : Type 0} (xs : List X) (i : ℕ) (x : X) → i < length xs → x ≡ get_or xs i x → drop i xs ≡ x ∷ drop (i + 1) xs
next_of xs i x within is = drop_more xs i x within ∙ ap (λ y. y ∷ drop (i + 1) xs) (sym is)

-- a list up to one place, and from there up to another
pub take_parts : {X : Type 0} (a b : ℕ) (xs : List X) → a ≤ b → take a xs ++ take (b - a) (drop a xs) ≡ take b xs
take_parts a b xs within =
    let whole : take (a + (b - a)) xs ≡ take b xs = ap (λ n. take n xs) (omega arith) in
    ap (λ front. front ++ take (b - a) (drop a xs)) (sym (take-take a b xs within))
    ∙ ap (λ back. take a (take b xs) ++ back) (sym (drop-take a (b - a) xs) ∙ ap (drop a) whole)
    ∙ take-append-drop a (take b xs)

-- what stands in the front of two lists, and in the back
pub get_front : {X : Type 0} (xs ys : List X) (k : ℕ) (d : X) → k < length xs → slice_get (xs ++ ys) k ≡ slice_get xs k
get_front xs ys k d below =
    slice_get-get_or (xs ++ ys) k d (omega (arith, length-append xs ys)) ∙ ap Some (get_or_append_left xs ys d k below) ∙ sym (slice_get-get_or xs k d below)

pub get_back : {X : Type 0} (xs ys : List X) (k : ℕ) (d : X) → length xs ≤ k → slice_get (xs ++ ys) k ≡ slice_get ys (k - length xs)
get_back xs ys k d behind = elim (cases_lt (k - length xs) (length ys)) [
  | inl below ↦
      slice_get-get_or (xs ++ ys) k d (omega (arith, length-append xs ys)) ∙ ap Some (get_or-append_right xs ys (length xs) k d refl behind) ∙ sym (slice_get-get_or ys (k - length xs) d below)
  | inr past ↦ slice_get_past (xs ++ ys) k (omega (arith, length-append xs ys)) ∙ sym (slice_get_past ys (k - length xs) past)
]
