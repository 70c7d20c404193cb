-- What a filter keeps of the parts of a list.
use Rattle.std.proofs.Common.{◌≡◌, ℕ, ◌+◌, ◌<◌, Bool, true, false, List, [], ◌∷◌, ◌++◌, length, take, drop, refl, sym, ap, ◌∙◌, arith}
use Rattle.std.proofs.lemmas.List.{append-nil, get_or-drop, get_or-take, length-drop, length-take, take-append-drop}
use Rattle.std.proofs.lemmas.List.Elements.{All-head, All-tail, filter-append}
use Rattle.std.specs.List.{All, AllWithin, filter}

module _ {X : Type 0} (P : X → Type 0) where
  pub All-front : (xs : List X) (n : ℕ) → AllWithin P xs 0 n → All P (take n xs)
  All-front xs n all k d within =
      let below : k < n = omega (arith, length-take n xs) in
      rw (get_or-take n xs k d below) (all k d (omega arith) below)

  pub All-back : (xs : List X) (n : ℕ) → AllWithin P xs n (length xs) → All P (drop n xs)
  All-back xs n all k d within =
      rw (get_or-drop n xs k d) (all (n + k) d (omega arith) (omega (arith, length-drop n xs)))

module _ {X : Type 0} (p : X → Bool) where
  pub filter_none : (xs : List X) → All (λ x. p x ≡ false) xs → filter p xs ≡ []
  filter_none [] none = refl
  filter_none (x ∷ xs) none =
      rw (All-head (λ x. p x ≡ false) x xs none) (filter_none xs (All-tail (λ x. p x ≡ false) x xs none))

  filter_all : (xs : List X) → All (λ x. p x ≡ true) xs → filter p xs ≡ xs
  filter_all [] all = refl
  filter_all (x ∷ xs) all =
      rw (All-head (λ x. p x ≡ true) x xs all) (ap (λ xs. x ∷ xs) (filter_all xs (All-tail (λ x. p x ≡ true) x xs all)))

  -- a list of which the front passes and the back doesn't
  pub filter_front : (xs : List X) (n : ℕ) → AllWithin (λ x. p x ≡ true) xs 0 n → AllWithin (λ x. p x ≡ false) xs n (length xs) → filter p xs ≡ take n xs
  filter_front xs n front back =
      ap (filter p) (sym (take-append-drop n xs)) ∙ filter-append p (take n xs) (drop n xs)
      ∙ ap (λ kept. kept ++ filter p (drop n xs)) (filter_all (take n xs) (All-front (λ x. p x ≡ true) xs n front))
      ∙ ap (λ kept. take n xs ++ kept) (filter_none (drop n xs) (All-back (λ x. p x ≡ false) xs n back))
      ∙ append-nil (take n xs)
