-- The numbers of a list, ascending, each once: they are those of the list, and no other list is that.
use Rattle.std.proofs.Common.{◌≡◌, ℕ, zero, suc, ◌+◌, ◌<◌, ◌≤◌, ◌⊎◌, Bool, true, false, All, subst, nat_cmp, nat_lt, if◌then◌else◌, eqb, List, [], ◌∷◌, length, get_or, fold, inl, inr, refl, sym, ap, ◌∙◌, arith}
use Rattle.std.proofs.lemmas.List.{get_or_default}
use Rattle.std.proofs.lemmas.Bool.Decides.{nat_tests}
use Rattle.std.proofs.lemmas.List.Kept.{AllPairs-from_increasing, Contains-dedup_nat, Contains-from_dedup}
use Rattle.std.proofs.lemmas.List.Sorted.{Contains-permutation, IsPermutation-sym}
use Rattle.std.proofs.lemmas.Map.Keys.{IsStrictlyIncreasing-dedup}
use Rattle.std.specs.List.{AllPairs, Contains, dedup}
use Rattle.std.specs.List.Sorted.{IsPermutation, IsSorted, IsStrictlyIncreasing}
use Rattle.act_profile.specs.Lists.{insert_once_by}
use Rattle.act_profile.specs.Reads.{ascending}

-- ---- members

-- a number is one of a list
abbrev pub In : ℕ → List ℕ → Type 0
In c [] = ⊥
In c (x ∷ xs) = (x ≡ c) ⊎ In c xs

pub in-from_contains : (xs : List ℕ) (c : ℕ) → Contains xs c → In c xs
in-from_contains xs c has = at xs has.0 has.1 has.2
  where
    at : (xs : List ℕ) (k : ℕ) → k < length xs → get_or xs k c ≡ c → In c xs
    at [] k lt is = absurd (omega arith)
    at (x ∷ xs) zero lt is = inl is
    at (x ∷ xs) (suc k) lt is = inr (at xs k (omega arith) is)

pub contains-from_in : (xs : List ℕ) (c : ℕ) → In c xs → Contains xs c
contains-from_in [] c is = absurd is
contains-from_in (x ∷ xs) c (inl same) = (0, omega arith, same)
contains-from_in (x ∷ xs) c (inr later) = let has = contains-from_in xs c later in (suc has.0, let lt = has.1 in omega arith, has.2)

-- ---- lists that rise

-- a number is below all of a list
abbrev pub Above : ℕ → List ℕ → Type 0
Above a [] = Unit {0}
Above a (x ∷ xs) = (a < x) × Above a xs

-- each number is below all behind it
abbrev pub Rises : List ℕ → Type 0
Rises [] = Unit {0}
Rises (x ∷ xs) = Above x xs × Rises xs

above_each : (a c : ℕ) (xs : List ℕ) → Above a xs → In c xs → a < c
above_each a c [] above is = absurd is
above_each a c (x ∷ xs) above (inl same) = let lt = above.0 in omega (arith, same)
above_each a c (x ∷ xs) above (inr later) = above_each a c xs above.1 later

above_all : (a : ℕ) (xs : List ℕ) → ((k d : ℕ) → k < length xs → a < get_or xs k d) → Above a xs
above_all a [] all = tt
above_all a (x ∷ xs) all = (all 0 0 (omega arith), above_all a xs (λ k d lt. all (suc k) d (omega arith)))

above_less : (a b : ℕ) (xs : List ℕ) → a < b → Above b xs → Above a xs
above_less a b [] less above = tt
above_less a b (x ∷ xs) less above = (let lt = above.0 in omega arith, above_less a b xs less above.1)

rises-from_pairs : (xs : List ℕ) → AllPairs (λ x y. x < y) xs → Rises xs
rises-from_pairs [] pairs = tt
rises-from_pairs (x ∷ xs) pairs = (above_all x xs (λ k d lt. pairs 0 (suc k) d (omega arith) (omega arith)), rises-from_pairs xs (λ i j d less lt. pairs (suc i) (suc j) d (omega arith) (omega arith)))

-- a list that rises is known by its members
rises_same : (xs ys : List ℕ) → Rises xs → Rises ys → ((c : ℕ) → In c xs → In c ys) → ((c : ℕ) → In c ys → In c xs) → xs ≡ ys
rises_same [] [] up up₂ to from = refl
rises_same [] (y ∷ ys) up up₂ to from = absurd (from y (inl refl))
rises_same (x ∷ xs) [] up up₂ to from = absurd (to x (inl refl))
rises_same (x ∷ xs) (y ∷ ys) up up₂ to from =
    let same = heads (to x (inl refl)) (from y (inl refl)) in
    ap (λ z. z ∷ xs) same ∙ ap (λ l. y ∷ l) (rises_same xs ys up.1 up₂.1
    (λ c is. behind c (above_each x c xs up.0 is) (to c (inr is)) same)
    (λ c is. behind₂ c (above_each y c ys up₂.0 is) (from c (inr is)) same))
  where
    heads : (y ≡ x) ⊎ In x ys → (x ≡ y) ⊎ In y xs → x ≡ y
    heads (inl same) other = sym same
    heads (inr later) (inl same) = same
    heads (inr later) (inr later₂) = let a = above_each y x ys up₂.0 later in let b = above_each x y xs up.0 later₂ in absurd (omega arith)

    behind : (c : ℕ) → x < c → (y ≡ c) ⊎ In c ys → x ≡ y → In c ys
    behind c less (inl is) same = absurd (omega arith)
    behind c less (inr later) same = later

    behind₂ : (c : ℕ) → y < c → (x ≡ c) ⊎ In c xs → x ≡ y → In c xs
    behind₂ c less (inl is) same = absurd (omega arith)
    behind₂ c less (inr later) same = later

-- ---- one more number

module _ (x y : ℕ) (ys : List ℕ) where
  -- the list with a number, by how it compares with the head
  abbrev with_head : Bool → Bool → List ℕ
  with_head after before = if after then y ∷ insert_once_by nat_lt ys x else (if before then x ∷ y ∷ ys else y ∷ ys)

  in_one : (c : ℕ) → (In c (insert_once_by nat_lt ys x) → (x ≡ c) ⊎ In c ys) → (after before : Bool) → nat_lt y x ≡ after → nat_lt x y ≡ before → In c (with_head after before) → (x ≡ c) ⊎ ((y ≡ c) ⊎ In c ys)
  in_one c rest true before e f (inl is) = inr (inl is)
  in_one c rest true before e f (inr later) = elim (rest later) [ inl is ↦ inl is | inr more ↦ inr (inr more) ]
  in_one c rest false true e f is = is
  in_one c rest false false e f is = inr is

  one_in : (c : ℕ) → ((x ≡ c) ⊎ In c ys → In c (insert_once_by nat_lt ys x)) → (after before : Bool) → nat_lt y x ≡ after → nat_lt x y ≡ before → (x ≡ c) ⊎ ((y ≡ c) ⊎ In c ys) → In c (with_head after before)
  one_in c rest true before e f (inl is) = inr (rest (inl is))
  one_in c rest true before e f (inr (inl is)) = inl is
  one_in c rest true before e f (inr (inr later)) = inr (rest (inr later))
  one_in c rest false true e f is = is
  one_in c rest false false e f (inl is) = inl (let a : y ≤ x = grind (arith, nat_tests) in let b : x ≤ y = grind (arith, nat_tests) in omega arith)
  one_in c rest false false e f (inr is) = is

  above_one : (a : ℕ) → Above a (insert_once_by nat_lt ys x) → a < x → (a < y) × Above a ys → (after before : Bool) → Above a (with_head after before)
  above_one a rest less above true before = (above.0, rest)
  above_one a rest less above false true = (less, above)
  above_one a rest less above false false = above

  one_rises : Rises (insert_once_by nat_lt ys x) → (y < x → Above y (insert_once_by nat_lt ys x)) → Above y ys × Rises ys → (after before : Bool) → nat_lt y x ≡ after → nat_lt x y ≡ before → Rises (with_head after before)
  one_rises rest above up true before e f = (above (grind (arith, nat_tests)), rest)
  one_rises rest above up false true e f = let less : x < y = grind (arith, nat_tests) in ((less, above_less x y ys less up.0), up)
  one_rises rest above up false false e f = up

insert_in : (c x : ℕ) (ys : List ℕ) → In c (insert_once_by nat_lt ys x) → (x ≡ c) ⊎ In c ys
unfolding insert_once_by
insert_in c x [] is = is
insert_in c x (y ∷ ys) is = in_one x y ys c (insert_in c x ys) (nat_lt y x) (nat_lt x y) refl refl is

insert_has : (c x : ℕ) (ys : List ℕ) → (x ≡ c) ⊎ In c ys → In c (insert_once_by nat_lt ys x)
unfolding insert_once_by
insert_has c x [] is = is
insert_has c x (y ∷ ys) is = one_in x y ys c (insert_has c x ys) (nat_lt y x) (nat_lt x y) refl refl is

insert_above : (a x : ℕ) (ys : List ℕ) → a < x → Above a ys → Above a (insert_once_by nat_lt ys x)
unfolding insert_once_by
insert_above a x [] less above = (less, tt)
insert_above a x (y ∷ ys) less above = above_one x y ys a (insert_above a x ys less above.1) less above (nat_lt y x) (nat_lt x y)

insert_rises : (x : ℕ) (ys : List ℕ) → Rises ys → Rises (insert_once_by nat_lt ys x)
unfolding insert_once_by
insert_rises x [] up = (tt, tt)
insert_rises x (y ∷ ys) up = one_rises x y ys (insert_rises x ys up.1) (λ less. insert_above y x ys less up.0) up (nat_lt y x) (nat_lt x y) refl refl

-- ---- all numbers

fold_in : (c : ℕ) (numbers so_far : List ℕ) → In c (fold (insert_once_by nat_lt) so_far numbers) → In c so_far ⊎ In c numbers
fold_in c [] so_far is = inl is
fold_in c (x ∷ numbers) so_far is = elim (fold_in c numbers (insert_once_by nat_lt so_far x) is) [
  | inl before ↦ elim (insert_in c x so_far before) [ inl same ↦ inr (inl same) | inr more ↦ inl more ]
  | inr later ↦ inr (inr later)
]

fold_has : (c : ℕ) (numbers so_far : List ℕ) → In c so_far ⊎ In c numbers → In c (fold (insert_once_by nat_lt) so_far numbers)
fold_has c [] so_far (inl is) = is
fold_has c [] so_far (inr is) = absurd is
fold_has c (x ∷ numbers) so_far (inl is) = fold_has c numbers (insert_once_by nat_lt so_far x) (inl (insert_has c x so_far (inr is)))
fold_has c (x ∷ numbers) so_far (inr (inl is)) = fold_has c numbers (insert_once_by nat_lt so_far x) (inl (insert_has c x so_far (inl is)))
fold_has c (x ∷ numbers) so_far (inr (inr is)) = fold_has c numbers (insert_once_by nat_lt so_far x) (inr is)

fold_rises : (numbers so_far : List ℕ) → Rises so_far → Rises (fold (insert_once_by nat_lt) so_far numbers)
fold_rises [] so_far up = up
fold_rises (x ∷ numbers) so_far up = fold_rises numbers (insert_once_by nat_lt so_far x) (insert_rises x so_far up)

pub ascending_in : (c : ℕ) (numbers : List ℕ) → In c (ascending numbers) → In c numbers
ascending_in c numbers is = elim (fold_in c numbers [] is) [ inl none ↦ absurd none | inr has ↦ has ]

pub in_ascending : (c : ℕ) (numbers : List ℕ) → In c numbers → In c (ascending numbers)
in_ascending c numbers is = fold_has c numbers [] (inr is)

pub ascending_rises : (numbers : List ℕ) → Rises (ascending numbers)
ascending_rises numbers = fold_rises numbers [] tt

-- what holds of all holds of them ascending
pub all_ascending : (P : ℕ → Type 0) (numbers : List ℕ) → All P numbers → All P (ascending numbers)
all_ascending P numbers all = λ k d lt.
    let c = get_or (ascending numbers) k d in
    let has = contains-from_in numbers c (ascending_in c numbers (in-from_contains (ascending numbers) c (k, lt, get_or_default (ascending numbers) k c d lt))) in
    subst P has.2 (all has.0 c has.1)

-- lists of the same numbers are the same when they are ascending
pub same_ascending : (xs ys : List ℕ) → ((c : ℕ) → In c xs → In c ys) → ((c : ℕ) → In c ys → In c xs) → ascending xs ≡ ascending ys
same_ascending xs ys to from = rises_same (ascending xs) (ascending ys) (ascending_rises xs) (ascending_rises ys)
    (λ c is. in_ascending c ys (to c (ascending_in c xs is))) (λ c is. in_ascending c xs (from c (ascending_in c ys is)))

-- a list that is sorted and has lost its repetitions
pub sorted_ascends : (old sorted new : List ℕ) → IsPermutation old sorted → IsSorted nat_cmp sorted → new ≡ dedup eqb sorted → new ≡ ascending old
sorted_ascends old sorted new moved up is =
    is ∙ rises_same (dedup eqb sorted) (ascending old) (rises-from_pairs (dedup eqb sorted) (AllPairs-from_increasing (dedup eqb sorted) (IsStrictlyIncreasing-dedup sorted up))) (ascending_rises old)
    (λ c is. in_ascending c old (in-from_contains old c (Contains-permutation sorted old c (IsPermutation-sym old sorted moved) (Contains-from_dedup eqb sorted c (contains-from_in (dedup eqb sorted) c is)))))
    (λ c is. in-from_contains (dedup eqb sorted) c (Contains-dedup_nat sorted c (Contains-permutation old sorted c moved (contains-from_in old c (ascending_in c old is)))))

-- numbers from one on and below another that rise are no more than there are between
few_between : (a n : ℕ) (xs : List ℕ) → Rises xs → a ≤ n → ((c : ℕ) → In c xs → (a ≤ c) × (c < n)) → a + length xs ≤ n
few_between a n [] up within all = omega arith
few_between a n (x ∷ xs) up within all =
    let first = all x (inl refl) in
    let rest = few_between (x + 1) n xs up.1 (let lt = first.1 in omega arith) (λ c is. (let less = above_each x c xs up.0 is in omega arith, (all c (inr is)).1)) in
    let le = first.0 in
    omega arith

pub few_ascend : (numbers : List ℕ) (n : ℕ) → ((c : ℕ) → In c numbers → c < n) → length (ascending numbers) ≤ n
few_ascend numbers n all = let few = few_between 0 n (ascending numbers) (ascending_rises numbers) (omega arith) (λ c is. (omega arith, all c (ascending_in c numbers is))) in omega arith

-- a list that rises increases from each number to the next
increasing-from_rises : (xs : List ℕ) → Rises xs → IsStrictlyIncreasing xs
increasing-from_rises [] up k within = absurd (omega arith)
increasing-from_rises (x ∷ []) up k within = absurd (omega arith)
increasing-from_rises (x ∷ y ∷ xs) up zero within = up.0.0
increasing-from_rises (x ∷ y ∷ xs) up (suc k) within =
    let next : suc k + 1 ≡ suc (k + 1) = omega arith in
    rw next (increasing-from_rises (y ∷ xs) up.1 k (omega arith))

pub ascending_increases : (numbers : List ℕ) → IsStrictlyIncreasing (ascending numbers)
ascending_increases numbers = increasing-from_rises (ascending numbers) (ascending_rises numbers)
