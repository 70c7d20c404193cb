-- The contracts by depth, collected depth by depth, are the reference order, and there is no other.
use Rattle.std.proofs.Common.{◌≡◌, zero-add, ℕ, zero, suc, ◌+◌, ◌-◌, ◌<◌, ◌≤◌, ◌⊎◌, eqb, Bool, true, false, List, [], ◌∷◌, ◌++◌, length, get_or, inl, inr, refl, sym, ap, ◌∙◌, arith, eq-eqb}
use Rattle.std.proofs.lemmas.Bool.{cases_Bool, cases_eq, cases_lt, cond-false, cond-true, eqb-true, false≢true}
use Rattle.std.proofs.lemmas.List.Elements.{All-append, All-filter, Contains-append_left, Contains-append_right, filter_passes}
use Rattle.std.proofs.lemmas.List.FromFn.{length-range_with_len}
use Rattle.std.proofs.lemmas.List.Kept.{AllPairs-cons, AllPairs-filter}
use Rattle.std.proofs.lemmas.List.Sorted.{Contains-permutation, IsPermutation-sym}
use Rattle.std.proofs.lemmas.List.Sums.{length-filter}
use Rattle.std.specs.List.{All, AllPairs, Contains, count_by, filter, flat_map, range_with_len}
use Rattle.act_refs.specs.Order.{ComesBefore, IsReferenceOrder}
use Rattle.act_refs.specs.Ordered.{by_depth, depth_of, goes_on}
use Rattle.act_refs.specs.Path.{HasDepth}
use Rattle.act_refs.proofs.Depths.{HasChain-one, HasDepth-same, apart}
use Rattle.act_refs.proofs.Finding.{All-numbers, Contains-numbers, get_or-numbers}
use Rattle.act_refs.proofs.Leading.{chain-from_goes_on, goes_on-fewer, goes_on-from_chain, goes_on-none}
use Rattle.act_refs.proofs.Permuting.{behind, permutes_all}

-- ---- lists

Contains-behind : (x c : ℕ) (xs : List ℕ) → Contains xs c → Contains (x ∷ xs) c
Contains-behind x c xs has = (suc has.0, omega (arith, has.1), has.2)

Contains-filter : (p : ℕ → Bool) (xs : List ℕ) (k c : ℕ) → k < length xs → get_or xs k c ≡ c → p c ≡ true → Contains (filter p xs) c
Contains-filter p [] k c lt is pass = absurd (omega arith)
Contains-filter p (x ∷ xs) zero c lt is pass =
    let same : x ≡ c = is in
    rw (same, cond-true (p c) (c ∷ filter p xs) (filter p xs) pass) (0, omega arith, refl)
Contains-filter p (x ∷ xs) (suc k) c lt is pass =
    let has = Contains-filter p xs k c (omega arith) is pass in
    elim (cases_Bool (p x)) [
      | inl kept ↦ rw (cond-true (p x) (x ∷ filter p xs) (filter p xs) kept) (Contains-behind x c (filter p xs) has)
      | inr left ↦ rw (cond-false (p x) (x ∷ filter p xs) (filter p xs) left) has
    ]

-- the head comes before what stands behind it
head_before : (R : ℕ → ℕ → Type 0) (x c : ℕ) (xs : List ℕ) → AllPairs R (x ∷ xs) → Contains xs c → R x c
head_before R x c xs pairs has = rw has.2 at (pairs 0 (suc has.0) c (omega arith) (omega (arith, has.1)))

pairs_behind : (R : ℕ → ℕ → Type 0) (x : ℕ) (xs : List ℕ) → AllPairs R (x ∷ xs) → AllPairs R xs
pairs_behind R x xs pairs = λ i j d lt within. pairs (suc i) (suc j) d (omega arith) (omega arith)

AllPairs-append : (R : ℕ → ℕ → Type 0) (xs ys : List ℕ) → AllPairs R xs → AllPairs R ys → All (λ x. All (R x) ys) xs → AllPairs R (xs ++ ys)
AllPairs-append R [] ys left right across = right
AllPairs-append R (x ∷ xs) ys left right across =
    AllPairs-cons R x (xs ++ ys)
    (All-append (R x) xs ys (λ k d lt. left 0 (suc k) d (omega arith) (omega arith)) (across 0 0 (omega arith)))
    (AllPairs-append R xs ys (pairs_behind R x xs left) right (λ k d lt. across (suc k) d (omega arith)))

-- two lists of the same elements that are sorted by one strict order are equal
module _ (R : ℕ → ℕ → Type 0) (strict : (a b : ℕ) → R a b → R b a → ⊥) where
  others : (x c : ℕ) (xs ys : List ℕ) → AllPairs R (x ∷ xs) → Contains xs c → Contains (x ∷ ys) c → Contains ys c
  others x c xs ys sorted has has₂ = behind x c ys (λ same.
      let before : R x c = head_before R x c xs sorted has in
      let loop : R c c = rw same at before in
      strict c c loop loop) has₂

  pub sorted_same : (xs ys : List ℕ) → AllPairs R xs → AllPairs R ys → ((c : ℕ) → Contains xs c → Contains ys c) → ((c : ℕ) → Contains ys c → Contains xs c) → xs ≡ ys
  sorted_same [] [] sorted sorted₂ to from = refl
  sorted_same [] (y ∷ ys) sorted sorted₂ to from = let none = from y (0, omega arith, refl) in absurd (omega (arith, none.1))
  sorted_same (x ∷ xs) [] sorted sorted₂ to from = let none = to x (0, omega arith, refl) in absurd (omega (arith, none.1))
  sorted_same (x ∷ xs) (y ∷ ys) sorted sorted₂ to from = elim (cases_eq x y) [
    | inl same ↦
        let sorted_y : AllPairs R (y ∷ xs) = rw same at sorted in
        let to_y : (c : ℕ) → Contains (y ∷ xs) c → Contains (y ∷ ys) c = rw same at to in
        let from_y : (c : ℕ) → Contains (y ∷ ys) c → Contains (y ∷ xs) c = rw same at from in
        rw same (ap (λ (cs : List ℕ). y ∷ cs) (sorted_same xs ys (pairs_behind R y xs sorted_y) (pairs_behind R y ys sorted₂)
        (λ c has. others y c xs ys sorted_y has (to_y c (Contains-behind y c xs has)))
        (λ c has. others y c ys xs sorted₂ has (from_y c (Contains-behind y c ys has)))))
    | inr other ↦
        let x_later = behind y x ys (λ same. other (sym same)) (to x (0, omega arith, refl)) in
        let y_later = behind x y xs other (from y (0, omega arith, refl)) in
        absurd (strict x y (head_before R x y xs sorted y_later) (head_before R y x ys sorted₂ x_later))
  ]

-- ---- there is one reference order

comes_before-strict : (graph : List (List ℕ)) (a b : ℕ) → ComesBefore graph a b → ComesBefore graph b a → ⊥
comes_before-strict graph a b before after =
    let same_a = HasDepth-same graph a before.depth after.later_depth before.has after.later_has in
    let same_b = HasDepth-same graph b before.later_depth after.depth before.later_has after.has in
    elim before.less [
      | inl lt ↦ elim after.less [ inl lt₂ ↦ omega arith | inr tie ↦ omega (arith, tie.0) ]
      | inr tie ↦ elim after.less [ inl lt ↦ omega (arith, tie.0) | inr tie₂ ↦ omega (arith, tie.1, tie₂.1) ]
    ]

order_has : (graph : List (List ℕ)) (xs ys : List ℕ) → IsReferenceOrder graph xs → IsReferenceOrder graph ys → (c : ℕ) → Contains xs c → Contains ys c
order_has graph xs ys is is₂ c has =
    let numbers = range_with_len 0 (length graph) in
    Contains-permutation numbers ys c is₂.permutation (Contains-permutation xs numbers c (IsPermutation-sym numbers xs is.permutation) has)

pub reference_order-same : (graph : List (List ℕ)) (xs ys : List ℕ) → IsReferenceOrder graph xs → IsReferenceOrder graph ys → xs ≡ ys
reference_order-same graph xs ys is is₂ =
    sorted_same (ComesBefore graph) (comes_before-strict graph) xs ys is.sorted is₂.sorted (order_has graph xs ys is is₂) (order_has graph ys xs is₂ is)

-- ---- depths, counted

-- how many numbers from one on pass a test, where none passes behind one that fails
record IsCount (p : ℕ → Bool) (a count : ℕ) : Type 0 where
  passes : (k : ℕ) → k < count → p (a + k) ≡ true
  ends : p (a + count) ≡ false

count_more : (p : ℕ → Bool) (a count : ℕ) → p a ≡ true → IsCount p (a + 1) count → IsCount p a (suc count)
count_more p a count pass rest =
    record {
      passes = λ k lt. elim (cases_eq k 0) [
        | inl first ↦ let here : a + k ≡ a = omega arith in rw here pass
        | inr later ↦ let here : (a + 1) + (k - 1) ≡ a + k = omega arith in rw here at (rest.passes (k - 1) (omega arith))
      ];
      ends = let here : (a + 1) + count ≡ a + suc count = omega arith in rw here at rest.ends;
    }

count_none : (p : ℕ → Bool) → ((k : ℕ) → p (suc k) ≡ true → p k ≡ true) → (a count : ℕ) → p a ≡ false → IsCount p (a + 1) count → IsCount p a count
count_none p falls a count fail rest =
    elim (cases_eq count 0) [
      | inl none ↦ let here : a + count ≡ a = omega arith in record { passes = λ k lt. absurd (omega arith); ends = rw here fail }
      | inr some ↦
          let here : (a + 1) + 0 ≡ suc a = omega arith in
          absurd (false≢true (sym fail ∙ falls a (rw here at (rest.passes 0 (omega arith)))))
    ]

counts : (p : ℕ → Bool) → ((k : ℕ) → p (suc k) ≡ true → p k ≡ true) → (m a : ℕ) → p (a + m) ≡ false → IsCount p a (length (filter p (range_with_len a m)))
counts p falls zero a fails = record { passes = λ k lt. absurd (omega arith); ends = fails }
counts p falls (suc m) a fails =
    let next : a + suc m ≡ (a + 1) + m = omega arith in
    let rest = counts p falls m (a + 1) (rw next at fails) in
    let passing = filter p (range_with_len (a + 1) m) in
    elim (cases_Bool (p a)) [
      | inl pass ↦ rw (cond-true (p a) (a ∷ passing) passing pass) (count_more p a (length passing) pass rest)
      | inr fail ↦ rw (cond-false (p a) (a ∷ passing) passing fail) (count_none p falls a (length passing) fail rest)
    ]

depth_ends : (graph : List (List ℕ)) (contract depth : ℕ) → IsCount (λ n. goes_on graph n contract) 0 depth → HasDepth graph contract depth
depth_ends graph contract zero is = absurd (false≢true (sym is.ends ∙ goes_on-none graph contract))
depth_ends graph contract (suc d) is =
    let end : goes_on graph (suc d) contract ≡ false = rw zero-add at is.ends in
    record {
      chain = chain-from_goes_on graph d contract (rw zero-add at (is.passes d (omega arith)));
      longest = λ count chain. elim (cases_lt (suc d) count) [
        | inl more ↦ absurd (false≢true (sym end ∙ goes_on-from_chain graph (suc d) contract count chain more))
        | inr le ↦ le
      ];
    }

depth_counted : (graph : List (List ℕ)) (most contract : ℕ) → goes_on graph most contract ≡ false → HasDepth graph contract (count_by (λ n. goes_on graph n contract) (range_with_len 0 most))
depth_counted graph most contract shallow =
    rw (← length-filter (λ n. goes_on graph n contract) (range_with_len 0 most)) (depth_ends graph contract (length (filter (λ n. goes_on graph n contract) (range_with_len 0 most)))
    (counts (λ n. goes_on graph n contract) (λ k. goes_on-fewer graph k (suc k) contract (omega arith)) most 0 (rw zero-add shallow)))

depth_of-is : (graph : List (List ℕ)) (contract : ℕ) → goes_on graph 16 contract ≡ false → HasDepth graph contract (depth_of graph contract)
unfolding depth_of
depth_of-is graph contract shallow = depth_counted graph 16 contract shallow

depth_few : (graph : List (List ℕ)) (contract depth : ℕ) → HasDepth graph contract depth → goes_on graph 16 contract ≡ false → depth ≤ 16
depth_few graph contract depth has shallow = elim (cases_lt 16 depth) [
  | inl more ↦ absurd (false≢true (sym shallow ∙ goes_on-from_chain graph 16 contract depth has.chain more))
  | inr le ↦ le
]

-- ---- depth by depth

module _ (f : ℕ → ℕ) (n : ℕ) where
  abbrev Before : ℕ → ℕ → Type 0
  Before a b = (f a < f b) ⊎ ((f a ≡ f b) × (a < b))

  abbrev level : ℕ → List ℕ
  level k = filter (λ c. eqb (f c) (suc k)) (range_with_len 0 n)

  level_is : (k : ℕ) → All (λ c. (f c ≡ suc k) × (c < n)) (level k)
  level_is k = λ i d lt. (
    eqb-true (f (get_or (level k) i d)) (suc k) (filter_passes (λ c. eqb (f c) (suc k)) (range_with_len 0 n) i d lt),
    All-filter (λ c. eqb (f c) (suc k)) (λ c. c < n) (range_with_len 0 n) (All-numbers (λ c. c < n) n (λ c few. few)) i d lt,
  )

  level_has : (k c : ℕ) → c < n → f c ≡ suc k → Contains (level k) c
  level_has k c lt is =
      let there = Contains-numbers n c lt in
      Contains-filter (λ c. eqb (f c) (suc k)) (range_with_len 0 n) there.0 c there.1 there.2 (eq-eqb (f c) (suc k) is)

  numbers_rise : AllPairs (λ a b. a < b) (range_with_len 0 n)
  numbers_rise = λ i j d lt within.
      let size = length-range_with_len 0 n in
      omega (arith, get_or-numbers n i d (omega arith), get_or-numbers n j d (omega arith))

  level_sorted : (k : ℕ) → AllPairs Before (level k)
  level_sorted k = λ i j d lt within.
      let is = level_is k i d (omega arith) in
      let is₂ = level_is k j d within in
      inr (is.0 ∙ sym is₂.0, AllPairs-filter (λ a b. a < b) (λ c. eqb (f c) (suc k)) (range_with_len 0 n) numbers_rise i j d lt within)

  abbrev levels : ℕ → ℕ → List ℕ
  levels a m = flat_map level (range_with_len a m)

  levels_are : (m a : ℕ) → All (λ c. (a < f c) × (f c ≤ a + m) × (c < n)) (levels a m)
  levels_are zero a = λ i d lt. absurd (omega arith)
  levels_are (suc m) a =
      All-append (λ c. (a < f c) × (f c ≤ a + suc m) × (c < n)) (level a) (levels (a + 1) m)
      (λ i d lt. let is = level_is a i d lt in (omega (arith, is.0), omega (arith, is.0), is.1))
      (λ i d lt. let are = levels_are m (a + 1) i d lt in (omega (arith, are.0), omega (arith, are.1), are.2))

  levels_have : (m a c : ℕ) → c < n → a < f c → f c ≤ a + m → Contains (levels a m) c
  levels_have zero a c lt low high = absurd (omega arith)
  levels_have (suc m) a c lt low high = elim (cases_eq (f c) (suc a)) [
    | inl here ↦ Contains-append_left (level a) (levels (a + 1) m) c (level_has a c lt here)
    | inr later ↦ Contains-append_right (level a) (levels (a + 1) m) c (levels_have m (a + 1) c lt (omega arith) (omega arith))
  ]

  levels_sorted : (m a : ℕ) → AllPairs Before (levels a m)
  levels_sorted zero a = λ i j d lt within. absurd (omega arith)
  levels_sorted (suc m) a =
      AllPairs-append Before (level a) (levels (a + 1) m) (level_sorted a) (levels_sorted m (a + 1)) (λ i d lt. λ j e few.
      let is = level_is a i d lt in
      let are = levels_are m (a + 1) j e few in
      inl (omega (arith, is.0, are.0)))

-- ---- the reference order

module _ (graph : List (List ℕ)) (f : ℕ → ℕ) (most : ℕ) (has : (c : ℕ) → c < length graph → HasDepth graph c (f c) × (f c ≤ most)) where
  abbrev collected : List ℕ
  collected = levels f (length graph) 0 most

  collected_sorted : AllPairs (ComesBefore graph) collected
  collected_sorted = λ i j d lt within.
      let are = levels_are f (length graph) most 0 i d (omega arith) in
      let are₂ = levels_are f (length graph) most 0 j d within in
      record {
        depth = f (get_or collected i d);
        later_depth = f (get_or collected j d);
        has = (has (get_or collected i d) are.2).0;
        later_has = (has (get_or collected j d) are₂.2).0;
        less = levels_sorted f (length graph) most 0 i j d lt within;
      }

  collected_order : IsReferenceOrder graph collected
  collected_order =
      record {
        depths = λ c within. (f c, (has c within).0);
        permutation = permutes_all (length graph) collected
            (λ i j d lt within. apart graph (get_or collected i d) (get_or collected j d) (collected_sorted i j d lt within))
            (λ c within.
            let depth = has c within in
            levels_have f (length graph) most 0 c within (omega (arith, depth.0.longest 1 (HasChain-one graph c))) (omega (arith, depth.1)))
            (λ k d lt. (levels_are f (length graph) most 0 k d lt).2);
        sorted = collected_sorted;
      }

-- where no chain is too long, the contracts by depth are in the reference order
pub by_depth-order : (graph : List (List ℕ)) → ((c : ℕ) → c < length graph → goes_on graph 16 c ≡ false) → IsReferenceOrder graph (by_depth graph)
unfolding by_depth
by_depth-order graph shallow =
    collected_order graph (depth_of graph) 16 (λ c within.
    let depth = depth_of-is graph c (shallow c within) in
    (depth, depth_few graph c (depth_of graph c) depth (shallow c within)))
