-- The cone of each contract over those of its children.
use Rattle.std.proofs.Common.{◌≡◌, unwrap_or, slice_get, ℕ, zero, suc, ◌+◌, ◌<◌, ◌≤◌, ◌⊎◌, ◌==◌, Bool, true, false, List, [], ◌∷◌, ◌++◌, length, get_or, map, slice_set, Ok, inl, inr, refl, sym, ap, subst, ◌∙◌, arith, eq-eqb}
use Rattle.std.proofs.lemmas.Bool.{cases_Bool, cases_order, eqb-true}
use Rattle.std.proofs.lemmas.Grind.{get_or-set_at}
use Rattle.std.proofs.lemmas.List.{get_or_default, get_or-set_other, length-set, same_lists}
use Rattle.std.proofs.lemmas.List.Folds.{list_any_at}
use Rattle.std.proofs.lemmas.List.FromFn.{get_or-map-range_with_len, get_or-range_with_len, length-map-range_with_len, length-range_with_len}
use Rattle.std.proofs.lemmas.List.Sorted.{All-permutation}
use Rattle.std.proofs.lemmas.Option.{unwrap_or-slice_get}
use Rattle.std.specs.List.{All, flat_map, list_any, range_with_len}
use Rattle.act_profile.specs.Lists.{insert_once_by}
use Rattle.act_profile.specs.Reads.{ascending, cone_of, cone_to}
use Rattle.act_profile.specs.Run.{Contracts}
use Rattle.act_refs.specs.Ordered.{goes_on, order_of}
use Rattle.act_refs.specs.Path.{IsChild, children_of}
use Rattle.act_refs.proofs.Depths.{child_earlier, place}
use Rattle.act_refs.proofs.Ordering.{order_of-reference, order_of-short}
use Rattle.act_refs.proofs.Paths.{IsChild-within}
use Rattle.act_cones.specs.Cones.{numbers_of}
use Rattle.act_cones.proofs.Ascending.{In, ascending_in, contains-from_in, few_ascend, in_ascending, same_ascending}

-- ---- members of lists that are joined

pub in_append : (d : ℕ) (xs ys : List ℕ) → In d (xs ++ ys) → In d xs ⊎ In d ys
in_append d [] ys is = inr is
in_append d (x ∷ xs) ys (inl same) = inl (inl same)
in_append d (x ∷ xs) ys (inr later) = elim (in_append d xs ys later) [ inl first ↦ inl (inr first) | inr second ↦ inr second ]

pub append_in : (d : ℕ) (xs ys : List ℕ) → In d xs ⊎ In d ys → In d (xs ++ ys)
append_in d [] ys (inl is) = absurd is
append_in d [] ys (inr is) = is
append_in d (x ∷ xs) ys (inl (inl same)) = inl same
append_in d (x ∷ xs) ys (inl (inr later)) = inr (append_in d xs ys (inl later))
append_in d (x ∷ xs) ys (inr is) = inr (append_in d xs ys (inr is))

-- the cone of a contract without children
pub over_none : (f : ℕ → List ℕ) (c : ℕ) (children : List ℕ) → length children ≡ 0 → c ∷ [] ≡ ascending (c ∷ flat_map f children)
unfolding insert_once_by
over_none f c [] none = refl
over_none f c (child ∷ children) none = absurd (omega arith)

-- one that is in a joined list is in that of an item
in_joined : (d : ℕ) (f : ℕ → List ℕ) (xs : List ℕ) → In d (flat_map f xs) → (x : ℕ) × In x xs × In d (f x)
in_joined d f [] is = absurd is
in_joined d f (x ∷ xs) is = elim (in_append d (f x) (flat_map f xs) is) [
  | inl here ↦ (x, inl refl, here)
  | inr later ↦ let found = in_joined d f xs later in (found.0, inr found.1, found.2)
]

joined_in : (d : ℕ) (f : ℕ → List ℕ) (xs : List ℕ) (x : ℕ) → In x xs → In d (f x) → In d (flat_map f xs)
joined_in d f [] x is here = absurd is
joined_in d f (y ∷ xs) x (inl same) here = append_in d (f y) (flat_map f xs) (inl (subst (λ z. In d (f z)) (sym same) here))
joined_in d f (y ∷ xs) x (inr later) here = append_in d (f y) (flat_map f xs) (inr (joined_in d f xs x later here))

-- lists that are joined from the same ones
joined_same : (f g : ℕ → List ℕ) (xs : List ℕ) → ((x : ℕ) → In x xs → f x ≡ g x) → flat_map f xs ≡ flat_map g xs
joined_same f g [] same = refl
joined_same f g (x ∷ xs) same = ap (λ l. l ++ flat_map f xs) (same x (inl refl)) ∙ ap (λ l. g x ++ l) (joined_same f g xs (λ y is. same y (inr is)))

-- of items that come several times once is enough
pub over_distinct : (f : ℕ → List ℕ) (c : ℕ) (xs : List ℕ) → ascending (c ∷ flat_map f (ascending xs)) ≡ ascending (c ∷ flat_map f xs)
over_distinct f c xs = same_ascending (c ∷ flat_map f (ascending xs)) (c ∷ flat_map f xs)
    (λ d is. elim is [ inl same ↦ inl same | inr later ↦ let found = in_joined d f (ascending xs) later in inr (joined_in d f xs found.0 (ascending_in found.0 xs found.1) found.2) ])
    (λ d is. elim is [ inl same ↦ inl same | inr later ↦ let found = in_joined d f xs later in inr (joined_in d f (ascending xs) found.0 (in_ascending found.0 xs found.1) found.2) ])

-- none of a list passes a test
none_passes : (p : ℕ → Bool) (xs : List ℕ) (x : ℕ) → list_any p xs ≡ false → In x xs → p x ≡ false
none_passes p xs x none is = by (p x) refl
  where
    by : (b : Bool) → p x ≡ b → p x ≡ false
    by false at = at
    by true at = let has = contains-from_in xs x is in let some = list_any_at p xs has.0 x has.1 (ap p has.2 ∙ at) in absurd (cc)

-- ---- a cone and those of the children

module _ (contracts : Contracts) where
  is_child : (c child : ℕ) → In child (unwrap_or (slice_get contracts.children c) []) → In child (children_of contracts.children c)
  is_child c child is = subst (In child) (unwrap_or-slice_get contracts.children c []) is

  -- where no longer chain starts, a cone over more references is the same
  cone_settles : (n c : ℕ) → goes_on contracts.children n c ≡ false → cone_to (suc n) contracts c ≡ cone_to n contracts c
  unfolding cone_to goes_on
  cone_settles zero c ends = absurd (cc)
  cone_settles (suc n) c ends =
      ap (λ l. c ∷ l) (joined_same (cone_to (suc n) contracts) (cone_to n contracts) (unwrap_or (slice_get contracts.children c) []) (λ child is.
      cone_settles n child (none_passes (goes_on contracts.children n) (children_of contracts.children c) child ends (is_child c child is))))

  cone_step : (n c : ℕ) → goes_on contracts.children (suc n) c ≡ false → cone_to (suc n) contracts c ≡ c ∷ flat_map (cone_to (suc n) contracts) (children_of contracts.children c)
  unfolding cone_to goes_on
  cone_step n c ends =
      ap (λ l. c ∷ l) (joined_same (cone_to n contracts) (cone_to (suc n) contracts) (unwrap_or (slice_get contracts.children c) []) (λ child is.
      sym (cone_settles n child (none_passes (goes_on contracts.children n) (children_of contracts.children c) child ends (is_child c child is))))
      ∙ ap (flat_map (cone_to (suc n) contracts)) (unwrap_or-slice_get contracts.children c []))

  -- a cone is that of the contract and the cones of its children
  cone_over : (c : ℕ) → goes_on contracts.children 16 c ≡ false → cone_of contracts c ≡ ascending (c ∷ flat_map (cone_of contracts) (children_of contracts.children c))
  cone_over c ends =
      let children = children_of contracts.children c in
      ap ascending (cone_step 15 c ends)
      ∙ same_ascending (c ∷ flat_map (cone_to 16 contracts) children) (c ∷ flat_map (cone_of contracts) children)
      (λ d is. elim is [ inl same ↦ inl same | inr later ↦ let found = in_joined d (cone_to 16 contracts) children later in inr (joined_in d (cone_of contracts) children found.0 found.1 (in_ascending d (cone_to 16 contracts found.0) found.2)) ])
      (λ d is. elim is [ inl same ↦ inl same | inr later ↦ let found = in_joined d (cone_of contracts) children later in inr (joined_in d (cone_to 16 contracts) children found.0 found.1 (ascending_in d (cone_to 16 contracts found.0) found.2)) ])

  -- ---- its members are contracts

  module _ (exist : All (All (λ child. child < length contracts.children)) contracts.children) where
    child_exists : (c child : ℕ) → IsChild contracts.children c child → child < length contracts.children
    child_exists c child has =
        let all = exist c [] (IsChild-within contracts.children c child has) in
        subst (λ k. k < length contracts.children) has.2 (all has.0 child has.1)

    reached_exists : (n c d : ℕ) → c < length contracts.children → In d (cone_to n contracts c) → d < length contracts.children
    unfolding cone_to
    reached_exists zero c d within is = absurd is
    reached_exists (suc n) c d within (inl same) = subst (λ k. k < length contracts.children) same within
    reached_exists (suc n) c d within (inr later) =
        let found = in_joined d (cone_to n contracts) (unwrap_or (slice_get contracts.children c) []) later in
        reached_exists n found.0 d (child_exists c found.0 (contains-from_in (children_of contracts.children c) found.0 (is_child c found.0 found.1))) found.2

    pub cone-within : (c d : ℕ) → c < length contracts.children → In d (cone_of contracts c) → d < length contracts.children
    cone-within c d within is = reached_exists 16 c d within (ascending_in d (cone_to 16 contracts c) is)

    pub cone-few : (c : ℕ) → c < length contracts.children → length (cone_of contracts c) ≤ length contracts.children
    cone-few c within = few_ascend (cone_to 16 contracts c) (length contracts.children) (λ d is. reached_exists 16 c d within is)

-- ---- the cones in the order of the contracts

-- the cones of the contracts before a place of the order are there
pub record AreConed (contracts : Contracts) (order : List ℕ) (cones : List (List ℕ)) (p : ℕ) : Type 0 where
  pub count : length cones ≡ length contracts.children
  pub before : (q : ℕ) → q < p → get_or cones (get_or order q 0) [] ≡ cone_of contracts (get_or order q 0)

module _ (contracts : Contracts) (order : List ℕ) (ordered : order_of contracts.children ≡ Ok order) where
  -- what stands in the order is a contract
  pub order-within : (p : ℕ) → p < length order → get_or order p 0 < length contracts.children
  order-within p within =
      let n = length contracts.children in
      let numbers : All (λ c. c < n) (range_with_len 0 n) = λ k d lt. let here = get_or-range_with_len 0 n k d (omega (arith, length-range_with_len 0 n)) in omega (arith, length-range_with_len 0 n) in
      All-permutation (λ c. c < n) (range_with_len 0 n) order (order_of-reference contracts.children order ordered).permutation numbers p 0 within

  -- the children stand before their parent, so their cones are there
  pub coned-over : (exist : All (All (λ child. child < length contracts.children)) contracts.children) (cones : List (List ℕ)) (p : ℕ) (cone : List ℕ) → AreConed contracts order cones p → p < length order →
      cone ≡ ascending (get_or order p 0 ∷ flat_map (λ child. get_or cones child []) (children_of contracts.children (get_or order p 0))) → cone ≡ cone_of contracts (get_or order p 0)
  coned-over exist cones p cone coned within is =
      let c = get_or order p 0 in
      let children = children_of contracts.children c in
      let reference = order_of-reference contracts.children order ordered in
      let there : flat_map (λ child. get_or cones child []) children ≡ flat_map (cone_of contracts) children =
      joined_same (λ child. get_or cones child []) (cone_of contracts) children (λ child member.
      let has = contains-from_in children child member in
      let at = place contracts.children order reference child (child_exists contracts exist c child has) in
      let early = child_earlier contracts.children order reference at.0 p at.1 within (rw at.2 has) in
      rw at.2 at (coned.before at.0 early)) in
      is ∙ ap (λ l. ascending (c ∷ l)) there ∙ sym (cone_over contracts c (order_of-short contracts.children order ordered c (order-within p within)))

  -- one more
  pub coned-next : (cones : List (List ℕ)) (p : ℕ) (cone : List ℕ) → AreConed contracts order cones p → p < length order → cone ≡ cone_of contracts (get_or order p 0) → AreConed contracts order (slice_set cones (get_or order p 0) cone) (p + 1)
  coned-next cones p cone coned within is = record {
    count = length-set cones (get_or order p 0) cone ∙ coned.count;
    before = λ q before. elim (cases_Bool (get_or order q 0 == get_or order p 0)) [
      | inl same ↦
          let at : get_or order q 0 ≡ get_or order p 0 = eqb-true (get_or order q 0) (get_or order p 0) same in
          get_or-set_at cones (get_or order p 0) (get_or order q 0) cone [] at (omega (arith, coned.count, order-within p within)) ∙ (is ∙ ap (cone_of contracts) (sym at))
      | inr other ↦
          get_or-set_other cones (get_or order p 0) (get_or order q 0) cone [] (λ at. let same = eq-eqb (get_or order q 0) (get_or order p 0) at in absurd (cc)) ∙ coned.before q (earlier q before other)
    ];
  }
    where
      earlier : (q : ℕ) → q < p + 1 → (get_or order q 0 == get_or order p 0) ≡ false → q < p
      earlier q before other = elim (cases_order q p) [
        | inl same ↦ let equal = eq-eqb (get_or order q 0) (get_or order p 0) (ap (λ (k : ℕ). get_or order k 0) same) in absurd (cc)
        | inr apart ↦ elim apart [ inl lt ↦ lt | inr gt ↦ absurd (omega arith) ]
      ]

  -- all are there
  pub coned-all : (cones : List (List ℕ)) (p : ℕ) → AreConed contracts order cones p → length order ≤ p → cones ≡ map (cone_of contracts) (numbers_of contracts)
  coned-all cones p coned past =
      let n = length contracts.children in
      same_lists cones (map (cone_of contracts) (range_with_len 0 n)) (coned.count ∙ sym (length-map-range_with_len (cone_of contracts) 0 n)) (λ k d lt.
      let within : k < n = omega (arith, coned.count) in
      let at = place contracts.children order (order_of-reference contracts.children order ordered) k within in
      get_or_default cones k d [] lt ∙ (rw at.2 at (coned.before at.0 (omega (arith, at.1)))) ∙ sym (get_or-map-range_with_len (cone_of contracts) 0 n k k d within (omega arith)))
