-- Marking what contracts reach, from the last of the reference order to the first.
use Rattle.std.proofs.Common.{◌≡◌, ℕ, zero, suc, inl, inr, ◌+◌, ◌<◌, ◌≤◌, ◌||◌, Bool, true, false, List, [], ◌∷◌, length, get_or, Ok, Contains, refl, sym, ap, ◌∙◌, arith, slice_index_or, slice_set, replicate, take, ◌≢◌, ◌==◌, eq-eqb}
use Rattle.std.proofs.lemmas.Bool.{cases_Bool, cases_order, eqb-true}
use Rattle.std.proofs.lemmas.List.Folds.{Any-from_list_any, list_any-append, list_any_at}
use Rattle.std.proofs.lemmas.Grind.{get_or-set_at, take_at_read}
use Rattle.std.proofs.lemmas.List.{get_or-set_other}
use Rattle.act_profile.specs.Reads.{is_in}
use Rattle.act_profile.specs.Run.{Contracts}
use Rattle.act_refs.specs.Order.{IsReferenceOrder}
use Rattle.act_refs.specs.Ordered.{order_of}
use Rattle.act_refs.specs.Path.{HasPath, IsChild, children_of}
use Rattle.act_refs.proofs.Depths.{child_earlier, place}
use Rattle.act_refs.proofs.Ordering.{order_of-reference}
use Rattle.act_refs.proofs.Paths.{HasPath-last, HasPath-nowhere, IsChild-within}
use Rattle.act_history.specs.Reached.{AreBelow, is_reached, is_wanted}
use Rattle.act_history.proofs.Reaching.{either, left-so, path-reached, reached-child, reached-self, right-so}

-- a child is one of the list, and so is the other way
pub child-in : (graph : List (List ℕ)) (parent child : ℕ) → IsChild graph parent child → is_in (children_of graph parent) child ≡ true
child-in graph parent child refers = there (children_of graph parent) refers
  where
    there : (xs : List ℕ) → Contains xs child → is_in xs child ≡ true
    there xs is = list_any_at (λ m. m == child) xs is.0 child is.1 (eq-eqb _ child is.2)

pub in-child : (graph : List (List ℕ)) (parent child : ℕ) → is_in (children_of graph parent) child ≡ true → IsChild graph parent child
in-child graph parent child is =
    let any = Any-from_list_any (λ m. m == child) (children_of graph parent) is in
    let same : any.1 ≡ child = eqb-true any.1 child any.4 in
    (any.0, any.2, rw same at any.3)

-- those that the contracts from a place of the order on refer to are marked, where these are wanted; and each that is marked is referred to by one that
-- is reached
pub record AreMarked (contracts : Contracts) (asked order : List ℕ) (below : List Bool) (place : ℕ) : Type 0 where
  pub count : length below ≡ length contracts.terms
  pub sound : (c : ℕ) → slice_index_or below c false ≡ true → (parent : ℕ) × (is_reached contracts asked parent ≡ true) × IsChild contracts.children parent c
  pub closed : (q child : ℕ) → place ≤ q → q < length order → is_wanted asked below (get_or order q 0) ≡ true → IsChild contracts.children (get_or order q 0) child → slice_index_or below child false ≡ true

module _ (contracts : Contracts) (asked order : List ℕ) (ordered : order_of contracts.children ≡ Ok order) where
  -- what is wanted is reached
  wanted-reached : (below : List Bool) (p c : ℕ) → AreMarked contracts asked order below p → is_wanted asked below c ≡ true → is_reached contracts asked c ≡ true
  wanted-reached below p c marked is = elim (either (is_in asked c) _ is) [
    | inl there ↦ reached-self contracts asked c there
    | inr under ↦
        let from = marked.sound c under in
        reached-child contracts order asked from.0 c ordered from.1 from.2
  ]

  -- a contract that isn't wanted adds nothing
  pub marked-past : (below : List Bool) (p : ℕ) → AreMarked contracts asked order below (suc p) → is_wanted asked below (get_or order p 0) ≡ false → AreMarked contracts asked order below p
  marked-past below p marked not = record {
    count = marked.count;
    sound = marked.sound;
    closed = λ q child from within is refers. elim (cases_order q p) [
      | inl same ↦ let other = rw same at is in absurd (cc)
      | inr apart ↦ elim apart [
        | inl before ↦ absurd (omega arith)
        | inr behind ↦ marked.closed q child (omega arith) within is refers
      ]
    ];
  }

  -- the children of one that is wanted are marked
  pub marked-more : (below after : List Bool) (p : ℕ) → p < length order → AreMarked contracts asked order below (suc p) → is_wanted asked below (get_or order p 0) ≡ true → length after ≡ length below
      → ((c : ℕ) → slice_index_or after c false ≡ (slice_index_or below c false || is_in (children_of contracts.children (get_or order p 0)) c)) → AreMarked contracts asked order after p
  marked-more below after p within marked wanted long is = record {
    count = long ∙ marked.count;
    sound = λ c so. elim (either (slice_index_or below c false) _ (sym (is c) ∙ so)) [
      | inl old ↦ marked.sound c old
      | inr new ↦ (get_or order p 0, wanted-reached below (suc p) (get_or order p 0) marked wanted, in-child contracts.children (get_or order p 0) c new)
    ];
    closed = λ q child from q_within so refers. elim (cases_order q p) [
      | inl same ↦
          let here = rw same at refers in
          is child ∙ right-so (slice_index_or below child false) _ (child-in contracts.children (get_or order p 0) child here)
      | inr apart ↦ elim apart [
        | inl before ↦ absurd (omega arith)
        | inr behind ↦ is child ∙ left-so (slice_index_or below child false) _ (marked.closed q child (omega arith) q_within (before-so q behind q_within so) refers)
      ]
    ];
  }
    where
      reference : IsReferenceOrder contracts.children order
      reference = order_of-reference contracts.children order ordered

      -- one behind in the order isn't a child, so it was wanted before
      before-so : (q : ℕ) → p < q → q < length order → is_wanted asked after (get_or order q 0) ≡ true → is_wanted asked below (get_or order q 0) ≡ true
      before-so q behind q_within so = elim (either (is_in asked (get_or order q 0)) _ so) [
        | inl there ↦ left-so (is_in asked (get_or order q 0)) _ there
        | inr under ↦ elim (either (slice_index_or below (get_or order q 0) false) _ (sym (is (get_or order q 0)) ∙ under)) [
          | inl old ↦ right-so (is_in asked (get_or order q 0)) _ old
          | inr new ↦
              let early = child_earlier contracts.children order reference q p q_within within (in-child contracts.children (get_or order p 0) (get_or order q 0) new) in
              absurd (omega arith)
        ]
      ]

  -- nothing is marked yet
  pub marked-none : (below : List Bool) → length below ≡ length contracts.terms → ((c : ℕ) → slice_index_or below c false ≡ false) → AreMarked contracts asked order below (length order)
  marked-none below count none = record {
    count = count;
    sound = λ c so. let not = none c in absurd (cc);
    closed = λ q child from within is refers. absurd (omega arith);
  }

  -- all are
  module _ (below : List Bool) (marked : AreMarked contracts asked order below 0) where
    closed-all : (c child : ℕ) → is_wanted asked below c ≡ true → IsChild contracts.children c child → slice_index_or below child false ≡ true
    closed-all c child is refers =
        let at = place contracts.children order (order_of-reference contracts.children order ordered) c (IsChild-within contracts.children c child refers) in
        marked.closed at.0 child (omega arith) at.1 (rw at.2 is) (rw at.2 refers)

    path-wanted : (k a c : ℕ) → HasPath contracts.children k a c → is_in asked a ≡ true → is_wanted asked below c ≡ true
    path-wanted zero a c path there =
        let same = HasPath-nowhere contracts.children a c path in
        left-so (is_in asked c) _ (rw same at there)
    path-wanted (suc k) a c path there =
        let last = HasPath-last contracts.children k a c path in
        right-so (is_in asked c) _ (closed-all last.0 c (path-wanted k a last.0 last.1 there) last.2)

    reached-wanted : (c : ℕ) → is_reached contracts asked c ≡ true → is_wanted asked below c ≡ true
    reached-wanted c is =
        let path = path-reached contracts asked c is in
        path-wanted path.2 path.0 c path.4 path.1

    pub marked-all : AreBelow contracts asked below
    marked-all = record {
      count = marked.count;
      reached = λ c. same (is_reached contracts asked c) (is_wanted asked below c) (reached-wanted c) (wanted-reached below 0 c marked);
      closed = closed-all;
    }
      where
        same : (a b : Bool) → (a ≡ true → b ≡ true) → (b ≡ true → a ≡ true) → a ≡ b
        same true b there back = sym (there refl)
        same false true there back = back refl
        same false false there back = refl

-- ---- the loop that marks

-- none is marked at first
pub no-marks : (n k : ℕ) → slice_index_or (replicate n false) k false ≡ false
no-marks zero k = refl
no-marks (suc n) zero = refl
no-marks (suc n) (suc k) = no-marks n k

-- of contracts that are marked one after the other those before a place are
pub or-false : (b : Bool) → (b || false) ≡ b
or-false true = refl
or-false false = refl

pub marks-next : (old now : List Bool) (xs : List ℕ) (i : ℕ) → i < length xs → get_or xs i 0 < length now → ((c : ℕ) → slice_index_or now c false ≡ (slice_index_or old c false || is_in (take i xs) c))
    → (c : ℕ) → slice_index_or (slice_set now (get_or xs i 0) true) c false ≡ (slice_index_or old c false || is_in (take (i + 1) xs) c)
marks-next old now xs i within fits before c = elim (cases_Bool (x == c)) [
  | inl same ↦
      let is : x ≡ c = eqb-true x c same in
      get_or-set_at now x c true false (sym is) fits ∙ sym (right-so (slice_index_or old c false) _ (taken ∙ right-so (is_in (take i xs) c) _ (left-so (x == c) false same)))
  | inr other ↦
      let not : c ≢ x = λ is. let same = eq-eqb x c (sym is) in absurd (cc) in
      let none : is_in (take (i + 1) xs) c ≡ is_in (take i xs) c = taken ∙ (ap (λ (b : Bool). is_in (take i xs) c || (b || false)) other ∙ or-false (is_in (take i xs) c)) in
      get_or-set_other now x c true false not ∙ (before c ∙ ap (λ (b : Bool). slice_index_or old c false || b) (sym none))
]
  where
    x : ℕ
    x = get_or xs i 0

    taken : is_in (take (i + 1) xs) c ≡ (is_in (take i xs) c || ((x == c) || false))
    taken = ap (λ (ys : List ℕ). is_in ys c) (take_at_read xs i 0 within).1 ∙ list_any-append (λ m. m == c) (take i xs) (x ∷ [])
