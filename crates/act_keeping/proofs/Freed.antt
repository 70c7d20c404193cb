-- What may be claimed of pairs, as counts and a list of places.
use Rattle.std.proofs.Common.{◌≡◌, ◌≢◌, ℕ, zero, suc, ◌+◌, ◌-◌, ◌<◌, ◌≤◌, ◌==◌, ◌&&◌, not, cond, Bool, true, false, List, [], ◌∷◌, ◌++◌, length, take, drop, set, get_or, insert, Some, inl, inr, refl, sym, ap, subst, ◌∙◌, arith, eq-eqb, slice_index_or}
use Rattle.std.specs.List.{slice_get}
use Rattle.std.proofs.lemmas.Bool.{and_from, and_parts, cases_Bool, cases_eq, cases_order, eqb-true, ne_eqb}
use Rattle.std.proofs.lemmas.List.Sums.{sum_by-drop_more, sum_by-set, sum_by-take-drop, sum_by-take-le, sum_by_more, count_by-le-length}
use Rattle.std.proofs.lemmas.List.{drop_all, length-take-le}
use Rattle.std.proofs.lemmas.List.Edits.{length-insert}
use Rattle.std.proofs.lemmas.Option.{get_or_from_slice_get, same_Some, slice_get-get_or, slice_get_within}
use Rattle.act_keeping.specs.Keeping.{AreSorted, HasAt, IsPast, is_waiting}
use Rattle.act_keeping.specs.Ready.{AreApart, AreDescending, AreFree, AreFreeFrom, AreSettled, IsFree, IsNoted, IsPlaced, Lacks, Lowers, MayLower, blocked, due, is_of, times}
use Rattle.act_keeping.specs.declared.pair.Pair.{Pair}
use Rattle.act_keeping.proofs.Ordered.{one-only}
use Rattle.act_history.proofs.Places.{get-insert_above, get-insert_at, get-insert_below, get-insert_cases, get-push, get-push_cases, get-set, get-set_other}

-- ---- listing

module _ (pairs : List Pair) (lacking : List ℕ) where
  pub free-none : AreFreeFrom pairs lacking (length pairs) []
  free-none = record {
    descending = λ i j a b lt at_i at_j. absurd (cc);
    free = λ i place at. absurd (cc);
    all = λ place from is. absurd (omega (arith, from, slice_get_within pairs place is.0 is.1));
  }

  module _ (from next : ℕ) (places : List ℕ) (is-next : next ≡ from + 1) (are : AreFreeFrom pairs lacking next places) where
    pub free-past : ¬ (IsFree pairs lacking from) → AreFreeFrom pairs lacking from places
    free-past not = record {
      descending = are.descending;
      free = λ i place at. (omega (arith, (are.free i place at).0, is-next), (are.free i place at).1);
      all = λ place le is. elim (cases_eq place from) [
        | inl same ↦ absurd (not (subst (IsFree pairs lacking) same is))
        | inr other ↦ are.all place (omega (arith, le, other, is-next)) is
      ];
    }

    pub free-more : IsFree pairs lacking from → AreFreeFrom pairs lacking from (places ++ from ∷ [])
    free-more is = record {
      descending = λ i j a b lt at_i at_j. elim (get-push_cases places from b j at_j) [
        | inl old ↦ elim (get-push_cases places from a i at_i) [
          | inl old2 ↦ are.descending i j a b lt old2.1 old.1
          | inr new ↦ absurd (omega (arith, new.0, old.0, lt))
        ]
        | inr new ↦ elim (get-push_cases places from a i at_i) [
          | inl old2 ↦ omega (arith, (are.free i a old2.1).0, new.1, is-next)
          | inr new2 ↦ absurd (omega (arith, new.0, new2.0, lt))
        ]
      ];
      free = λ i place at. elim (get-push_cases places from place i at) [
        | inl old ↦ (omega (arith, (are.free i place old.1).0, is-next), (are.free i place old.1).1)
        | inr new ↦ (omega (arith, new.1), subst (IsFree pairs lacking) new.1 is)
      ];
      all = λ place le here. elim (cases_eq place from) [
        | inl same ↦ (length places, get-push places from ∙ ap Some (sym same))
        | inr other ↦
            let there = are.all place (omega (arith, le, other, is-next)) here in
            (there.0, pushed places from there.0 place there.1)
      ];
    }
      where
        pushed : (xs : List ℕ) (y i z : ℕ) → slice_get xs i ≡ Some z → slice_get (xs ++ y ∷ []) i ≡ Some z
        pushed [] y i z at = absurd (cc)
        pushed (x ∷ xs) y zero z at = at
        pushed (x ∷ xs) y (suc i) z at = pushed xs y i z at

  pub free-all : (front : ℕ) (places : List ℕ) → IsPast pairs front → AreFreeFrom pairs lacking front places → AreFree pairs lacking places
  free-all front places past are = record {
    descending = are.descending;
    free = λ i place at. (are.free i place at).1;
    all = λ place is. elim (cases_order place front) [
      | inl same ↦ are.all place (omega (arith, same)) is
      | inr apart ↦ elim apart [
        | inl lt ↦ absurd (let no = past place is.0 lt is.1 in let so = is.2 in cc)
        | inr gt ↦ are.all place (omega arith) is
      ]
    ];
  }

-- ---- how many wait for a result

bit-le : (b : Bool) → ◌≤◌ (cond b 1 0) 1
bit-le true = omega arith
bit-le false = omega arith

pub blocked-one : (n : ℕ) → cond (not (n == 0)) 1 0 ≤ 1
blocked-one n = bit-le (not (n == 0))

waits-so : (n : ℕ) → ◌≡◌ {A = ℕ} (cond (not (suc n == 0)) 1 0) 1
waits-so n = ap (λ (b : Bool). cond (not b) 1 0) (ne_eqb (suc n) 0 (λ is. omega (arith, is)))

pub blocked-drop : (lacking : List ℕ) (k : ℕ) → k < length lacking → blocked (drop k lacking) ≡ cond (not (get_or lacking k 0 == 0)) 1 0 + blocked (drop (k + 1) lacking)
blocked-drop lacking k lt = sum_by-drop_more (λ (n : ℕ). cond (not (n == 0)) 1 0) lacking k 0 lt

pub blocked-drop_free : (lacking : List ℕ) (k : ℕ) → slice_get lacking k ≡ Some 0 → blocked (drop k lacking) ≡ blocked (drop (k + 1) lacking)
blocked-drop_free lacking k at =
    let none : ◌≡◌ {A = ℕ} (cond (not (get_or lacking k 0 == 0)) 1 0) 0 = ap (λ (n : ℕ). cond {A = ℕ} (not (n == 0)) 1 0) (get_or_from_slice_get lacking k 0 0 at) in
    omega (arith, blocked-drop lacking k (slice_get_within lacking k 0 at), none)

pub blocked-drop_more : (lacking : List ℕ) (k : ℕ) → k < length lacking → blocked (drop k lacking) ≤ 1 + blocked (drop (k + 1) lacking)
blocked-drop_more lacking k lt = omega (arith, blocked-drop lacking k lt, blocked-one (get_or lacking k 0))

pub blocked-front : (lacking : List ℕ) (k : ℕ) → k ≤ length lacking → blocked lacking ≤ k + blocked (drop k lacking)
blocked-front lacking k le =
    omega (arith, sum_by-take-drop (λ (n : ℕ). cond (not (n == 0)) 1 0) lacking k, count_by-le-length (λ (n : ℕ). not (n == 0)) (take k lacking), length-take-le k lacking le)

pub blocked-end : (lacking : List ℕ) (k : ℕ) → length lacking ≤ k → blocked (drop k lacking) ≡ 0
blocked-end lacking k le = ap blocked (drop_all k lacking le)

pub blocked-set : (lacking : List ℕ) (k n y : ℕ) → slice_get lacking k ≡ Some (suc n) → blocked (set lacking k y) + 1 ≡ blocked lacking + cond (not (y == 0)) 1 0
blocked-set lacking k n y at =
    let one : ◌≡◌ {A = ℕ} (cond (not (get_or lacking k 0 == 0)) 1 0) 1 = ap (λ (m : ℕ). cond {A = ℕ} (not (m == 0)) 1 0) (get_or_from_slice_get lacking k (suc n) 0 at) ∙ waits-so n in
    omega (arith, sum_by-set (λ (m : ℕ). cond (not (m == 0)) 1 0) lacking k y 0 (slice_get_within lacking k (suc n) at), one)

module _ (old : List ℕ) (place n x i : ℕ) (at : slice_get old place ≡ Some (suc n)) (read : x ≡ get_or old place x) (again : i ≡ get_or (set old place (x - 1)) place i) where
  read-is : x ≡ suc n
  read-is = read ∙ get_or_from_slice_get old place (suc n) x at

  was : slice_get old place ≡ Some (suc (x - 1))
  was = at ∙ ap Some (omega (arith, read-is))

  now-is : i ≡ x - 1
  now-is = again ∙ get_or_from_slice_get (set old place (x - 1)) place (x - 1) i (get-set old place (x - 1) (slice_get_within old place (suc n) at))

  pub lowers-last : (places places' : List ℕ) → i ≡ 0 → IsPlaced places place places' → Lowers place old places (set old place (x - 1)) places'
  lowers-last places places' none placed = record { count = x - 1; was = was; is = refl; listed = inl (sym now-is ∙ none, placed) }

  pub lowers-more : (places : List ℕ) → i ≢ 0 → Lowers place old places (set old place (x - 1)) places
  lowers-more places some = record { count = x - 1; was = was; is = refl; listed = inr (omega (arith, now-is, some), refl) }

  pub room-last : (places places' : List ℕ) → i ≡ 0 → IsPlaced places place places' → length places' + blocked (set old place (x - 1)) ≤ length places + blocked old
  room-last places places' none placed =
      let zero-now : x - 1 ≡ 0 = sym now-is ∙ none in
      let bit : ◌≡◌ {A = ℕ} (cond (not (x - 1 == 0)) 1 0) 0 = ap (λ (m : ℕ). cond {A = ℕ} (not (m == 0)) 1 0) zero-now in
      omega (arith, blocked-set old place n (x - 1) at, bit, ap length placed.2, length-insert places placed.0 place placed.1.within)

  pub room-more : blocked (set old place (x - 1)) ≤ blocked old
  room-more = omega (arith, blocked-set old place n (x - 1) at, blocked-one (x - 1))

pub get-push_below : {X : Type 0} (xs : List X) (y : X) (k : ℕ) → k < length xs → slice_get (xs ++ y ∷ []) k ≡ slice_get xs k
get-push_below [] y k lt = absurd (omega arith)
get-push_below (x ∷ xs) y zero lt = refl
get-push_below (x ∷ xs) y (suc k) lt = get-push_below xs y k (omega arith)

-- ---- one result more

module _ (place : ℕ) (old old_places new new_places : List ℕ) (lowers : Lowers place old old_places new new_places) where
  within : place < length old
  within = slice_get_within old place (suc lowers.count) lowers.was

  here : slice_get new place ≡ Some lowers.count
  here = ap (λ (xs : List ℕ). slice_get xs place) lowers.is ∙ get-set old place lowers.count within

  elsewhere : (k : ℕ) → k ≢ place → slice_get new k ≡ slice_get old k
  elsewhere k other = ap (λ (xs : List ℕ). slice_get xs k) lowers.is ∙ get-set_other old place k lowers.count other

  module _ (pairs : List Pair) (pair : Pair) (at : slice_get pairs place ≡ Some pair) (waits : is_waiting pair.progress ≡ true) (are : AreFree pairs old old_places) where
    -- it wasn't free
    was-none : ¬ (IsFree pairs old place)
    was-none is = absurd (let one = is.3 in let two = lowers.was in let same : suc lowers.count ≡ 0 = same_Some (suc lowers.count) 0 (sym two ∙ one) in omega (arith, same))

    absent : (i : ℕ) → slice_get old_places i ≡ Some place → ⊥
    absent i is = was-none (are.free i place is)

    back : (k : ℕ) → k ≢ place → IsFree pairs new k → IsFree pairs old k
    back k other is = (is.0, is.1, is.2, sym (elsewhere k other) ∙ is.3)

    on : (k : ℕ) → k ≢ place → IsFree pairs old k → IsFree pairs new k
    on k other is = (is.0, is.1, is.2, elsewhere k other ∙ is.3)

    free-on : (k : ℕ) → IsFree pairs old k → IsFree pairs new k
    free-on k is = elim (cases_eq k place) [
      | inl same ↦ absurd (was-none (subst (IsFree pairs old) same is))
      | inr other ↦ on k other is
    ]

    -- it waits for others still
    still : 0 < lowers.count → new_places ≡ old_places → AreFree pairs new new_places
    still more same = subst (AreFree pairs new) (sym same) (record {
      descending = are.descending;
      free = λ i k is. free-on k (are.free i k is);
      all = λ k is. elim (cases_eq k place) [
        | inl this ↦ absurd (let none : lowers.count ≡ 0 = same_Some lowers.count 0 (sym here ∙ (ap (λ (n : ℕ). slice_get new n) (sym this) ∙ is.3)) in omega (arith, none, more))
        | inr other ↦ are.all k (back k other is)
      ];
    })

    -- it doesn't
    module _ (none : lowers.count ≡ 0) (placed : IsPlaced old_places place new_places) where
      abbrev index : ℕ
      index = placed.0

      abbrev made : List ℕ
      made = insert old_places index place

      le : index ≤ length old_places
      le = placed.1.within

      less : (i k : ℕ) → index ≤ i → slice_get old_places i ≡ Some k → k < place
      less i k from is = elim (cases_eq k place) [
        | inl same ↦ absurd (absent i (is ∙ ap Some same))
        | inr other ↦ omega (arith, placed.1.behind i k from is, other)
      ]

      descends : AreDescending made
      descends i j a b lt is_a is_b = elim (get-insert_cases old_places index place le i a is_a) [
        | inl front ↦ elim (get-insert_cases old_places index place le j b is_b) [
          | inl front2 ↦ are.descending i j a b lt front.1 front2.1
          | inr rest ↦ elim rest [
            | inl this ↦ omega (arith, placed.1.before i a front.0 front.1, this.1)
            | inr behind ↦ are.descending i behind.0 a b (omega (arith, front.0, behind.2)) front.1 behind.3
          ]
        ]
        | inr rest ↦ elim rest [
          | inl this ↦ elim (get-insert_cases old_places index place le j b is_b) [
            | inl front2 ↦ absurd (omega (arith, this.0, front2.0))
            | inr rest2 ↦ elim rest2 [
              | inl this2 ↦ absurd (omega (arith, this.0, this2.0))
              | inr behind ↦ omega (arith, less behind.0 b behind.2 behind.3, this.1)
            ]
          ]
          | inr behind ↦ elim (get-insert_cases old_places index place le j b is_b) [
            | inl front2 ↦ absurd (omega (arith, behind.1, behind.2, front2.0))
            | inr rest2 ↦ elim rest2 [
              | inl this2 ↦ absurd (omega (arith, behind.1, behind.2, this2.0))
              | inr behind2 ↦ are.descending behind.0 behind2.0 a b (omega (arith, behind.1, behind2.1)) behind.3 behind2.3
            ]
          ]
        ]
      ]

      free-here : IsFree pairs new place
      free-here = (pair, at, waits, here ∙ ap Some none)

      listed : (k i : ℕ) → slice_get old_places i ≡ Some k → (j : ℕ) × (slice_get made j ≡ Some k)
      listed k i is = elim (cases_order i index) [
        | inl same ↦ (i + 1, get-insert_above old_places index place le i (omega (arith, same)) (slice_get_within old_places i k is) ∙ is)
        | inr apart ↦ elim apart [
          | inl lt ↦ (i, get-insert_below old_places index place le i lt ∙ is)
          | inr gt ↦ (i + 1, get-insert_above old_places index place le i (omega arith) (slice_get_within old_places i k is) ∙ is)
        ]
      ]

      now : AreFree pairs new new_places
      now = subst (AreFree pairs new) (sym placed.2) (record {
        descending = descends;
        free = λ i k is. elim (get-insert_cases old_places index place le i k is) [
          | inl front ↦ free-on k (are.free i k front.1)
          | inr rest ↦ elim rest [
            | inl this ↦ subst (IsFree pairs new) this.1 free-here
            | inr behind ↦ free-on k (are.free behind.0 k behind.3)
          ]
        ];
        all = λ k is. elim (cases_eq k place) [
          | inl this ↦ (index, get-insert_at old_places index place le ∙ ap Some (sym this))
          | inr other ↦ let there = are.all k (back k other is) in listed k there.0 there.1
        ];
      })

    pub lowered-free : AreFree pairs new new_places
    lowered-free = elim lowers.listed [
      | inl both ↦ now both.0 both.1
      | inr both ↦ still both.0 both.1
    ]

-- ---- which pair it is of

pub of-none : (v r : ℕ) (pair : Pair) → (pair.version ≡ v → pair.rank ≡ r → is_waiting pair.progress ≡ true → ⊥) → is_of v r pair ≡ 0
of-none v r pair other = elim (cases_Bool ((pair.version == v) && ((pair.rank == r) && is_waiting pair.progress))) [
  | inl is ↦
      let parts = and_parts (pair.version == v) ((pair.rank == r) && is_waiting pair.progress) is in
      let rest = and_parts (pair.rank == r) (is_waiting pair.progress) parts.1 in
      absurd (other (eqb-true pair.version v parts.0) (eqb-true pair.rank r rest.0) rest.1)
  | inr not ↦ ap (λ (b : Bool). cond b 1 0) not
]

pub of-one : (v r : ℕ) (pair : Pair) → pair.version ≡ v → pair.rank ≡ r → is_waiting pair.progress ≡ true → is_of v r pair ≡ 1
of-one v r pair version rank waits = rw (version, rank, waits, eq-eqb v v refl, eq-eqb r r refl) refl

module _ (pairs : List Pair) (sorted : AreSorted pairs) (v r place : ℕ) (found : HasAt pairs v r place) where
  -- the pair of another place isn't
  apart-none : (k : ℕ) (pair : Pair) → k ≢ place → slice_get pairs k ≡ Some pair → is_of v r pair ≡ 0
  apart-none k pair other at = of-none v r pair (λ version rank waits. other (one-only pairs sorted k place pair found.0 at found.1 (version ∙ sym found.2) (rank ∙ sym found.3)))

  found-is : (pair : Pair) → slice_get pairs place ≡ Some pair → found.0 ≡ pair
  found-is pair at = same_Some found.0 pair (sym found.1 ∙ at)

  pub noted-lowered : (old old_places new new_places : List ℕ) → is_waiting found.0.progress ≡ true → Lowers place old old_places new new_places → IsNoted pairs v r old new
  noted-lowered old old_places new new_places waits lowers k m n pair at was is = elim (cases_eq k place) [
    | inl same ↦
        let this : found.0 ≡ pair = found-is pair (ap (λ (j : ℕ). slice_get pairs j) (sym same) ∙ at) in
        let one : is_of v r pair ≡ 1 = subst (λ (p : Pair). is_of v r p ≡ 1) this (of-one v r found.0 found.2 found.3 waits) in
        let before : suc lowers.count ≡ m = same_Some (suc lowers.count) m (sym lowers.was ∙ (ap (λ (j : ℕ). slice_get old j) (sym same) ∙ was)) in
        let after : lowers.count ≡ n = same_Some lowers.count n (sym (here place old old_places new new_places lowers) ∙ (ap (λ (j : ℕ). slice_get new j) (sym same) ∙ is)) in
        omega (arith, one, before, after)
    | inr other ↦
        let none = apart-none k pair other at in
        let kept : m ≡ n = same_Some m n (sym was ∙ (sym (elsewhere place old old_places new new_places lowers k other) ∙ is)) in
        omega (arith, none, kept)
  ]

  pub noted-none : (lacking : List ℕ) → is_waiting found.0.progress ≡ false → IsNoted pairs v r lacking lacking
  noted-none lacking waits k m n pair at was is =
      let kept : m ≡ n = same_Some m n (sym was ∙ is) in
      let none : is_of v r pair ≡ 0 = elim (cases_eq k place) [
        | inl same ↦
            let this : found.0 ≡ pair = found-is pair (ap (λ (j : ℕ). slice_get pairs j) (sym same) ∙ at) in
            of-none v r pair (λ version rank so. let not : is_waiting pair.progress ≡ false = subst (λ (p : Pair). is_waiting p.progress ≡ false) this waits in absurd (cc))
        | inr other ↦ apart-none k pair other at
      ] in
      omega (arith, none, kept)

-- ---- how often

pub times-more : (c : ℕ) (parents : List ℕ) (i : ℕ) → i < length parents → times c (take (i + 1) parents) ≡ times c (take i parents) + cond (get_or parents i 0 == c) 1 0
times-more c parents i lt = sum_by_more (λ (m : ℕ). cond (m == c) 1 0) parents i 0 lt

module _ (order parents : List ℕ) (apart : AreApart order) (v i rank : ℕ) (lt : i < length parents) (ranked : slice_get order rank ≡ Some (get_or parents i 0)) (pair : Pair) (within : pair.rank < length order) where
  abbrev c : ℕ
  c = slice_index_or order pair.rank 0

  rank-within : rank < length order
  rank-within = slice_get_within order rank (get_or parents i 0) ranked

  read : slice_index_or order rank 0 ≡ get_or parents i 0
  read = get_or_from_slice_get order rank (get_or parents i 0) 0 ranked

  one : pair.version ≡ v → is_waiting pair.progress ≡ true → cond (get_or parents i 0 == c) 1 0 ≡ is_of v rank pair
  one version waits = elim (cases_Bool (get_or parents i 0 == c)) [
    | inl is ↦
        let same : get_or parents i 0 ≡ c = eqb-true (get_or parents i 0) c is in
        let here : pair.rank ≡ rank = apart pair.rank rank within rank-within (sym same ∙ sym read) in
        ap (λ (b : Bool). cond b 1 0) is ∙ sym (of-one v rank pair version here waits)
    | inr not ↦
        ap (λ (b : Bool). cond b 1 0) not
        ∙ sym (of-none v rank pair (λ w here so. let is : (get_or parents i 0 == c) ≡ true = eq-eqb (get_or parents i 0) c (sym read ∙ ap (λ (k : ℕ). slice_index_or order k 0) (sym here)) in absurd (cc)))
  ]

  pub due-next : due order (take (i + 1) parents) v pair ≡ due order (take i parents) v pair + is_of v rank pair
  due-next = elim (cases_Bool ((pair.version == v) && is_waiting pair.progress)) [
    | inl is ↦
        let parts = and_parts (pair.version == v) (is_waiting pair.progress) is in
        let now : due order (take (i + 1) parents) v pair ≡ times c (take (i + 1) parents) = ap (λ (b : Bool). cond b (times c (take (i + 1) parents)) 0) is in
        let before : due order (take i parents) v pair ≡ times c (take i parents) = ap (λ (b : Bool). cond b (times c (take i parents)) 0) is in
        omega (arith, now, before, times-more c parents i lt, one (eqb-true pair.version v parts.0) parts.1)
    | inr not ↦
        let now : due order (take (i + 1) parents) v pair ≡ 0 = ap (λ (b : Bool). cond b (times c (take (i + 1) parents)) 0) not in
        let before : due order (take i parents) v pair ≡ 0 = ap (λ (b : Bool). cond b (times c (take i parents)) 0) not in
        let none : is_of v rank pair ≡ 0 = of-none v rank pair (λ version here so. let is : ((pair.version == v) && is_waiting pair.progress) ≡ true = and_from (pair.version == v) (is_waiting pair.progress) (eq-eqb pair.version v version) so in absurd (cc)) in
        omega (arith, now, before, none)
  ]

pub due-less : (order parents : List ℕ) (v i : ℕ) (pair : Pair) → due order (take i parents) v pair ≤ due order parents v pair
due-less order parents v i pair = elim (cases_Bool ((pair.version == v) && is_waiting pair.progress)) [
  | inl is ↦
      let c : ℕ = slice_index_or order pair.rank 0 in
      let now : due order parents v pair ≡ times c parents = ap (λ (b : Bool). cond b (times c parents) 0) is in
      let before : due order (take i parents) v pair ≡ times c (take i parents) = ap (λ (b : Bool). cond b (times c (take i parents)) 0) is in
      omega (arith, now, before, sum_by-take-le (λ (m : ℕ). cond (m == c) 1 0) parents i)
  | inr not ↦
      let before : due order (take i parents) v pair ≡ 0 = ap (λ (b : Bool). cond b (times (slice_index_or order pair.rank 0) (take i parents)) 0) not in
      omega (arith, before)
]

-- ---- some contracts, one after the other

module _ (order parents : List ℕ) (apart : AreApart order) (v i rank : ℕ) (lt : i < length parents) (ranked : slice_get order rank ≡ Some (get_or parents i 0)) (pairs : List Pair) (ranks : (k : ℕ) (pair : Pair) → slice_get pairs k ≡ Some pair → pair.rank < length order)
    (old mid : List ℕ) (count : length old ≡ length pairs) (settled : AreSettled order (take i parents) v pairs old mid) where
  -- each that is still to come lacks a result
  pub settled-may : Lacks order parents v pairs old → MayLower pairs v rank mid
  settled-may lacks k n pair at is =
      let before : slice_get old k ≡ Some (get_or old k 0) = slice_get-get_or old k 0 (omega (arith, count, slice_get_within pairs k pair at)) in
      omega (arith, settled k (get_or old k 0) n pair at before is, lacks k (get_or old k 0) pair at before, due-less order parents v (i + 1) pair, due-next order parents apart v i rank lt ranked pair (ranks k pair at))

  pub settled-next : (new : List ℕ) → length mid ≡ length pairs → IsNoted pairs v rank mid new → AreSettled order (take (i + 1) parents) v pairs old new
  settled-next new mid-count noted k m n pair at was is =
      let between : slice_get mid k ≡ Some (get_or mid k 0) = slice_get-get_or mid k 0 (omega (arith, mid-count, slice_get_within pairs k pair at)) in
      omega (arith, settled k m (get_or mid k 0) pair at was between, noted k (get_or mid k 0) n pair at between is, due-next order parents apart v i rank lt ranked pair (ranks k pair at))
