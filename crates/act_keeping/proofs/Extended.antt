-- Pairs that are added for an ask.
use Rattle.std.proofs.Common.{◌≡◌, ◌⊎◌, ℕ, ◌+◌, ◌<◌, ◌≤◌, Bool, true, List, ◌∷◌, length, take, drop, get_or, insert, Some, inl, inr, refl, sym, ap, subst, ◌∙◌, arith, sum_by}
use Rattle.std.specs.List.{slice_get}
use Rattle.std.proofs.lemmas.Bool.{cases_order}
use Rattle.std.proofs.lemmas.List.{take-append-drop}
use Rattle.std.proofs.lemmas.List.Edits.{length-insert}
use Rattle.std.proofs.lemmas.List.Sums.{sum_by-append, sum_by-cons}
use Rattle.std.proofs.lemmas.Option.{slice_get-get_or, slice_get_within}
use Rattle.act_keeping.specs.Keeping.{AreSorted, Has, IsListed, is_before, owed_for}
use Rattle.act_keeping.specs.Wanting.{IsAdded, IsExtended, IsNew, IsPlaceOf, waiting}
use Rattle.act_keeping.specs.declared.pair.Pair.{Pair}
use Rattle.act_keeping.proofs.Ordered.{before-is, before-so}
use Rattle.act_history.proofs.Places.{get-insert_above, get-insert_at, get-insert_below, get-insert_cases}

-- of two that differ one stands before
behind-so : (b : Pair) (v k : ℕ) → ¬ (is_before b v k ≡ true) → (b.version ≡ v → b.rank ≡ k → ⊥) → is_before (waiting v k) b.version b.rank ≡ true
behind-so b v k not other = before-so (waiting v k) b.version b.rank (elim (cases_order v b.version) [
  | inl same ↦ elim (cases_order k b.rank) [
    | inl tie ↦ absurd (other (sym same) (sym tie))
    | inr apart ↦ elim apart [ inl lt ↦ inr (same, lt) | inr gt ↦ absurd (not (before-so b v k (inr (sym same, gt)))) ]
  ]
  | inr apart ↦ elim apart [ inl lt ↦ inl lt | inr gt ↦ absurd (not (before-so b v k (inl gt))) ]
])

module _ (mid : List Pair) (v k place : ℕ) (sorted : AreSorted mid) (at : IsPlaceOf mid v k place) (absent : ¬ (IsListed mid v k)) where
  abbrev new : List Pair
  new = insert mid place (waiting v k)

  -- what was there still is
  pub has-still : (pair : Pair) → Has mid pair → Has new pair
  has-still pair has = elim (cases_order has.0 place) [
    | inl same ↦ (has.0 + 1, get-insert_above mid place (waiting v k) at.within has.0 (omega arith) (slice_get_within mid has.0 pair has.1) ∙ has.1)
    | inr apart ↦ elim apart [
      | inl lt ↦ (has.0, get-insert_below mid place (waiting v k) at.within has.0 lt ∙ has.1)
      | inr gt ↦ (has.0 + 1, get-insert_above mid place (waiting v k) at.within has.0 (omega arith) (slice_get_within mid has.0 pair has.1) ∙ has.1)
    ]
  ]

  pub has-new : Has new (waiting v k)
  has-new = (place, get-insert_at mid place (waiting v k) at.within)

  pub has-cases : (pair : Pair) → Has new pair → Has mid pair ⊎ (waiting v k ≡ pair)
  has-cases pair has = elim (get-insert_cases mid place (waiting v k) at.within has.0 pair has.1) [
    | inl front ↦ inl (has.0, front.1)
    | inr rest ↦ elim rest [ inl here ↦ inr here.1 | inr back ↦ inl (back.0, back.3) ]
  ]

  pub sorted-still : AreSorted new
  sorted-still i j a b lt is_a is_b = elim (get-insert_cases mid place (waiting v k) at.within i a is_a) [
    | inl front ↦ elim (get-insert_cases mid place (waiting v k) at.within j b is_b) [
      | inl front2 ↦ sorted i j a b lt front.1 front2.1
      | inr rest ↦ elim rest [
        | inl here ↦ subst (λ (p : Pair). is_before a p.version p.rank ≡ true) here.1 (at.before i a front.0 front.1)
        | inr back ↦ sorted i back.0 a b (omega (arith, front.0, back.2)) front.1 back.3
      ]
    ]
    | inr rest ↦ elim rest [
      | inl here ↦ elim (get-insert_cases mid place (waiting v k) at.within j b is_b) [
        | inl front2 ↦ absurd (omega (arith, here.0, front2.0))
        | inr rest2 ↦ elim rest2 [
          | inl here2 ↦ absurd (omega (arith, here.0, here2.0))
          | inr back ↦ subst (λ (p : Pair). is_before p b.version b.rank ≡ true) here.1 (behind-so b v k (at.behind back.0 b back.2 back.3) (λ version rank. absent (b, (back.0, back.3), version, rank)))
        ]
      ]
      | inr back ↦ elim (get-insert_cases mid place (waiting v k) at.within j b is_b) [
        | inl front2 ↦ absurd (omega (arith, back.1, back.2, front2.0))
        | inr rest2 ↦ elim rest2 [
          | inl here2 ↦ absurd (omega (arith, back.1, back.2, here2.0))
          | inr back2 ↦ sorted back.0 back2.0 a b (omega (arith, back.1, back2.1)) back.3 back2.3
        ]
      ]
    ]
  ]

  pub owed-still : sum_by owed_for new ≡ sum_by owed_for mid
  owed-still =
      omega (arith, sum_by-append owed_for (take place mid) (waiting v k ∷ drop place mid), sum_by-cons owed_for (waiting v k) (drop place mid), sum_by-append owed_for (take place mid) (drop place mid), ap (sum_by owed_for) (take-append-drop place mid))

-- ---- what is asked for, rank by rank

pub extended-none : (pairs : List Pair) (v : ℕ) (asked : ℕ → Bool) (start : ℕ) → AreSorted pairs → IsPlaceOf pairs v 0 start → IsExtended pairs v asked start 0 pairs
extended-none pairs v asked start sorted at = record {
  sorted = sorted;
  kept = λ pair has. has;
  only = λ pair has. inl has;
  all = λ r lt is. absurd (omega arith);
  owed = refl;
  few = omega arith;
  start = at.within;
  same = λ k lt. refl;
  earlier = at.before;
}

module _ (old : List Pair) (v : ℕ) (asked : ℕ → Bool) (start k : ℕ) where
  wider : (pair : Pair) → IsNew old v asked k pair → IsNew old v asked (k + 1) pair
  wider pair new = record { is = new.is; within = omega (arith, new.within); asked = new.asked; absent = new.absent }

  wider-only : (mid : List Pair) → IsExtended old v asked start k mid → (pair : Pair) → Has mid pair → Has old pair ⊎ IsNew old v asked (k + 1) pair
  wider-only mid extended pair has = elim (extended.only pair has) [ inl there ↦ inl there | inr new ↦ inr (wider pair new) ]

  last-or : (mid : List Pair) → IsExtended old v asked start k mid → (asked k ≡ true → IsListed mid v k) → (r : ℕ) → r < k + 1 → asked r ≡ true → IsListed mid v r
  last-or mid extended last r lt is = elim (cases_order r k) [
    | inl same ↦ subst (IsListed mid v) (sym same) (last (ap asked (sym same) ∙ is))
    | inr apart ↦ elim apart [ inl less ↦ extended.all r less is | inr gt ↦ absurd (omega arith) ]
  ]

  -- a rank that isn't asked for, or is there
  pub extended-past : (mid : List Pair) → IsExtended old v asked start k mid → (asked k ≡ true → IsListed mid v k) → IsExtended old v asked start (k + 1) mid
  extended-past mid extended last = record {
    sorted = extended.sorted;
    kept = extended.kept;
    only = wider-only mid extended;
    all = last-or mid extended last;
    owed = extended.owed;
    few = omega (arith, extended.few);
    start = extended.start;
    same = extended.same;
    earlier = extended.earlier;
  }

  module _ (mid : List Pair) (extended : IsExtended old v asked start k mid) (is : asked k ≡ true) (absent : ¬ (IsListed mid v k)) (place : ℕ) (at : IsPlaceOf mid v k place) where
    abbrev next : List Pair
    next = insert mid place (waiting v k)

    -- the pairs of earlier versions stand in front
    front : start ≤ place
    front = elim (cases_order start place) [
      | inl same ↦ omega arith
      | inr apart ↦ elim apart [
        | inl lt ↦ omega arith
        | inr gt ↦
            let within : place < length mid = omega (arith, gt, extended.start) in
            let pair : Pair = get_or mid place (waiting v k) in
            let there : slice_get mid place ≡ Some pair = slice_get-get_or mid place (waiting v k) within in
            absurd (at.behind place pair (omega arith) there (earlier-so pair (extended.earlier place pair gt there)))
      ]
    ]
      where
        earlier-so : (pair : Pair) → is_before pair v 0 ≡ true → is_before pair v k ≡ true
        earlier-so pair before = before-so pair v k (elim (before-is pair v 0 before) [ inl lt ↦ inl lt | inr tie ↦ absurd (omega (arith, tie.1)) ])

    front-same : (n : ℕ) → n < start → slice_get next n ≡ slice_get mid n
    front-same n lt = get-insert_below mid place (waiting v k) at.within n (omega (arith, lt, front))

    new-only : (pair : Pair) → Has next pair → Has old pair ⊎ IsNew old v asked (k + 1) pair
    new-only pair has = elim (has-cases mid v k place extended.sorted at absent pair has) [
      | inl there ↦ wider-only mid extended pair there
      | inr new ↦ inr (subst (IsNew old v asked (k + 1)) new (record {
        is = refl;
        within = omega arith;
        asked = is;
        absent = λ listed. absent (listed.0, extended.kept listed.0 listed.1, listed.2, listed.3);
      }))
    ]

    new-all : (r : ℕ) → r < k + 1 → asked r ≡ true → IsListed next v r
    new-all r lt so = elim (cases_order r k) [
      | inl same ↦ (waiting v k, has-new mid v k place extended.sorted at absent, refl, sym same)
      | inr apart ↦ elim apart [
        | inl less ↦ let listed = extended.all r less so in (listed.0, has-still mid v k place extended.sorted at absent listed.0 listed.1, listed.2, listed.3)
        | inr gt ↦ absurd (omega arith)
      ]
    ]

    extended-new : IsExtended old v asked start (k + 1) next
    extended-new = record {
      sorted = sorted-still mid v k place extended.sorted at absent;
      kept = λ pair has. has-still mid v k place extended.sorted at absent pair (extended.kept pair has);
      only = new-only;
      all = new-all;
      owed = owed-still mid v k place extended.sorted at absent ∙ extended.owed;
      few = omega (arith, length-insert mid place (waiting v k) at.within, extended.few);
      start = omega (arith, length-insert mid place (waiting v k) at.within, extended.start);
      same = λ n lt. front-same n lt ∙ extended.same n lt;
      earlier = λ n pair lt there. extended.earlier n pair lt (sym (front-same n lt) ∙ there);
    }

  -- one that is asked for
  pub extended-next : (mid after : List Pair) → IsExtended old v asked start k mid → asked k ≡ true → IsAdded mid v k after → IsExtended old v asked start (k + 1) after
  extended-next mid after extended is (inl there) = subst (IsExtended old v asked start (k + 1)) (sym there.1) (extended-past mid extended (λ so. there.0))
  extended-next mid after extended is (inr new) = subst (IsExtended old v asked start (k + 1)) (sym new.3) (extended-new mid extended is new.0 new.1 new.2)

pub added-length : (mid after : List Pair) (v k : ℕ) → IsAdded mid v k after → length after ≤ length mid + 1
added-length mid after v k (inl there) = omega (arith, ap length there.1)
added-length mid after v k (inr new) = omega (arith, ap length new.3, length-insert mid new.1 (waiting v k) new.2.within)
