-- Lists of days, of which any may be the least from some place on.
use Rattle.std.proofs.Common.{◌≡◌, ◌⊎◌, ℕ, zero, suc, ◌<◌, ◌≤◌, nat_lt, Bool, true, false, ℤ, ◌<ℤ◌, ◌≤ℤ◌, int_lt, List, [], ◌∷◌, ◌++◌, length, take, get_or, Some, None, inl, inr, refl, sym, ap, subst, ◌∙◌, arith}
use Rattle.std.proofs.lemmas.Bool.{cases_lt, cases_order}
use Rattle.std.proofs.lemmas.Bool.Decides.{nat_tests}
use Rattle.std.proofs.lemmas.Int.{ints}
use Rattle.std.proofs.lemmas.List.{length-take-le}
use Rattle.std.proofs.lemmas.Option.{get_or_from_slice_get, same_Some, slice_get-get_or, slice_get_within}
use Rattle.std.specs.List.{slice_get}
use Rattle.std.specs.List.Sorted.{IsPartitionPoint, IsPartitionedBy}
use Rattle.act_model.specs.declared.observed.Obs.{Obs}
use Rattle.act_profile.specs.Reads.{day_of_entry}
use Rattle.act_cut.specs.Lows.{AreLows, least_by}
use Rattle.act_cut.specs.declared.lows.Low.{Low}
use Rattle.act_cut.proofs.Least.{get-take, none_by, some_by}

-- ---- one more at the end

pub get-push : {X : Type 0} (xs : List X) (y : X) → slice_get (xs ++ y ∷ []) (length xs) ≡ Some y
get-push [] y = refl
get-push (x ∷ xs) y = get-push xs y

pub get-old : {X : Type 0} (xs : List X) (y x : X) (k : ℕ) → slice_get xs k ≡ Some x → slice_get (xs ++ y ∷ []) k ≡ Some x
get-old [] y x k is = absurd (cc)
get-old (z ∷ xs) y x zero is = is
get-old (z ∷ xs) y x (suc k) is = get-old xs y x k is

pub get-push_cases : {X : Type 0} (xs : List X) (y z : X) (k : ℕ) → slice_get (xs ++ y ∷ []) k ≡ Some z → ((k < length xs) × (slice_get xs k ≡ Some z)) ⊎ ((k ≡ length xs) × (y ≡ z))
get-push_cases [] y z zero is = inr (refl, same_Some y z is)
get-push_cases [] y z (suc k) is = absurd (cc)
get-push_cases (x ∷ xs) y z zero is = inl (omega arith, is)
get-push_cases (x ∷ xs) y z (suc k) is = elim (get-push_cases xs y z k is) [
  | inl old ↦ inl (omega (arith, old.0), old.1)
  | inr new ↦ inr (ap suc new.0, new.1)
]

-- ---- where a list is parted

place_below : ℕ → Low → Bool
place_below n low = nat_lt low.place n

day_before : ℤ → Low → Bool
day_before day low = int_lt low.day day

module _ (test : Obs → Bool) (entries : List Obs) (lows : List Low) (are : AreLows test entries lows) where
  rises : (i j : ℕ) (d : Low) → i < j → j < length lows → ((get_or lows i d).place < (get_or lows j d).place) × ((get_or lows i d).day <ℤ (get_or lows j d).day)
  rises i j d lt within =
      are.rising i j (get_or lows i d) (get_or lows j d) lt (slice_get-get_or lows i d (omega arith)) (slice_get-get_or lows j d within)

  pub parted_place : (n : ℕ) → IsPartitionedBy (λ low. nat_lt low.place n) lows
  parted_place n i j d le within is = elim (cases_order i j) [
    | inl same ↦ rw same is
    | inr apart ↦ elim apart [
      | inl lt ↦ let order = (rises i j d lt within).0 in grind (arith, nat_tests)
      | inr gt ↦ absurd (omega arith)
    ]
  ]

  pub parted_day : (day : ℤ) → IsPartitionedBy (λ low. int_lt low.day day) lows
  parted_day day i j d le within is = elim (cases_order i j) [
    | inl same ↦ rw same is
    | inr apart ↦ elim apart [
      | inl lt ↦ let order = (rises i j d lt within).1 in grind (arith, ints)
      | inr gt ↦ absurd (omega arith)
    ]
  ]

  -- ---- the least day

  module _ (from to first : ℕ) (point : IsPartitionPoint (λ (low : Low). nat_lt low.place from ≡ true) (λ (low : Low). nat_lt low.place from ≡ false) lows first) where
    -- one that stands at the place or behind it stands at the point or behind it
    behind : (i : ℕ) (low : Low) → slice_get lows i ≡ Some low → from ≤ low.place → first ≤ i
    behind i low is le = elim (cases_lt i first) [
      | inl below ↦
          let same : get_or lows i low ≡ low = get_or_from_slice_get lows i low low is in
          let test : nat_lt low.place from ≡ true = ap (λ (l : Low). nat_lt l.place from) (sym same) ∙ point.0 i low (omega arith) below in
          absurd (grind (arith, nat_tests))
      | inr past ↦ past
    ]

    at_from : (low : Low) → slice_get lows first ≡ Some low → from ≤ low.place
    at_from low is =
        let same : get_or lows first low ≡ low = get_or_from_slice_get lows first low low is in
        let test : nat_lt low.place from ≡ false = ap (λ (l : Low). nat_lt l.place from) (sym same) ∙ point.1 first low (omega arith) (slice_get_within lows first low is) in
        grind (arith, nat_tests)

    pub least_first : (low : Low) → slice_get lows first ≡ Some low → low.place < to → Some low.day ≡ least_by test entries from to
    least_first low is below =
        let there = are.there first low is in
        let entry : Obs = there.0 in
        let day : day_of_entry entry ≡ low.day = there.3 in
        sym (some_by entries from to test low.place entry (at_from low is) below there.1 there.2 (λ other e low-other below-other at passes.
        let reached = are.reached other e at passes in
        let after : first ≤ reached.0 = behind reached.0 reached.1 reached.2 (omega (arith, reached.3)) in
        elim (cases_order first reached.0) [
          | inl same ↦
              let one : low ≡ reached.1 = same_Some low reached.1 (sym is ∙ ap (slice_get lows) same ∙ reached.2) in
              rw day (rw one reached.4)
          | inr apart ↦ elim apart [
            | inl lt ↦ let order = (are.rising first reached.0 low reached.1 lt is reached.2).1 in let last = reached.4 in rw day (omega (arith, ints))
            | inr gt ↦ absurd (omega arith)
          ]
        ])
        ∙ ap (λ d. Some d) day)

    pub least_past : length lows ≤ first → None ≡ least_by test entries from to
    least_past past = sym (none_by entries from to test (λ place entry from-place below at passes.
        let reached = are.reached place entry at passes in
        let after : first ≤ reached.0 = behind reached.0 reached.1 reached.2 (omega (arith, reached.3)) in
        omega (arith, slice_get_within lows reached.0 reached.1 reached.2)))

    pub told_first : (low : Low) → slice_get lows first ≡ Some low → low.place < length entries
    told_first low is = let there = are.there first low is in slice_get_within entries low.place there.0 there.1

  -- ---- an entry more

  pub lows-quiet : (entry : Obs) → test entry ≡ false → AreLows test (entries ++ entry ∷ []) lows
  lows-quiet entry fails = record {
    rising = are.rising;
    there = λ i low is. let there = are.there i low is in (there.0, get-old entries entry there.0 low.place there.1, there.2, there.3);
    reached = λ place e is passes. elim (get-push_cases entries entry e place is) [
      | inl old ↦ are.reached place e old.1 passes
      | inr new ↦ let same : test entry ≡ true = ap test new.1 ∙ passes in absurd (cc)
    ];
  }

  module _ (kept : ℕ) (day : ℤ) (within : kept ≤ length lows) (point : IsPartitionPoint (λ (low : Low). int_lt low.day day ≡ true) (λ (low : Low). int_lt low.day day ≡ false) lows kept)
      (entry : Obs) (passes : test entry ≡ true) (day_is : day ≡ day_of_entry entry) where
    abbrev last : Low
    last = record { place = length entries; day = day }

    abbrev new : List Low
    new = take kept lows ++ last ∷ []

    count : length (take kept lows) ≡ kept
    count = length-take-le kept lows within

    kept-told : (i : ℕ) (low : Low) → slice_get (take kept lows) i ≡ Some low → (i < kept) × (slice_get lows i ≡ Some low)
    kept-told i low is =
        let lt : i < kept = omega (arith, slice_get_within (take kept lows) i low is, count) in
        (lt, sym (get-take lows kept i lt) ∙ is)

    kept-day : (i : ℕ) (low : Low) → i < kept → slice_get lows i ≡ Some low → low.day <ℤ day
    kept-day i low lt is =
        let same : get_or lows i low ≡ low = get_or_from_slice_get lows i low low is in
        let test : int_lt low.day day ≡ true = ap (λ (l : Low). int_lt l.day day) (sym same) ∙ point.0 i low (omega arith) lt in
        grind (arith, ints)

    gone-day : (i : ℕ) (low : Low) → kept ≤ i → slice_get lows i ≡ Some low → day ≤ℤ low.day
    gone-day i low le is =
        let same : get_or lows i low ≡ low = get_or_from_slice_get lows i low low is in
        let test : int_lt low.day day ≡ false = ap (λ (l : Low). int_lt l.day day) (sym same) ∙ point.1 i low le (slice_get_within lows i low is) in
        grind (arith, ints)

    last_is : slice_get new kept ≡ Some last
    last_is = ap (slice_get new) (sym count) ∙ get-push (take kept lows) last

    pub lows-put : AreLows test (entries ++ entry ∷ []) (take kept lows ++ record { place = length entries; day = day } ∷ [])
    lows-put = record {
      rising = λ i j first second lt is-first is-second. elim (get-push_cases (take kept lows) last first i is-first) [
        | inl old-first ↦
            let one = kept-told i first old-first.1 in
            elim (get-push_cases (take kept lows) last second j is-second) [
              | inl old-second ↦ are.rising i j first second lt one.1 (kept-told j second old-second.1).1
              | inr new-second ↦
                  let there = are.there i first one.1 in
                  subst (λ (low : Low). (first.place < low.place) × (first.day <ℤ low.day)) new-second.1 (slice_get_within entries first.place there.0 there.1, kept-day i first one.0 one.1)
            ]
        | inr new-first ↦ elim (get-push_cases (take kept lows) last second j is-second) [
          | inl old-second ↦ absurd (omega (arith, new-first.0, old-second.0))
          | inr new-second ↦ absurd (omega (arith, new-first.0, new-second.0))
        ]
      ];
      there = λ i low is. elim (get-push_cases (take kept lows) last low i is) [
        | inl old ↦ let there = are.there i low (kept-told i low old.1).1 in (there.0, get-old entries entry there.0 low.place there.1, there.2, there.3)
        | inr one ↦ subst (λ (low : Low). (e : Obs) × (slice_get (entries ++ entry ∷ []) low.place ≡ Some e) × (test e ≡ true) × (day_of_entry e ≡ low.day)) one.1 (entry, get-push entries entry, passes, sym day_is)
      ];
      reached = λ place e is e-passes. elim (get-push_cases entries entry e place is) [
        | inl old ↦
            let reached = are.reached place e old.1 e-passes in
            elim (cases_lt reached.0 kept) [
              | inl lt ↦ (reached.0, reached.1, get-old (take kept lows) last reached.1 reached.0 (get-take lows kept reached.0 lt ∙ reached.2), reached.3, reached.4)
              | inr le ↦ let order = gone-day reached.0 reached.1 le reached.2 in let bound = reached.4 in (kept, last, last_is, omega (arith, old.0), omega (arith, ints))
            ]
        | inr one ↦ (kept, last, last_is, omega (arith, one.0), subst (λ (x : Obs). day ≤ℤ day_of_entry x) one.1 (omega (arith, ints)))
      ];
    }
