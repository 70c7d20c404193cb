-- The latest rate of a code in a list that is sorted, and in the list that it was sorted from.
use Rattle.std.proofs.Common.{◌≡◌, ℕ, ◌-◌, ◌<◌, ◌≤◌, ◌&&◌, ◌==◌, Bool, true, false, cond, ℤ, ◌<ℤ◌, ◌≤ℤ◌, List, [], ◌∷◌, ◌++◌, length, get_or, map, take, drop, Option, Some, None, inl, inr, refl, sym, ap, ◌∙◌, if◌then◌else◌, arith}
use Rattle.std.proofs.lemmas.Bool.{cases_lt}
use Rattle.std.proofs.lemmas.Bool.Decides.{nat_tests}
use Rattle.std.proofs.lemmas.Int.{by_lt_z, fold-int_max_bounds, ints}
use Rattle.std.proofs.lemmas.List.{get_or-map, get_or-take, length-map, length-take-le, take-append-drop, take_more}
use Rattle.std.proofs.lemmas.List.Elements.{All-cons, All-head, All-tail, filter_agree}
use Rattle.std.proofs.lemmas.List.Sums.{fold-append}
use Rattle.std.proofs.lemmas.Option.{get_or_from_slice_get, same_Some, slice_get-get_or, slice_get_within}
use Rattle.std.specs.Int.{int_max}
use Rattle.std.specs.List.{All, cons_option, filter, filter_map, reduce, slice_get}
use Rattle.std.specs.List.Sorted.{IsPartitionPoint, IsPartitionedBy, IsSortedBy, IsStableBy, ties}
use Rattle.std.specs.declared.cmp.Ordering.{Ordering}
use Rattle.std.specs.declared.cmp.Ordering.TheVariants.{Less, Equal, Greater}
use Rattle.std.specs.Ordering.{int_eq, is_ge, is_lt}
use Rattle.std.specs.Prelude.{int_le, int_lt}
use Rattle.act_model.specs.declared.observed.Obs.{Obs}
use Rattle.act_model.specs.declared.observed.Obs.TheVariants.{Rate, Event}
use Rattle.act_model.specs.Latest.{later}
use Rattle.act_model.specs.Observed.{last_of_day, rate_until, rates_until}
use Rattle.act_model.proofs.LatestRates.{IsLatestOf}
use Rattle.act_book.specs.Order.{before, order_of, rate_on}
use Rattle.act_book.specs.Rates.{latest_rate}
use Rattle.act_book.proofs.Filters.{All-back, All-front, filter_none}
use Rattle.act_book.proofs.LatestRate.{latest_by_walk, walk, walked}
use Rattle.act_book.proofs.Ordered.{far, weak}

-- ---- rates by their days

-- no rate is of a later day than the latest
later_days : (rates : List (ℤ × ℤ)) (most day : ℤ) → reduce int_max (map (λ rate. rate.0) rates) ≡ Some most → most <ℤ day → last_of_day rates day ≡ None
later_days [] most day e above = refl
later_days (rate ∷ rates) most day e above =
    let bounds = fold-int_max_bounds rate.0 (map (λ rate. rate.0) rates) most (sym (same_Some _ _ e)) in
    let other : (d : ℤ) → d ≤ℤ most → int_eq d day ≡ false = λ d within. let lower : d <ℤ day = omega (arith, ints) in grind (arith, ints) in
    rw (filter_none (λ rate. int_eq rate.0 day) (rate ∷ rates) (All-cons (λ rate. int_eq rate.0 day ≡ false) rate rates (other rate.0 bounds.0)
    (λ k d within. other (get_or rates k d).0 (rw (get_or-map (λ (rate : ℤ × ℤ). rate.0) rates k d d.0 within) at (bounds.1 k d.0 (rw length-map within)))))) refl

same_rate : (a b : ℤ × ℤ) → a.0 ≡ b.0 → a.1 ≡ b.1 → a ≡ b
same_rate a b day value = ap (λ d. (d, a.1)) day ∙ ap (λ v. (b.0, v)) value

-- lists with the same last rate of each day have the same latest rate
same_latest : (rates others : List (ℤ × ℤ)) (found other : Option (ℤ × ℤ)) → IsLatestOf rates found → IsLatestOf others other → ((day : ℤ) → last_of_day rates day ≡ last_of_day others day) → found ≡ other
same_latest rates others None None h k same = refl
same_latest rates others None (Some other) h k same =
    let none : last_of_day rates other.0 ≡ None = rw h refl in
    let some : last_of_day rates other.0 ≡ Some other.1 = same other.0 ∙ k.1 in absurd (cc)
same_latest rates others (Some found) None h k same =
    let none : last_of_day others found.0 ≡ None = rw k refl in
    let some : last_of_day others found.0 ≡ Some found.1 = sym (same found.0) ∙ h.1 in absurd (cc)
same_latest rates others (Some found) (Some other) h k same =
    let up : other.0 ≤ℤ found.0 = by_lt_z found.0 other.0 (λ above. let none = later_days rates found.0 other.0 h.0 above in let some : last_of_day rates other.0 ≡ Some other.1 = same other.0 ∙ k.1 in absurd (cc)) (λ within. within) in
    let down : found.0 ≤ℤ other.0 = by_lt_z other.0 found.0 (λ above. let none = later_days others other.0 found.0 k.0 above in let some : last_of_day others found.0 ≡ Some found.1 = sym (same found.0) ∙ h.1 in absurd (cc)) (λ within. within) in
    let day : found.0 ≡ other.0 = omega (arith, ints) in
    let value : Some found.1 ≡ Some other.1 = sym h.1 ∙ same found.0 ∙ rw day k.1 in
    ap Some (same_rate found other day (same_Some _ _ value))

by_order : (o : Ordering) → is_lt o ≡ false → is_ge o ≡ true
by_order Less is = absurd (cc)
by_order Equal is = refl
by_order Greater is = refl

order_by : (o : Ordering) → is_ge o ≡ true → is_lt o ≡ false
order_by Less is = absurd (cc)
order_by Equal is = refl
order_by Greater is = refl

module _ (code : ℕ) (t : ℤ) where
  -- ---- the rates of one day

  -- a rate of the code on a day
  abbrev is_rate_on : ℤ → Obs → Bool
  is_rate_on day (Rate c d value) = (c == code) && int_eq d day
  is_rate_on day (Event c kind d value) = false

  tied_is : (day : ℤ) (y : Obs) → is_rate_on day y ≡ ties before (rate_on code day) y
  tied_is day (Rate c d value) = grind (arith, nat_tests, ints)
  tied_is day (Event c kind d value) = refl

  of_cond : (b : Bool) (entry : Obs) (entries : List Obs) → filter_map (rate_until code t) (cond b (entry ∷ entries) entries) ≡ cond b (cons_option (rate_until code t entry) (filter_map (rate_until code t) entries)) (filter_map (rate_until code t) entries)
  of_cond true entry entries = refl
  of_cond false entry entries = refl

  turn : (a b e : Bool) (p : ℤ × ℤ → Bool) (rate : ℤ × ℤ) (rates kept : List (ℤ × ℤ)) → p rate ≡ e → filter p rates ≡ kept → filter p (cons_option (if a && b then Some rate else None) rates) ≡ cond (a && e) (cons_option (if a && b then Some rate else None) kept) kept
  turn false b e p rate rates kept is same = same
  turn true false false p rate rates kept is same = same
  turn true false true p rate rates kept is same = same
  turn true true false p rate rates kept is same = rw is same
  turn true true true p rate rates kept is same = rw is (ap (λ kept. rate ∷ kept) same)

  on_day : (day : ℤ) (entries : List Obs) → filter (λ rate. int_eq rate.0 day) (rates_until entries code t) ≡ rates_until (filter (is_rate_on day) entries) code t
  on_day day [] = refl
  on_day day (Event c kind d value ∷ entries) = on_day day entries
  on_day day (Rate c d value ∷ entries) =
      turn (c == code) (int_le d t) (int_eq d day) (λ rate. int_eq rate.0 day) (d, value) (rates_until entries code t) (rates_until (filter (is_rate_on day) entries) code t) refl (on_day day entries)
      ∙ sym (of_cond ((c == code) && int_eq d day) (Rate c d value) (filter (is_rate_on day) entries))

  same_day : (entries sorted : List Obs) → IsStableBy before entries sorted → (day : ℤ) → filter (is_rate_on day) entries ≡ filter (is_rate_on day) sorted
  same_day entries sorted stable day =
      filter_agree (is_rate_on day) (ties before (rate_on code day)) (tied_is day) entries
      ∙ sym (stable (rate_on code day))
      ∙ sym (filter_agree (is_rate_on day) (ties before (rate_on code day)) (tied_is day) sorted)

  -- a list and the same sorted have the same latest rate
  pub same_rates : (entries sorted : List Obs) → IsStableBy before entries sorted → latest_rate entries code t ≡ latest_rate sorted code t
  same_rates entries sorted stable =
      walked code t entries
      ∙ same_latest (rates_until entries code t) (rates_until sorted code t) (walk code t None entries) (walk code t None sorted) (latest_by_walk code t entries) (latest_by_walk code t sorted)
      (λ day. rw (on_day day entries, on_day day sorted, same_day entries sorted stable day) refl)
      ∙ sym (walked code t sorted)

  -- ---- where the latest rate stands

  -- the code's rates up to the day, and what stands before them
  abbrev pub is_until : Obs → Bool
  is_until entry = is_ge (order_of (rate_on code t) entry)

  behind_none : (y : Obs) → is_until y ≡ false → rate_until code t y ≡ None
  behind_none (Rate c d value) is = grind (arith, nat_tests, ints)
  behind_none (Event c kind d value) is = refl

  until_by : (y : Obs) → before (rate_on code t) y ≡ false → is_until y ≡ true
  until_by y is = by_order (order_of (rate_on code t) y) is

  by_until : (y : Obs) → is_until y ≡ true → before (rate_on code t) y ≡ false
  by_until y is = order_by (order_of (rate_on code t) y) is

  abbrev Until : ℤ → Option (ℤ × ℤ) → Type 0
  Until day None = Unit {0}
  Until day (Some rate) = rate.0 ≤ℤ day

  earlier_none : (y last : Obs) → before last y ≡ false → is_until last ≡ true → rate_until code t last ≡ None → rate_until code t y ≡ None
  earlier_none (Event c kind d value) last up is none = refl
  earlier_none (Rate c d value) (Event c' kind d' value') up is none = absurd (cc)
  earlier_none (Rate c d value) (Rate c' d' value') up is none = grind (arith, nat_tests, ints)

  earlier_until : (y last : Obs) (rate : ℤ × ℤ) → before last y ≡ false → rate_until code t last ≡ Some rate → Until rate.0 (rate_until code t y)
  earlier_until (Event c kind d value) last rate up some = tt
  earlier_until (Rate c d value) (Event c' kind d' value') rate up some = absurd (cc)
  earlier_until (Rate c d value) (Rate c' d' value') rate up some = grind (arith, nat_tests, ints)

  until_later : (day : ℤ) (found next : Option (ℤ × ℤ)) → Until day found → Until day next → Until day (later found next)
  until_later day found None h k = h
  until_later day None (Some next) h k = k
  until_later day (Some found) (Some next) h k =
      elim (int_lt next.0 found.0) as (λ b. Until day (Some (if b then found else next))) [ true ↦ h | false ↦ k ]

  until_walk : (day : ℤ) (found : Option (ℤ × ℤ)) (entries : List Obs) → Until day found → All (λ entry. Until day (rate_until code t entry)) entries → Until day (walk code t found entries)
  until_walk day found [] h all = h
  until_walk day found (entry ∷ entries) h all =
      until_walk day (later found (rate_until code t entry)) entries
      (until_later day found (rate_until code t entry) h (All-head (λ entry. Until day (rate_until code t entry)) entry entries all))
      (All-tail (λ entry. Until day (rate_until code t entry)) entry entries all)

  quiet_walk : (found : Option (ℤ × ℤ)) (entries : List Obs) → All (λ entry. rate_until code t entry ≡ None) entries → walk code t found entries ≡ found
  quiet_walk found [] all = refl
  quiet_walk found (entry ∷ entries) all =
      rw (All-head (λ entry. rate_until code t entry ≡ None) entry entries all) (quiet_walk found entries (All-tail (λ entry. rate_until code t entry ≡ None) entry entries all))

  last_wins : (found : Option (ℤ × ℤ)) (next : ℤ × ℤ) → Until next.0 found → later found (Some next) ≡ Some next
  last_wins None next h = refl
  last_wins (Some found) next h = let order : int_lt next.0 found.0 ≡ false = grind (arith, ints) in rw order refl

  module _ (sorted : List Obs) (rising : IsSortedBy before sorted) where
    pub parted_until : IsPartitionedBy is_until sorted
    parted_until i j d le within is =
        until_by (get_or sorted i d) (weak.chain (rate_on code t) (get_or sorted j d) (get_or sorted i d) (by_until (get_or sorted j d) is) (far sorted rising i j d le within))

    module _ (end : ℕ) (point : IsPartitionPoint (λ y. is_until y ≡ true) (λ y. is_until y ≡ false) sorted end) where
      front_walk : walk code t None sorted ≡ walk code t None (take end sorted)
      front_walk =
          ap (walk code t None) (sym (take-append-drop end sorted))
          ∙ fold-append (λ latest entry. later latest (rate_until code t entry)) None (take end sorted) (drop end sorted)
          ∙ quiet_walk (walk code t None (take end sorted)) (drop end sorted) (All-back (λ y. rate_until code t y ≡ None) sorted end (λ k d low below. behind_none (get_or sorted k d) (point.1 k d low below)))

      -- where none of the entries is up to the rate
      pub latest_nowhere : end ≡ 0 → latest_rate sorted code t ≡ None
      latest_nowhere none = walked code t sorted ∙ front_walk ∙ ap (λ end. walk code t None (take end sorted)) none

      -- the last entry that is up to the rate
      module _ (some : 0 < end) (within : end ≤ length sorted) (last : Obs) (at : (d : Obs) → last ≡ get_or sorted (end - 1) d) where
        is_last : is_until last ≡ true
        is_last = rw (at last) (point.0 (end - 1) last (omega arith) (omega arith))

        rising_to : (k : ℕ) (d : Obs) → k < end - 1 → before last (get_or sorted k d) ≡ false
        rising_to k d below = rw (at d) (far sorted rising k (end - 1) d (omega arith) (omega arith))

        by_last : (rate : Option (ℤ × ℤ)) → rate_until code t last ≡ rate → later (walk code t None (take (end - 1) sorted)) rate ≡ rate
        by_last None is =
            quiet_walk None (take (end - 1) sorted) (All-front (λ y. rate_until code t y ≡ None) sorted (end - 1) (λ k d low below. earlier_none (get_or sorted k d) last (rising_to k d below) is_last is))
        by_last (Some rate) is =
            last_wins (walk code t None (take (end - 1) sorted)) rate
            (until_walk rate.0 None (take (end - 1) sorted) tt (All-front (λ y. Until rate.0 (rate_until code t y)) sorted (end - 1) (λ k d low below. earlier_until (get_or sorted k d) last rate (rising_to k d below) is)))

        pub latest_at : latest_rate sorted code t ≡ rate_until code t last
        latest_at =
            let longer : take end sorted ≡ take (end - 1) sorted ++ last ∷ [] = ap (λ n. take n sorted) (omega arith) ∙ take_more sorted (end - 1) last (omega arith) ∙ ap (λ x. take (end - 1) sorted ++ x ∷ []) (sym (at last)) in
            walked code t sorted ∙ front_walk ∙ ap (walk code t None) longer
            ∙ fold-append (λ latest entry. later latest (rate_until code t entry)) None (take (end - 1) sorted) (last ∷ [])
            ∙ by_last (rate_until code t last) refl

      -- the last of the entries that are up to the rate, as a slice gives it
      pub latest_found : end ≤ length sorted → (last : Obs) → Some last ≡ slice_get (take end sorted) (length (take end sorted) - 1) → latest_rate sorted code t ≡ rate_until code t last
      latest_found within last is =
          let long : length (take end sorted) ≡ end = length-take-le end sorted within in
          let below = slice_get_within (take end sorted) (length (take end sorted) - 1) last (sym is) in
          latest_at (omega arith) within last
          (λ d. sym (get_or_from_slice_get (take end sorted) (length (take end sorted) - 1) last d (sym is)) ∙ get_or-take end sorted (length (take end sorted) - 1) d (omega arith) ∙ ap (λ n. get_or sorted (n - 1) d) long)

      pub latest_missing : end ≤ length sorted → None ≡ slice_get (take end sorted) (length (take end sorted) - 1) → latest_rate sorted code t ≡ None
      latest_missing within is = elim (cases_lt 0 end) [
        | inl some ↦
            let long : length (take end sorted) ≡ end = length-take-le end sorted within in
            let entry = slice_get-get_or (take end sorted) (length (take end sorted) - 1) (rate_on code t) (omega arith) in
            absurd (cc)
        | inr none ↦ latest_nowhere (omega arith)
      ]
