-- Where the latest rate stands among the entries.
use Rattle.std.proofs.Common.{◌≡◌, ℕ, ◌+◌, ◌<◌, Bool, true, false, ◌&&◌, ◌==◌, ℤ, ◌<ℤ◌, ◌≤ℤ◌, List, [], ◌∷◌, ◌++◌, length, get_or, Option, Some, None, option_map, ◌⊎◌, ◌↔◌, inl, inr, refl, sym, ap, subst, ◌∙◌, if◌then◌else◌, arith}
use Rattle.std.proofs.Math.Seq.{get_or-append_seam}
use Rattle.std.proofs.lemmas.Bool.{cases_lt, cases_order}
use Rattle.std.proofs.lemmas.Bool.Decides.{nat_tests}
use Rattle.std.proofs.lemmas.Int.{ints}
use Rattle.std.proofs.lemmas.List.{get_or_append_left, length-append, reverse-append, reverse-reverse}
use Rattle.std.proofs.lemmas.Option.{cond_some, get_or_from_slice_get, same_Some, slice_get-get_or, slice_get_within}
use Rattle.std.specs.List.{slice_get}
use Rattle.std.specs.Prelude.{int_le, int_lt, reverse}
use Rattle.act_model.specs.declared.observed.Obs.{Obs}
use Rattle.act_model.specs.declared.observed.Obs.TheVariants.{Rate, Event}
use Rattle.act_model.specs.Latest.{later}
use Rattle.act_model.specs.Observed.{HasNoRate, IsLatestRate, IsLatestRateAt, IsRateAt, observation, rate_until, rates_until}
use Rattle.act_model.proofs.LatestRates.{IsLatestOf, latest_is, latest_next}

-- ---- one entry

-- the entry is a rate of the code dated not after the day
abbrev IsRate : Obs → ℕ → ℤ → ℤ → ℤ → Type 0
IsRate entry code t day value = (entry ≡ Rate code day value) × (day ≤ℤ t)

rate_at : (code c : ℕ) (t day value : ℤ) (rate : ℤ × ℤ) (same : Bool) → (c == code) ≡ same → (if same && int_le day t then Some (day, value) else None) ≡ Some rate → IsRate (Rate c day value) code t rate.0 rate.1
rate_at code c t day value rate false is e = absurd (cc)
rate_at code c t day value rate true is e =
    let known = cond_some (int_le day t) (day, value) rate e in
    let named : c ≡ code = grind (arith, nat_tests) in
    (rw (← known.1, named) refl, rw (← known.1) (let h = known.0 in grind (arith, ints)))

rate_some : (entry : Obs) (code : ℕ) (t : ℤ) (rate : ℤ × ℤ) → rate_until code t entry ≡ Some rate → IsRate entry code t rate.0 rate.1
rate_some (Rate c day value) code t rate e = rate_at code c t day value rate (c == code) refl e
rate_some (Event c kind day value) code t rate e = absurd (cc)

same_code : (code : ℕ) → (code == code) ≡ true
same_code code = grind (arith, nat_tests)

in_time : (day t : ℤ) → day ≤ℤ t → int_le day t ≡ true
in_time day t h = grind (arith, ints)

rate_none : (entry : Obs) (code : ℕ) (t day value : ℤ) → rate_until code t entry ≡ None → ¬ IsRate entry code t day value
rate_none entry code t day value none is =
    let some : rate_until code t entry ≡ Some (day, value) = rw (is.0, same_code code, in_time day t is.1) refl in
    absurd (cc)

same_rate : (entry : Obs) (code : ℕ) (t d v d' v' : ℤ) → IsRate entry code t d v → IsRate entry code t d' v' → (d ≡ d') × (v ≡ v')
same_rate entry code t d v d' v' a b = let e : Rate code d v ≡ Rate code d' v' = sym a.0 ∙ b.0 in (cc, cc)

-- ---- the entries with one more

module _ (entries : List Obs) (entry : Obs) (code : ℕ) (t : ℤ) where
  length_more : length (entries ++ entry ∷ []) ≡ length entries + 1
  length_more = length-append entries (entry ∷ [])

  at_end : (day value : ℤ) → IsRate entry code t day value → IsRateAt (entries ++ entry ∷ []) code t (length entries) day value
  at_end day value is =
      (slice_get-get_or (entries ++ entry ∷ []) (length entries) entry (omega (arith, length_more)) ∙ ap Some (get_or-append_seam entries entry [] entry ∙ is.0), is.1)

  within : (place : ℕ) (day value : ℤ) → IsRateAt entries code t place day value → place < length entries
  within place day value is = slice_get_within entries place (Rate code day value) is.0

  same_before : (place : ℕ) → place < length entries → slice_get (entries ++ entry ∷ []) place ≡ slice_get entries place
  same_before place below =
      slice_get-get_or (entries ++ entry ∷ []) place entry (omega (arith, length_more)) ∙ ap Some (get_or_append_left entries (entry ∷ []) entry place below) ∙ sym (slice_get-get_or entries place entry below)

  stays : (place : ℕ) (day value : ℤ) → IsRateAt entries code t place day value → IsRateAt (entries ++ entry ∷ []) code t place day value
  stays place day value is = (same_before place (within place day value is) ∙ is.0, is.1)

  cases : (place : ℕ) (day value : ℤ) → IsRateAt (entries ++ entry ∷ []) code t place day value → IsRateAt entries code t place day value ⊎ ((place ≡ length entries) × IsRate entry code t day value)
  cases place day value is =
      let inside : place < length (entries ++ entry ∷ []) = slice_get_within (entries ++ entry ∷ []) place (Rate code day value) is.0 in
      elim (cases_lt place (length entries)) [
        | inl below ↦ inl (sym (same_before place below) ∙ is.0, is.1)
        | inr above ↦
            let end : place ≡ length entries = omega (arith, length_more) in
            let last : get_or (entries ++ entry ∷ []) (length entries) entry ≡ Rate code day value = get_or_from_slice_get (entries ++ entry ∷ []) (length entries) (Rate code day value) entry (ap (slice_get (entries ++ entry ∷ [])) (sym end) ∙ is.0) in
            inr (end, (sym (get_or-append_seam entries entry [] entry) ∙ last, is.1))
      ]

-- ---- the law

-- where the rate that was found stands, if one was
abbrev IsPlaced : List Obs → ℕ → ℤ → Option (ℤ × ℤ) → Type 0
IsPlaced entries code t None = HasNoRate entries code t
IsPlaced entries code t (Some found) = (place : ℕ) × IsLatestRateAt entries code t place found.0 found.1

module _ (entries : List Obs) (entry : Obs) (code : ℕ) (t : ℤ) where
  none_yet : HasNoRate entries code t → ((day value : ℤ) → ¬ IsRate entry code t day value) → HasNoRate (entries ++ entry ∷ []) code t
  none_yet none other place day value is =
      elim (cases entries entry code t place day value is) [
        | inl before ↦ none place day value before
        | inr end ↦ other day value end.1
      ]

  -- an earlier rate stays the latest, where the entry is no later one
  kept : (place : ℕ) (day value : ℤ) → IsLatestRateAt entries code t place day value → ((d v : ℤ) → IsRate entry code t d v → d <ℤ day) → IsLatestRateAt (entries ++ entry ∷ []) code t place day value
  kept place day value h earlier = record {
    here = stays entries entry code t place day value h.here;
    latest = λ other d v is. elim (cases entries entry code t other d v is) [
      | inl before ↦ h.latest other d v before
      | inr end ↦ let lower : d <ℤ day = earlier d v end.1 in omega (arith, ints)
    ];
    last = λ other d v is behind. elim (cases entries entry code t other d v is) [
      | inl before ↦ h.last other d v before behind
      | inr end ↦ earlier d v end.1
    ];
  }

  -- the entry becomes the latest, where it is a rate and no earlier one has a later day
  taken : (day value : ℤ) → IsRate entry code t day value → ((other : ℕ) (d v : ℤ) → IsRateAt entries code t other d v → d ≤ℤ day) → IsLatestRateAt (entries ++ entry ∷ []) code t (length entries) day value
  taken day value is none_later = record {
    here = at_end entries entry code t day value is;
    latest = λ other d v at. elim (cases entries entry code t other d v at) [
      | inl before ↦ none_later other d v before
      | inr end ↦ let same = same_rate entry code t d v day value end.1 is in omega (arith, ints)
    ];
    last = λ other d v at behind. elim (cases entries entry code t other d v at) [
      | inl before ↦ let place = within entries entry code t other d v before in absurd (omega arith)
      | inr end ↦ absurd (omega arith)
    ];
  }

  by_order : (found next : ℤ × ℤ) → IsRate entry code t next.0 next.1 → (place : ℕ) → IsLatestRateAt entries code t place found.0 found.1 → (b : Bool) → int_lt next.0 found.0 ≡ b → IsPlaced (entries ++ entry ∷ []) code t (Some (if b then found else next))
  by_order found next is place h true lt =
      let earlier : next.0 <ℤ found.0 = grind (arith, ints) in
      (place, kept place found.0 found.1 h (λ d v other. let same = same_rate entry code t d v next.0 next.1 other is in omega (arith, ints)))
  by_order found next is place h false lt =
      let not_earlier : found.0 ≤ℤ next.0 = grind (arith, ints) in
      (length entries, taken next.0 next.1 is (λ other d v at. let earlier : d ≤ℤ found.0 = h.latest other d v at in omega (arith, ints)))

  placed_next : (found next : Option (ℤ × ℤ)) → rate_until code t entry ≡ next → IsPlaced entries code t found → IsPlaced (entries ++ entry ∷ []) code t (later found next)
  placed_next None None e h = none_yet h (λ day value. rate_none entry code t day value e)
  placed_next None (Some next) e h =
      (length entries, taken next.0 next.1 (rate_some entry code t next e) (λ other d v at. absurd (h other d v at)))
  placed_next (Some found) None e h =
      (h.0, kept h.0 found.0 found.1 h.1 (λ d v is. absurd (rate_none entry code t d v e is)))
  placed_next (Some found) (Some next) e h =
      by_order found next (rate_some entry code t next e) h.0 h.1 (int_lt next.0 found.0) refl

-- the latest rate, if there is one, and where it stands
record Outcome (entries : List Obs) (code : ℕ) (t : ℤ) : Type 0 where
  found : Option (ℤ × ℤ)
  is_latest : IsLatestOf (rates_until entries code t) found
  is_placed : IsPlaced entries code t found

outcome_reversed : (entries : List Obs) (code : ℕ) (t : ℤ) → Outcome (reverse entries) code t
outcome_reversed [] code t = record { found = None; is_latest = refl; is_placed = λ place day value is. absurd (cc) }
outcome_reversed (entry ∷ entries) code t =
    let h = outcome_reversed entries code t in
    rw (reverse-append (entry ∷ []) entries) (record {
      found = later h.found (rate_until code t entry);
      is_latest = latest_next (reverse entries) entry code t h.found h.is_latest;
      is_placed = placed_next (reverse entries) entry code t h.found (rate_until code t entry) refl h.is_placed;
    })

outcome : (entries : List Obs) (code : ℕ) (t : ℤ) → Outcome entries code t
outcome entries code t =
    subst (λ entries. Outcome entries code t) (reverse-reverse entries) (outcome_reversed (reverse entries) code t)

latest_unique : (entries : List Obs) (code : ℕ) (t : ℤ) (p : ℕ) (d v : ℤ) (p' : ℕ) (d' v' : ℤ) → IsLatestRateAt entries code t p d v → IsLatestRateAt entries code t p' d' v' → v ≡ v'
latest_unique entries code t p d v p' d' v' a b =
    let up : d' ≤ℤ d = a.latest p' d' v' b.here in
    let down : d ≤ℤ d' = b.latest p d v a.here in
    elim (cases_order p p') [
      | inl same ↦ let e : Some (Rate code d v) ≡ Some (Rate code d' v') = sym a.here.0 ∙ ap (slice_get entries) same ∙ b.here.0 in cc
      | inr order ↦ elim order [
        | inl behind ↦ let earlier : d' <ℤ d = a.last p' d' v' b.here behind in absurd (omega (arith, ints))
        | inr before ↦ let earlier : d <ℤ d' = b.last p d v a.here before in absurd (omega (arith, ints))
      ]
    ]

value_by : (entries : List Obs) (code : ℕ) (t v : ℤ) (found : Option (ℤ × ℤ)) → IsPlaced entries code t found → option_map (λ rate. rate.1) found ≡ Some v → IsLatestRate entries code t v
value_by entries code t v None h e = absurd (cc)
value_by entries code t v (Some found) h e =
    let same : found.1 ≡ v = same_Some found.1 v e in
    (h.0, found.0, rw (← same) h.1)

by_value : (entries : List Obs) (code : ℕ) (t v : ℤ) (found : Option (ℤ × ℤ)) → IsPlaced entries code t found → IsLatestRate entries code t v → option_map (λ rate. rate.1) found ≡ Some v
by_value entries code t v None h is = absurd (h is.0 is.1 v is.2.here)
by_value entries code t v (Some found) h is =
    ap Some (latest_unique entries code t h.0 found.0 found.1 is.0 is.1 v h.1 is.2)

none_by : (entries : List Obs) (code : ℕ) (t : ℤ) (found : Option (ℤ × ℤ)) → IsPlaced entries code t found → option_map (λ rate. rate.1) found ≡ None → HasNoRate entries code t
none_by entries code t None h e = h
none_by entries code t (Some found) h e = absurd (cc)

by_none : (entries : List Obs) (code : ℕ) (t : ℤ) (found : Option (ℤ × ℤ)) → IsPlaced entries code t found → HasNoRate entries code t → option_map (λ rate. rate.1) found ≡ None
by_none entries code t None h nowhere = refl
by_none entries code t (Some found) h nowhere = absurd (nowhere h.0 found.0 found.1 h.1.here)

module _ (entries : List Obs) (code : ℕ) (t : ℤ) where
  pub observed_law : (value : ℤ) → (observation entries code t ≡ Some value) ↔ IsLatestRate entries code t value
  observed_law value =
      let h = outcome entries code t in
      let same = latest_is entries code t h.found h.is_latest in
      (λ e. value_by entries code t value h.found h.is_placed (sym same ∙ e), λ is. same ∙ by_value entries code t value h.found h.is_placed is)

  pub unobserved_law : (observation entries code t ≡ None) ↔ HasNoRate entries code t
  unobserved_law =
      let h = outcome entries code t in
      let same = latest_is entries code t h.found h.is_latest in
      (λ e. none_by entries code t h.found h.is_placed (sym same ∙ e), λ nowhere. same ∙ by_none entries code t h.found h.is_placed nowhere)
