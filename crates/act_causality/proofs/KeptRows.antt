-- What is kept under the cut between two versions.
use Rattle.std.proofs.Common.{◌≡◌, ◌≤◌, ℕ, max, min, false, ℤ, int_lt, ◌≤ℤ◌, List, [], ◌∷◌, ◌++◌, map, take, drop, Option, Some, None, inl, inr, refl, sym, ◌∙◌, ap, append-nil, arith}
use Rattle.std.specs.List.{filter}
use Rattle.std.proofs.Math.Nat.{max-eq_left, max-eq_right, min-eq_left, min-eq_right}
use Rattle.std.proofs.lemmas.Bool.{cases_Bool, cases_lt}
use Rattle.std.proofs.lemmas.Int.{ints}
use Rattle.std.proofs.lemmas.List.{take-append-drop, take-take}
use Rattle.std.proofs.lemmas.List.Elements.{filter-append}
use Rattle.act_date.specs.Civil.{last_day}
use Rattle.act_model.specs.Run.{Stream}
use Rattle.act_model.specs.declared.observed.Obs.{Obs}
use Rattle.act_model.specs.declared.run.Row.{Row}
use Rattle.act_profile.specs.Dates.{least}
use Rattle.act_profile.specs.Kept.{kept_of}
use Rattle.act_profile.specs.Reads.{codes_read, contracts_read, cut_by, cut_of, day_of_entry, touches}
use Rattle.act_profile.specs.Run.{Contracts, deepest, run_of}
use Rattle.act_profile.specs.Stops.{comes_before}
use Rattle.act_causality.specs.Causality.{AgreeBefore, IsLinked, IsWithinDepth, KeptRowsStay, RunsAgreeBefore, UnreadDoesNotMatter, is_entry_before, stops_before, touching_before}
use Rattle.act_causality.proofs.Cone.{cone-read}
use Rattle.act_causality.proofs.Days.{is_before_day, late-least_of}
use Rattle.act_causality.proofs.Law.{causality}
use Rattle.act_causality.proofs.Lists.{filter-map}
use Rattle.act_causality.proofs.Shadows.{pairs}
use Rattle.act_causality.proofs.Unread.{same_run_to}

pub unread : UnreadDoesNotMatter
unread contracts c one other linked within same =
    same_run_to (codes_read contracts c) (contracts_read contracts c) one other same contracts linked (pairs contracts linked) deepest c (cone-read contracts c within)

-- ---- runs that agree keep the same

pub kept_same : (day : ℤ) (one other : Stream) → RunsAgreeBefore day one other → kept_of one (Some day) ≡ kept_of other (Some day)
unfolding kept_of
kept_same day one other agree =
    elim (cases_Bool (stops_before day one)) [
      | inl stops ↦ ap (λ (run : Stream). kept_of run (Some day)) (agree.whole (inl stops))
      | inr goes_on ↦ elim (cases_Bool (stops_before day other)) [
        | inl stops ↦ ap (λ (run : Stream). kept_of run (Some day)) (agree.whole (inr stops))
        | inr goes_on2 ↦ rw goes_on (rw goes_on2 (ap (λ (rows : List Row). record { rows = rows; close = None }) agree.rows))
      ]
    ]

-- ---- the entries between two versions

later : (u w : ℕ) (entries : List Obs) → u ≤ w → take u entries ++ drop u (take w entries) ≡ take w entries
later u w entries order = ap (λ (first : List Obs). first ++ drop u (take w entries)) (sym (take-take u w entries order)) ∙ take-append-drop u (take w entries)

none-map : {A B : Type 0} (f : A → B) (xs : List A) → map f xs ≡ [] → xs ≡ []
none-map f [] is = refl
none-map f (x ∷ xs) is = absurd (cc)

module _ (codes contracts : List ℕ) (u w : ℕ) (entries : List Obs) (order : u ≤ w) where
  -- those that touch the cone
  abbrev between : List Obs
  between = filter (touches codes contracts) (drop u (take w entries))

  touching-later : filter (touches codes contracts) (take w entries) ≡ filter (touches codes contracts) (take u entries) ++ between
  touching-later = ap (filter (touches codes contracts)) (sym (later u w entries order)) ∙ filter-append (touches codes contracts) (take u entries) (drop u (take w entries))

  none-touching : between ≡ [] → filter (touches codes contracts) (take u entries) ≡ filter (touches codes contracts) (take w entries)
  none-touching none = sym (append-nil (filter (touches codes contracts) (take u entries))) ∙ ap (λ (more : List Obs). filter (touches codes contracts) (take u entries) ++ more) (sym none) ∙ sym touching-later

  none-early : (day : ℤ) → filter (is_entry_before day) between ≡ [] → AgreeBefore day codes contracts (take u entries) (take w entries)
  none-early day none = record {
    entries = sym (
        ap (filter (is_entry_before day)) touching-later ∙ filter-append (is_entry_before day) (filter (touches codes contracts) (take u entries)) between
        ∙ ap (λ (more : List Obs). touching_before day codes contracts (take u entries) ++ more) none ∙ append-nil (touching_before day codes contracts (take u entries)));
  }

  itself : (day : ℤ) → int_lt day day ≡ false
  itself day = grind (arith, ints)

  early-none : (day : ℤ) → least (map day_of_entry between) ≡ Some day → filter (is_entry_before day) between ≡ []
  early-none day is =
      let late : comes_before (least (map day_of_entry between)) (Some day) ≡ false = rw is (itself day) in
      none-map day_of_entry (filter (is_entry_before day) between)
      (sym (filter-map (is_entry_before day) (is_before_day day) day_of_entry (λ entry. refl) between) ∙ late-least_of day (map day_of_entry between) late)

-- ---- the law

none-least : (days : List ℤ) → least days ≡ None → days ≡ []
none-least [] is = refl
none-least (d ∷ days) is = absurd (cc)

kept-by : (contracts : Contracts) (c : ℕ) (entries : List Obs) (u w : ℕ) (cut : Option ℤ) → IsLinked contracts → IsWithinDepth deepest contracts c → u ≤ w → ((day : ℤ) → cut ≡ Some day → day ≤ℤ last_day) →
    least (map day_of_entry (filter (touches (codes_read contracts c) (contracts_read contracts c)) (drop u (take w entries)))) ≡ cut →
    kept_of (run_of contracts (take u entries) c) cut ≡ kept_of (run_of contracts (take w entries) c) cut
kept-by contracts c entries u w None linked within order range is =
    let codes = codes_read contracts c in
    let reads = contracts_read contracts c in
    ap (λ (run : Stream). kept_of run None) (unread contracts c (take u entries) (take w entries) linked within
    (none-touching codes reads u w entries order (none-map day_of_entry (between codes reads u w entries order) (none-least (map day_of_entry (between codes reads u w entries order)) is))))
kept-by contracts c entries u w (Some day) linked within order range is =
    let codes = codes_read contracts c in
    let reads = contracts_read contracts c in
    kept_same day (run_of contracts (take u entries) c) (run_of contracts (take w entries) c)
    (causality contracts c day (take u entries) (take w entries) linked within (range day refl)
    (none-early codes reads u w entries order day (early-none codes reads u w entries order day is)))

pub kept_rows : KeptRowsStay
unfolding cut_by
kept_rows contracts c entries u w linked within order range = kept-by contracts c entries u w (cut_of contracts c entries u w) linked within order range refl

-- ---- from the smaller to the greater of two versions

pub kept_between : (contracts : Contracts) (c : ℕ) (entries : List Obs) (u v : ℕ) → IsLinked contracts → IsWithinDepth deepest contracts c → ((day : ℤ) → cut_of contracts c entries (min u v) (max u v) ≡ Some day → day ≤ℤ last_day) →
    kept_of (run_of contracts (take u entries) c) (cut_of contracts c entries (min u v) (max u v)) ≡ kept_of (run_of contracts (take v entries) c) (cut_of contracts c entries (min u v) (max u v))
kept_between contracts c entries u v linked within range = elim (cases_lt u v) [
  | inl lt ↦
      let le : u ≤ v = omega (arith, lt) in
      let least_is : min u v ≡ u = min-eq_left le in
      let most_is : max u v ≡ v = max-eq_right le in
      rw (least_is, most_is) (kept_rows contracts c entries u v linked within le (rw (least_is, most_is) at range))
  | inr le ↦
      let least_is : min u v ≡ v = min-eq_right le in
      let most_is : max u v ≡ u = max-eq_left le in
      rw (least_is, most_is) (sym (kept_rows contracts c entries v u linked within le (rw (least_is, most_is) at range)))
]
