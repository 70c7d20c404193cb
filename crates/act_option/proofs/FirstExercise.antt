-- The first day that some entries have, as that of an exercise, once there is one more.
use Rattle.std.proofs.Common.{◌≡◌, ℕ, ◌+◌, ◌<◌, Bool, true, false, ℤ, List, [], ◌∷◌, ◌++◌, length, get_or, take, Option, Some, None, refl, ap, ◌∙◌}
use Rattle.std.proofs.lemmas.List.{append-nil, take_more}
use Rattle.std.proofs.lemmas.List.Elements.{filter-append, filter_map-append}
use Rattle.std.proofs.lemmas.List.Sums.{fold-append}
use Rattle.std.specs.Int.{int_min}
use Rattle.std.specs.List.{cons_option, filter, filter_map}
use Rattle.act_model.specs.declared.observed.Obs.{Obs}
use Rattle.act_option.specs.Earliest.{earlier, where_kept}
use Rattle.act_profile.specs.Dates.{least}

-- the days of entries that pass a test, of those that have one
abbrev pub days_of : (Obs → Option ℤ) → (ℤ → Bool) → List Obs → List ℤ
days_of day_of test entries = filter test (filter_map day_of entries)

least_more : (days : List ℤ) (next : Option ℤ) → least (days ++ cons_option next []) ≡ earlier (least days) next
least_more days None = ap least (append-nil days)
least_more [] (Some next) = refl
least_more (day ∷ days) (Some next) = ap Some (fold-append int_min day days (next ∷ []))

kept_by : (test : ℤ → Bool) (day : ℤ) (b : Bool) → test day ≡ b → filter test (day ∷ []) ≡ cons_option (where_kept test (Some day)) []
kept_by test day true is = rw is refl
kept_by test day false is = rw is refl

kept_one : (test : ℤ → Bool) (next : Option ℤ) → filter test (cons_option next []) ≡ cons_option (where_kept test next) []
kept_one test None = refl
kept_one test (Some day) = kept_by test day (test day) refl

days_more : (day_of : Obs → Option ℤ) (test : ℤ → Bool) (entries : List Obs) (entry : Obs) →
    days_of day_of test (entries ++ entry ∷ []) ≡ days_of day_of test entries ++ cons_option (where_kept test (day_of entry)) []
days_more day_of test entries entry =
    ap (filter test) (filter_map-append day_of entries (entry ∷ [])) ∙ filter-append test (filter_map day_of entries) (filter_map day_of (entry ∷ []))
    ∙ ap (λ days. days_of day_of test entries ++ days) (kept_one test (day_of entry))

-- a turn of a loop over the entries
pub earliest_turn : (day_of : Obs → Option ℤ) (test : ℤ → Bool) (entries : List Obs) (i : ℕ) (entry : Obs) (first : Option ℤ) → i < length entries → entry ≡ get_or entries i entry →
    first ≡ least (days_of day_of test (take i entries)) → earlier first (where_kept test (day_of entry)) ≡ least (days_of day_of test (take (i + 1) entries))
earliest_turn day_of test entries i entry first lt here is =
    rw (take_more entries i entry lt, ← here, days_more day_of test (take i entries) entry, least_more (days_of day_of test (take i entries)) (where_kept test (day_of entry)), is) refl
