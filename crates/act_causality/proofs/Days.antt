-- The least of some days, cut at a day.
use Rattle.std.proofs.Common.{◌≡◌, ◌⊎◌, ℕ, Bool, true, false, ℤ, int_lt, int_le, List, [], ◌∷◌, ◌++◌, Option, Some, None, inl, inr, refl, sym, ◌∙◌, ap, arith}
use Rattle.std.specs.Int.{int_min}
use Rattle.std.specs.List.{AllByRecursion, cons_option, filter, filter_map, flat_map, fold, list_any}
use Rattle.std.specs.Option.{unwrap_or}
use Rattle.std.proofs.lemmas.Bool.{cases_Bool}
use Rattle.std.proofs.lemmas.Int.{ints}
use Rattle.std.proofs.lemmas.List.Elements.{filter-append}
use Rattle.act_model.specs.Observed.{observed_events}
use Rattle.act_model.specs.declared.observed.Obs.{Obs}
use Rattle.act_model.specs.declared.observed.Obs.TheVariants as obs
use Rattle.act_model.specs.declared.observed.ObsKind.{ObsKind}
use Rattle.act_model.specs.declared.observed.ObsKind.TheVariants as observed
use Rattle.act_model.specs.declared.terms.Common.{Common}
use Rattle.act_model.specs.declared.terms.Covered.{Covered}
use Rattle.act_model.specs.declared.terms.Optns.{Optns}
use Rattle.act_model.specs.Terms.{Guarantee}
use Rattle.act_profile.specs.Contract.{observed_as}
use Rattle.act_profile.specs.Credit.{credit_day, credit_event_day, credit_event_days, is_same_credit_event}
use Rattle.act_profile.specs.Dates.{is_within, least}
use Rattle.act_profile.specs.Exercise.{exercise_day, exercise_day_by, exercise_of, may_be_early}
use Rattle.act_profile.specs.Reads.{day_of_entry, is_in}
use Rattle.act_profile.specs.Stops.{comes_before}
use Rattle.act_causality.specs.Causality.{AgreeBefore, is_entry_before}
use Rattle.act_causality.proofs.Lists.{filter-swap}
use Rattle.act_causality.proofs.Observations.{same_observed}

-- a day is before a day
abbrev pub is_before_day : ℤ → ℤ → Bool
is_before_day day x = int_lt x day

early-least : (day a x : ℤ) → int_lt a day ≡ true → int_lt (int_min a x) day ≡ true
early-least day a x early = grind (arith, ints, int_min)

late-least : (day a x : ℤ) → int_lt a day ≡ false → int_lt x day ≡ false → int_lt (int_min a x) day ≡ false
late-least day a x late late2 = grind (arith, ints, int_min)

least-first : (day a x : ℤ) → int_lt a day ≡ true → int_lt x day ≡ false → int_min a x ≡ a
least-first day a x early late = grind (arith, ints, int_min)

least-second : (day a x : ℤ) → int_lt a day ≡ false → int_lt x day ≡ true → int_min a x ≡ x
least-second day a x late early = grind (arith, ints, int_min)

-- where the first day is early, the late ones don't matter
fold-early : (day a : ℤ) (xs : List ℤ) → int_lt a day ≡ true → fold int_min a xs ≡ fold int_min a (filter (is_before_day day) xs)
fold-early day a [] early = refl
fold-early day a (x ∷ xs) early =
    elim (cases_Bool (int_lt x day)) [
      | inl before ↦ rw before (fold-early day (int_min a x) xs (early-least day a x early))
      | inr late ↦ rw late (ap (λ b. fold int_min b xs) (least-first day a x early late) ∙ fold-early day a xs early)
    ]

fold-stays : (day a : ℤ) (xs : List ℤ) → int_lt a day ≡ true → int_lt (fold int_min a xs) day ≡ true
fold-stays day a [] early = early
fold-stays day a (x ∷ xs) early = fold-stays day (int_min a x) xs (early-least day a x early)

-- where it is late, an early day is the least of the early ones
fold-late : (day a : ℤ) (xs : List ℤ) → int_lt a day ≡ false → int_lt (fold int_min a xs) day ≡ true → Some (fold int_min a xs) ≡ least (filter (is_before_day day) xs)
fold-late day a [] late early = absurd (cc)
fold-late day a (x ∷ xs) late early =
    elim (cases_Bool (int_lt x day)) [
      | inl before ↦ rw before (ap (λ b. Some (fold int_min b xs)) (least-second day a x late before) ∙ ap (λ b. Some b) (fold-early day x xs before))
      | inr after ↦ rw after (fold-late day (int_min a x) xs (late-least day a x late after) early)
    ]

fold-none : (day a : ℤ) (xs : List ℤ) → int_lt (fold int_min a xs) day ≡ false → (int_lt a day ≡ false) × (filter (is_before_day day) xs ≡ [])
fold-none day a [] late = (late, refl)
fold-none day a (x ∷ xs) late =
    elim (cases_Bool (int_lt a day)) [
      | inl early ↦ absurd (let yes = fold-stays day (int_min a x) xs (early-least day a x early) in cc)
      | inr after ↦ elim (cases_Bool (int_lt x day)) [
        | inl before ↦ absurd (let yes = fold-stays day (int_min a x) xs (rw (least-second day a x after before) before) in cc)
        | inr behind ↦ (after, rw behind (fold-none day (int_min a x) xs late).1)
      ]
    ]

early-least_of : (day : ℤ) (xs : List ℤ) → comes_before (least xs) (Some day) ≡ true → least xs ≡ least (filter (is_before_day day) xs)
early-least_of day [] early = refl
early-least_of day (x ∷ xs) early =
    elim (cases_Bool (int_lt x day)) [
      | inl before ↦ rw before (ap (λ b. Some b) (fold-early day x xs before))
      | inr late ↦ rw late (fold-late day x xs late early)
    ]

pub late-least_of : (day : ℤ) (xs : List ℤ) → comes_before (least xs) (Some day) ≡ false → filter (is_before_day day) xs ≡ []
late-least_of day [] late = refl
late-least_of day (x ∷ xs) late = let both = fold-none day x xs late in rw (both.0) both.1

-- two days that may be missing agree before a day: they are the same, or neither is before it
abbrev pub MaybeAgree : ℤ → Option ℤ → Option ℤ → Type 0
MaybeAgree day a b = ((a ≡ b) × (comes_before a (Some day) ≡ true)) ⊎ ((comes_before a (Some day) ≡ false) × (comes_before b (Some day) ≡ false))

-- two days agree before a day
abbrev pub DaysAgree : ℤ → ℤ → ℤ → Type 0
DaysAgree day a b = ((a ≡ b) × (int_lt a day ≡ true)) ⊎ ((int_lt a day ≡ false) × (int_lt b day ≡ false))

none-early : (day : ℤ) (xs ys : List ℤ) → filter (is_before_day day) xs ≡ filter (is_before_day day) ys → comes_before (least xs) (Some day) ≡ true → comes_before (least ys) (Some day) ≡ true
none-early day xs ys same early =
    elim (cases_Bool (comes_before (least ys) (Some day))) [
      | inl is ↦ is
      | inr late ↦
          let is : least xs ≡ None = early-least_of day xs early ∙ ap least (same ∙ late-least_of day ys late) in
          let no : false ≡ true = rw is at early in
          absurd (cc)
    ]

-- the least of days that are the same before a day agree before it
pub least-agree : (day : ℤ) (xs ys : List ℤ) → filter (is_before_day day) xs ≡ filter (is_before_day day) ys → MaybeAgree day (least xs) (least ys)
least-agree day xs ys same =
    elim (cases_Bool (comes_before (least xs) (Some day))) [
      | inl early ↦ inl (early-least_of day xs early ∙ ap least same ∙ sym (early-least_of day ys (none-early day xs ys same early)), early)
      | inr late ↦ elim (cases_Bool (comes_before (least ys) (Some day))) [
        | inl early ↦ absurd (let yes = none-early day ys xs (sym same) early in cc)
        | inr late2 ↦ inr (late, late2)
      ]
    ]

-- ---- days of entries

-- what a function gives of an entry is the entry's day
abbrev IsItsDay : (Obs → Option ℤ) → Type 0
IsItsDay f = (entry : Obs) (x : ℤ) → f entry ≡ Some x → x ≡ day_of_entry entry

early-entry : (day : ℤ) (entry : Obs) (x : Option ℤ) (xs : List ℤ) → ((d : ℤ) → x ≡ Some d → d ≡ day_of_entry entry) → is_entry_before day entry ≡ true →
    filter (is_before_day day) (cons_option x xs) ≡ cons_option x (filter (is_before_day day) xs)
early-entry day entry None xs its early = refl
early-entry day entry (Some d) xs its early = let same = its d refl in rw same (rw early refl)

late-entry : (day : ℤ) (entry : Obs) (x : Option ℤ) (xs : List ℤ) → ((d : ℤ) → x ≡ Some d → d ≡ day_of_entry entry) → is_entry_before day entry ≡ false →
    filter (is_before_day day) (cons_option x xs) ≡ filter (is_before_day day) xs
late-entry day entry None xs its late = refl
late-entry day entry (Some d) xs its late = let same = its d refl in rw same (rw late refl)

days-before : (day : ℤ) (f : Obs → Option ℤ) → IsItsDay f → (entries : List Obs) → filter (is_before_day day) (filter_map f entries) ≡ filter_map f (filter (is_entry_before day) entries)
days-before day f its [] = refl
days-before day f its (entry ∷ entries) =
    elim (cases_Bool (is_entry_before day entry)) [
      | inl early ↦ rw early (early-entry day entry (f entry) (filter_map f entries) (its entry) early ∙ ap (cons_option (f entry)) (days-before day f its entries))
      | inr late ↦ rw late (late-entry day entry (f entry) (filter_map f entries) (its entry) late ∙ days-before day f its entries)
    ]

least-all : (P : ℤ → Type 0) (a : ℤ) (xs : List ℤ) → P a → AllByRecursion P xs → P (fold int_min a xs)
least-all P a [] here all = here
least-all P a (x ∷ xs) here all =
    elim (cases_Bool (int_lt x a)) [
      | inl less ↦ rw less (least-all P x xs all.0 all.1)
      | inr more ↦ rw more (least-all P a xs here all.1)
    ]

pub least_of-all : (P : ℤ → Type 0) (xs : List ℤ) (x : ℤ) → AllByRecursion P xs → least xs ≡ Some x → P x
least_of-all P [] x all is = absurd (cc)
least_of-all P (y ∷ ys) x all is = let same : fold int_min y ys ≡ x = cc in rw (← same) (least-all P y ys all.0 all.1)

until_within : (status last x : ℤ) → is_within status (Some last) x ≡ true → int_le x last ≡ true
until_within status last x is =
    elim (cases_Bool (int_lt status x)) [
      | inl later ↦ rw later at is
      | inr early ↦ let no_longer : false ≡ true = rw early at is in absurd (cc)
    ]

all-within : (status last : ℤ) (xs : List ℤ) → AllByRecursion (λ x. int_le x last ≡ true) (filter (is_within status (Some last)) xs)
all-within status last [] = tt
all-within status last (x ∷ xs) =
    elim (cases_Bool (is_within status (Some last) x)) [
      | inl is ↦ rw is (until_within status last x is, all-within status last xs)
      | inr fails ↦ rw fails (all-within status last xs)
    ]

least-within : (status last : ℤ) (xs : List ℤ) (x : ℤ) → least (filter (is_within status (Some last)) xs) ≡ Some x → int_le x last ≡ true
least-within status last xs x is = least_of-all (λ d. int_le d last ≡ true) (filter (is_within status (Some last)) xs) x (all-within status last xs) is

past_maturity : (day maturity x : ℤ) → int_le x maturity ≡ true → int_lt x day ≡ false → int_lt maturity day ≡ false
past_maturity day maturity x until late = grind (arith, ints)

module _ (day : ℤ) (codes contracts : List ℕ) (one other : List Obs) (agree : AgreeBefore day codes contracts one other) where
  same_days : (f : Obs → Option ℤ) → IsItsDay f → (contract : ℕ) → is_in contracts contract ≡ true →
      filter (is_before_day day) (filter_map f (observed_events one contract)) ≡ filter (is_before_day day) (filter_map f (observed_events other contract))
  same_days f its contract within =
      days-before day f its (observed_events one contract) ∙ ap (filter_map f) (same_observed day codes contracts contract within one other agree)
      ∙ sym (days-before day f its (observed_events other contract))

  -- ---- exercise

  exercise-its : IsItsDay exercise_of
  exercise-its (obs.Rate code d value) x is = absurd (cc)
  exercise-its (obs.Event contract observed.XD d value) x is = let same : d ≡ x = cc in sym same
  exercise-its (obs.Event contract other d value) x is = absurd (cc)

  or_maturity : (maturity : ℤ) (a b : Option ℤ) → ((x : ℤ) → a ≡ Some x → int_le x maturity ≡ true) → ((x : ℤ) → b ≡ Some x → int_le x maturity ≡ true) → MaybeAgree day a b →
      DaysAgree day (unwrap_or a maturity) (unwrap_or b maturity)
  or_maturity maturity None None within within2 agree =
      elim (cases_Bool (int_lt maturity day)) [ inl early ↦ inl (refl, early) | inr late ↦ inr (late, late) ]
  or_maturity maturity None (Some b) within within2 (inl is) = absurd (let no = is.1 in cc)
  or_maturity maturity None (Some b) within within2 (inr late) = let until = within2 b refl in let behind = late.1 in inr (past_maturity day maturity b until behind, behind)
  or_maturity maturity (Some a) None within within2 (inl is) = absurd (let no = is.0 in cc)
  or_maturity maturity (Some a) None within within2 (inr late) = let until = within a refl in let behind = late.0 in inr (behind, past_maturity day maturity a until behind)
  or_maturity maturity (Some a) (Some b) within within2 (inl is) = let same : a ≡ b = let all = is.0 in cc in inl (same, is.1)
  or_maturity maturity (Some a) (Some b) within within2 (inr late) = inr late

  same_within : (status : ℤ) (last : Option ℤ) (xs ys : List ℤ) → filter (is_before_day day) xs ≡ filter (is_before_day day) ys →
      MaybeAgree day (least (filter (is_within status last) xs)) (least (filter (is_within status last) ys))
  same_within status last xs ys same =
      least-agree day (filter (is_within status last) xs) (filter (is_within status last) ys)
      (filter-swap (is_before_day day) (is_within status last) xs ∙ ap (filter (is_within status last)) same ∙ sym (filter-swap (is_before_day day) (is_within status last) ys))

  exercise_day-by : (early : Bool) (common : Common) (maturity : ℤ) → is_in contracts (observed_as common) ≡ true →
      DaysAgree day (exercise_day_by early one common maturity) (exercise_day_by early other common maturity)
  exercise_day-by false common maturity within = elim (cases_Bool (int_lt maturity day)) [ inl early ↦ inl (refl, early) | inr late ↦ inr (late, late) ]
  exercise_day-by true common maturity within =
      let xs = filter_map exercise_of (observed_events one (observed_as common)) in
      let ys = filter_map exercise_of (observed_events other (observed_as common)) in
      or_maturity maturity (least (filter (is_within common.status_date (Some maturity)) xs)) (least (filter (is_within common.status_date (Some maturity)) ys))
      (least-within common.status_date maturity xs) (least-within common.status_date maturity ys)
      (same_within common.status_date (Some maturity) xs ys (same_days exercise_of exercise-its (observed_as common) within))

  -- the days of exercise of an option agree
  pub exercise_day-agree : (common : Common) (optns : Optns) → is_in contracts (observed_as common) ≡ true → DaysAgree day (exercise_day one common optns) (exercise_day other common optns)
  exercise_day-agree common optns within = exercise_day-by (may_be_early optns.option_exercise_type) common optns.maturity_date within

  -- ---- credit events

  credit-its : (types : List ObsKind) → IsItsDay (credit_event_day types)
  credit-its types (obs.Rate code d value) x is = absurd (cc)
  credit-its types (obs.Event contract what d value) x is =
      elim (cases_Bool (list_any (is_same_credit_event what) types)) [
        | inl covered ↦ let same : Some d ≡ Some x = rw covered at is in let now : d ≡ x = cc in sym now
        | inr another ↦ let same : None ≡ Some x = rw another at is in absurd (cc)
      ]

  covered_days : (types : List ObsKind) (covered : List Covered) → AllByRecursion (λ (c : Covered). is_in contracts c.contract ≡ true) covered →
      filter (is_before_day day) (flat_map (λ c. filter_map (credit_event_day types) (observed_events one c.contract)) covered)
      ≡ filter (is_before_day day) (flat_map (λ c. filter_map (credit_event_day types) (observed_events other c.contract)) covered)
  covered_days types [] within = refl
  covered_days types (c ∷ covered) within =
      filter-append (is_before_day day) (filter_map (credit_event_day types) (observed_events one c.contract)) (flat_map (λ (d : Covered). filter_map (credit_event_day types) (observed_events one d.contract)) covered)
      ∙ ap (λ xs. xs ++ filter (is_before_day day) (flat_map (λ (d : Covered). filter_map (credit_event_day types) (observed_events one d.contract)) covered)) (same_days (credit_event_day types) (credit-its types) c.contract within.0)
      ∙ ap (λ xs. filter (is_before_day day) (filter_map (credit_event_day types) (observed_events other c.contract)) ++ xs) (covered_days types covered within.1)
      ∙ sym (filter-append (is_before_day day) (filter_map (credit_event_day types) (observed_events other c.contract)) (flat_map (λ (d : Covered). filter_map (credit_event_day types) (observed_events other d.contract)) covered))

  -- the days of the credit event of a guarantee agree
  pub credit_day-agree : (common : Common) (guarantee : Guarantee) → AllByRecursion (λ (c : Covered). is_in contracts c.contract ≡ true) guarantee.covered →
      MaybeAgree day (credit_day one common guarantee) (credit_day other common guarantee)
  unfolding credit_day
  credit_day-agree common guarantee within =
      same_within common.status_date guarantee.maturity_date (credit_event_days one guarantee) (credit_event_days other guarantee) (covered_days guarantee.credit_event_type_covered guarantee.covered within)

-- a credit event isn't after the guarantee's maturity
pub credit_day-until : (entries : List Obs) (common : Common) (guarantee : Guarantee) (maturity x : ℤ) → guarantee.maturity_date ≡ Some maturity → credit_day entries common guarantee ≡ Some x → int_le x maturity ≡ true
unfolding credit_day
credit_day-until entries common guarantee maturity x given is =
    least-within common.status_date maturity (credit_event_days entries guarantee) x (rw given at is)
