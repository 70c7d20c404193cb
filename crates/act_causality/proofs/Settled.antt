-- Exercise and its settlement, cut at a day.
use Rattle.std.proofs.Common.{◌≡◌, ◌+◌, ◌⊎◌, ◌||◌, ℕ, Bool, true, false, ℤ, int_lt, List, [], ◌∷◌, map, Option, Some, None, inl, inr, refl, sym, ◌∙◌, ap}
use Rattle.std.specs.List.{AllByRecursion, enumerate_from, filter, flat_map, list_any}
use Rattle.std.specs.Prelude.{not}
use Rattle.std.proofs.lemmas.Bool.{cases_Bool}
use Rattle.act_date.specs.Civil.{last_day}
use Rattle.act_date.specs.declared.cycle.Cycle.{Cycle}
use Rattle.act_model.specs.Kind.{loan_of}
use Rattle.act_model.specs.Observed.{observed_events}
use Rattle.act_model.specs.declared.choice.PenaltyType.{PenaltyType}
use Rattle.act_model.specs.declared.choice.PenaltyType.TheVariants as penalty
use Rattle.act_model.specs.declared.event.Event.{Event}
use Rattle.act_model.specs.declared.event.EventType.{EventType}
use Rattle.act_model.specs.declared.event.EventType.TheVariants as type
use Rattle.act_model.specs.declared.observed.Obs.{Obs}
use Rattle.act_model.specs.declared.observed.Obs.TheVariants as obs
use Rattle.act_model.specs.declared.observed.ObsKind.{ObsKind}
use Rattle.act_model.specs.declared.observed.ObsKind.TheVariants as observed
use Rattle.act_model.specs.declared.terms.Common.{Common}
use Rattle.act_model.specs.declared.terms.Kind.{Kind}
use Rattle.act_model.specs.declared.terms.Kind.TheVariants as kind
use Rattle.act_model.specs.declared.terms.Loan.{Loan}
use Rattle.act_model.specs.declared.terms.Terms.{Terms}
use Rattle.act_profile.specs.Contract.{observed_as}
use Rattle.act_profile.specs.Events.{events_by, events_observed, events_of_entry, loan_prepayment, prepayment_events, stock_dividend}
use Rattle.act_profile.specs.Exercise.{events_exercised_on, exercise_events, settled_events, with_settlement}
use Rattle.act_profile.specs.Order.{is_own, is_type}
use Rattle.act_profile.specs.Trade.{event_where_given, trade_events}
use Rattle.act_causality.specs.Causality.{events_before, is_event_before, unplaced}
use Rattle.act_causality.proofs.EventFacts.{all-append}
use Rattle.act_causality.proofs.Lists.{filter-map, filter-swap}
use Rattle.act_causality.proofs.Scheduled.{settlement_day-late}

-- ---- lists

pub filter-within_all : {A : Type 0} (p q : A → Bool) (xs : List A) → AllByRecursion (λ x. p x ≡ true → q x ≡ true) xs → filter p (filter q xs) ≡ filter p xs
filter-within_all p q [] all = refl
filter-within_all p q (x ∷ xs) all =
    elim (cases_Bool (p x)) [
      | inl isp ↦ rw (all.0 isp) (rw isp (ap (λ ys. x ∷ ys) (filter-within_all p q xs all.1)))
      | inr notp ↦ elim (cases_Bool (q x)) [
        | inl isq ↦ rw notp (rw isq (rw notp (filter-within_all p q xs all.1)))
        | inr notq ↦ rw notp (rw notq (filter-within_all p q xs all.1))
      ]
    ]

pub all-weaker : {A : Type 0} (P Q : A → Type 0) → ((x : A) → P x → Q x) → (xs : List A) → AllByRecursion P xs → AllByRecursion Q xs
all-weaker P Q weaker [] all = tt
all-weaker P Q weaker (x ∷ xs) all = (weaker x all.0, all-weaker P Q weaker xs all.1)

-- ---- settlement

-- an exercise is before the day
abbrev pub EarlyExercise : ℤ → Event → Type 0
EarlyExercise day e = is_type e.kind type.XD ≡ true → is_event_before day e ≡ true

-- a settlement isn't
abbrev pub LateSettlement : ℤ → Event → Type 0
LateSettlement day e = is_type e.kind type.STD ≡ true → is_event_before day e ≡ false

abbrev is_exercise : Event → Bool
is_exercise e = is_type e.kind type.XD

abbrev is_no_settlement : Event → Bool
is_no_settlement e = not (is_type e.kind type.STD)

any-before : (day : ℤ) (events : List Event) → AllByRecursion (EarlyExercise day) events → list_any is_exercise events ≡ list_any is_exercise (events_before day events)
any-before day [] all = refl
any-before day (e ∷ events) all =
    elim (cases_Bool (is_event_before day e)) [
      | inl early ↦ rw early (ap (λ rest. is_exercise e || rest) (any-before day events all.1))
      | inr late ↦ elim (cases_Bool (is_exercise e)) [
        | inl is ↦ absurd (let early = all.0 is in cc)
        | inr other ↦ rw late (rw other (any-before day events all.1))
      ]
    ]

settlement-before : (day : ℤ) (exercised : Bool) (events : List Event) → events_before day (with_settlement exercised events) ≡ with_settlement exercised (events_before day events)
settlement-before day true events = refl
settlement-before day false events =
    ap (map unplaced) (filter-swap (is_event_before day) is_no_settlement events)
    ∙ sym (filter-map is_no_settlement is_no_settlement unplaced (λ e. refl) (filter (is_event_before day) events))

early-settled : (day : ℤ) (events : List Event) → AllByRecursion (EarlyExercise day) events → events_before day (settled_events events) ≡ settled_events (events_before day events)
early-settled day events all =
    settlement-before day (list_any is_exercise events) events ∙ ap (λ (b : Bool). with_settlement b (events_before day events)) (any-before day events all)

no_settlement_before : (day : ℤ) (e : Event) → LateSettlement day e → is_event_before day e ≡ true → is_no_settlement e ≡ true
no_settlement_before day e late early =
    elim (cases_Bool (is_type e.kind type.STD)) [
      | inl is ↦ absurd (let behind = late is in cc)
      | inr other ↦ rw other refl
    ]

late-with : (day : ℤ) (exercised : Bool) (events : List Event) → AllByRecursion (LateSettlement day) events → events_before day (with_settlement exercised events) ≡ events_before day events
late-with day true events all = refl
late-with day false events all =
    ap (map unplaced) (filter-within_all (is_event_before day) is_no_settlement events (all-weaker (LateSettlement day) (λ e. is_event_before day e ≡ true → is_no_settlement e ≡ true) (no_settlement_before day) events all))

-- before the day the settled events agree where all exercises are before it, or no settlement is
pub settled-agree : (day : ℤ) (events others : List Event) → events_before day events ≡ events_before day others →
    (AllByRecursion (EarlyExercise day) events × AllByRecursion (EarlyExercise day) others) ⊎ (AllByRecursion (LateSettlement day) events × AllByRecursion (LateSettlement day) others) →
    events_before day (settled_events events) ≡ events_before day (settled_events others)
settled-agree day events others agree (inl early) = early-settled day events early.0 ∙ ap settled_events agree ∙ sym (early-settled day others early.1)
settled-agree day events others agree (inr late) = late-with day (list_any is_exercise events) events late.0 ∙ agree ∙ sym (late-with day (list_any is_exercise others) others late.1)

-- ---- of which events it is so

-- it is neither an exercise nor a settlement
abbrev pub IsPlain : EventType → Type 0
IsPlain what = (is_type what type.XD ≡ false) × (is_type what type.STD ≡ false) × (is_type what type.SC ≡ false)

-- it is such an event, and no row of a child
pub record IsPlainEvent (e : Event) : Type 0 where
  pub types : IsPlain e.kind
  pub own : is_own e.source ≡ true

plain-early : (day : ℤ) (e : Event) → IsPlainEvent e → EarlyExercise day e
plain-early day e plain is = absurd (let other = plain.types.0 in cc)

plain-late : (day : ℤ) (e : Event) → IsPlainEvent e → LateSettlement day e
plain-late day e plain is = absurd (let other = plain.types.1 in cc)

plain-prepayment : (place : ℕ) (d value : ℤ) (what : PenaltyType) → AllByRecursion IsPlainEvent (prepayment_events place d value what)
plain-prepayment place d value penalty.O = (record { types = (refl, refl, refl); own = refl }, tt)
plain-prepayment place d value other = (record { types = (refl, refl, refl); own = refl }, (record { types = (refl, refl, refl); own = refl }, tt))

plain-loan : (place : ℕ) (d value : ℤ) (loan : Option Loan) → AllByRecursion IsPlainEvent (loan_prepayment place d value loan)
plain-loan place d value None = tt
plain-loan place d value (Some loan) = plain-prepayment place d value loan.penalty_type

plain-dividend : (place : ℕ) (d value : ℤ) (terms : Kind) → AllByRecursion IsPlainEvent (stock_dividend place d value terms)
plain-dividend place d value (kind.STK stk) = (record { types = (refl, refl, refl); own = refl }, tt)
plain-dividend place d value other = tt

plain-by : (terms : Kind) (place : ℕ) (what : ObsKind) (d value : ℤ) → AllByRecursion IsPlainEvent (events_by terms place what d value)
plain-by terms place observed.PP d value = plain-loan place d value (loan_of terms)
plain-by terms place observed.DV d value = plain-dividend place d value terms
plain-by terms place observed.XD d value = tt
plain-by terms place credit d value = (record { types = (refl, refl, refl); own = refl }, tt)

plain-entry : (terms : Kind) (place : ℕ) (entry : Obs) → AllByRecursion IsPlainEvent (events_of_entry terms (place, entry))
plain-entry terms place (obs.Rate code d value) = tt
plain-entry terms place (obs.Event contract what d value) = plain-by terms place what d value

plain-entries : (terms : Kind) (place : ℕ) (entries : List Obs) → AllByRecursion IsPlainEvent (flat_map (events_of_entry terms) (enumerate_from place entries))
plain-entries terms place [] = tt
plain-entries terms place (entry ∷ entries) =
    all-append IsPlainEvent (events_of_entry terms (place, entry)) (flat_map (events_of_entry terms) (enumerate_from (place + 1) entries)) (plain-entry terms place entry) (plain-entries terms (place + 1) entries)

-- observed events are neither exercises, nor settlements, nor scalings
pub plain-observed : (terms : Terms) (entries : List Obs) → AllByRecursion IsPlainEvent (events_observed terms entries)
unfolding events_observed
plain-observed terms entries = plain-entries terms.kind 0 (observed_events entries (observed_as terms.common))

plain-given : (what : EventType) (date : Option ℤ) → IsPlain what → AllByRecursion IsPlainEvent (event_where_given what date)
plain-given what None plain = tt
plain-given what (Some date) plain = (record { types = plain; own = refl }, tt)

pub plain-trade : (common : Common) → AllByRecursion IsPlainEvent (trade_events common)
plain-trade common =
    all-append IsPlainEvent (event_where_given type.PRD common.purchase_date) (event_where_given type.TD common.termination_date)
    (plain-given type.PRD common.purchase_date (refl, refl, refl)) (plain-given type.TD common.termination_date (refl, refl, refl))

pub early-observed : (day : ℤ) (terms : Terms) (entries : List Obs) → AllByRecursion (EarlyExercise day) (events_observed terms entries)
early-observed day terms entries = all-weaker IsPlainEvent (EarlyExercise day) (plain-early day) _ (plain-observed terms entries)

pub late-observed : (day : ℤ) (terms : Terms) (entries : List Obs) → AllByRecursion (LateSettlement day) (events_observed terms entries)
late-observed day terms entries = all-weaker IsPlainEvent (LateSettlement day) (plain-late day) _ (plain-observed terms entries)

pub early-exercised_on : (day : ℤ) (common : Common) (period : Cycle) (d : ℤ) → int_lt d day ≡ true → AllByRecursion (EarlyExercise day) (events_exercised_on common period d)
early-exercised_on day common period d early =
    all-append (EarlyExercise day) (trade_events common) (exercise_events common period d)
    (all-weaker IsPlainEvent (EarlyExercise day) (plain-early day) _ (plain-trade common)) ((λ is. early), ((λ is. absurd (cc)), tt))

pub late-exercised_on : (day : ℤ) (common : Common) (period : Cycle) (d : ℤ) → int_lt last_day day ≡ false → int_lt d day ≡ false → AllByRecursion (LateSettlement day) (events_exercised_on common period d)
late-exercised_on day common period d last late =
    all-append (LateSettlement day) (trade_events common) (exercise_events common period d)
    (all-weaker IsPlainEvent (LateSettlement day) (plain-late day) _ (plain-trade common)) ((λ is. absurd (cc)), ((λ is. settlement_day-late day common period d last late), tt))
