-- What is true of each event of a contract, from what is true of those that are planned, observed, or rows of children.
use Rattle.std.proofs.Common.{◌≡◌, ◌+◌, ℕ, length, nat_lt, Bool, true, false, List, [], ◌∷◌, ◌++◌, map, Option, Some, None, Result, Ok, Err, inl, inr, refl, ap}
use Rattle.std.specs.List.{AllByRecursion, enumerate_from, filter, list_any}
use Rattle.std.specs.Option.{ok_or}
use Rattle.std.specs.Prelude.{option_and_then, option_map}
use Rattle.std.proofs.lemmas.Bool.{cases_Bool}
use Rattle.act_calendar.specs.declared.shifting.Shifted.{Shifted}
use Rattle.act_model.specs.Run.{EventPlan, Stream}
use Rattle.act_model.specs.Limits.{most_dates}
use Rattle.act_model.specs.declared.event.Event.{Event}
use Rattle.act_model.specs.declared.event.EventType.{EventType}
use Rattle.act_model.specs.declared.event.EventType.TheVariants.{XD}
use Rattle.act_model.specs.declared.observed.Obs.{Obs}
use Rattle.act_model.specs.declared.run.PlanFault.{PlanFault}
use Rattle.act_model.specs.declared.run.PlanFault.TheVariants.{TooManyDates, DateRange}
use Rattle.act_model.specs.declared.terms.Common.{Common}
use Rattle.act_model.specs.declared.terms.Kind.{Kind}
use Rattle.act_model.specs.declared.terms.Kind.TheVariants as kind
use Rattle.act_model.specs.declared.terms.Terms.{Terms}
use Rattle.act_profile.specs.Events.{events_of, events_of_children, events_observed, events_scheduled, with_exercise}
use Rattle.act_profile.specs.Exercise.{with_settlement}
use Rattle.act_profile.specs.Lists.{all_of, insert_by}
use Rattle.act_profile.specs.Order.{counts, ends, in_order, is_type, precedes, up_to_end}
use Rattle.act_profile.specs.Outcomes.{map_ok, then_ok}
use Rattle.act_profile.specs.Planning.{Planned, event_on, events_by_type, planned_event, planned_events, shifted_by, type_events}

module _ {A : Type 0} (P : A → Type 0) where
  pub all-append : (xs ys : List A) → AllByRecursion P xs → AllByRecursion P ys → AllByRecursion P (xs ++ ys)
  all-append [] ys all all2 = all2
  all-append (x ∷ xs) ys all all2 = (all.0, all-append xs ys all.1 all2)

  pub all-filter : (test : A → Bool) (xs : List A) → AllByRecursion P xs → AllByRecursion P (filter test xs)
  all-filter test [] all = tt
  all-filter test (x ∷ xs) all =
      elim (cases_Bool (test x)) [
        | inl is ↦ rw is (all.0, all-filter test xs all.1)
        | inr fails ↦ rw fails (all-filter test xs all.1)
      ]

  pub all-insert : (before : A → A → Bool) (x : A) (ys : List A) → P x → AllByRecursion P ys → AllByRecursion P (insert_by before x ys)
  unfolding insert_by
  all-insert before x [] here all = (here, tt)
  all-insert before x (y ∷ ys) here all =
      elim (cases_Bool (before y x)) [
        | inl is ↦ rw is (all.0, all-insert before x ys here all.1)
        | inr fails ↦ rw fails (here, all)
      ]

  pub all-true : ((x : A) → P x) → (xs : List A) → AllByRecursion P xs
  all-true is [] = tt
  all-true is (x ∷ xs) = (is x, all-true is xs)

module _ (P : Event → Type 0) where
  pub all-in_order : (events : List Event) → AllByRecursion P events → AllByRecursion P (in_order events)
  unfolding in_order
  all-in_order [] all = tt
  all-in_order (event ∷ events) all = all-insert P precedes event (in_order events) all.0 (all-in_order events all.1)

  pub all-up_to_end : (contract : Kind) (events : List Event) → AllByRecursion P events → AllByRecursion P (up_to_end contract events)
  unfolding up_to_end
  all-up_to_end contract [] all = tt
  all-up_to_end contract (event ∷ events) all =
      elim (cases_Bool (ends contract event)) [
        | inl is ↦ rw is (all.0, tt)
        | inr fails ↦ rw fails (all.0, all-up_to_end contract events all.1)
      ]

  all-settlement : (exercised : Bool) (events : List Event) → AllByRecursion P events → AllByRecursion P (with_settlement exercised events)
  all-settlement true events all = all
  all-settlement false events all = all-filter P _ events all

  all-exercise : (contract : Kind) (events : List Event) → AllByRecursion P events → AllByRecursion P (with_exercise contract events)
  all-exercise (kind.OPTNS optns) events all = all-settlement (list_any (λ e. is_type e.kind XD) events) events all
  all-exercise (kind.FUTUR futur) events all = all-settlement (list_any (λ e. is_type e.kind XD) events) events all
  all-exercise other events all = all

  -- what is true of all that a contract's events are taken from is true of each of them
  pub all-events : (terms : Terms) (plan : EventPlan) (entries : List Obs) (children : List Stream) → AllByRecursion P (events_scheduled terms.common terms.kind plan entries) →
      AllByRecursion P (events_observed terms entries) → AllByRecursion P (events_of_children terms.common terms.kind children) → AllByRecursion P (events_of terms plan entries children)
  unfolding events_of
  all-events terms plan entries children scheduled observed rows =
      all-exercise terms.kind _ (all-filter P (λ e. counts terms.common.status_date terms.kind e.day) _ (all-up_to_end terms.kind _ (all-in_order _
      (all-append P (events_scheduled terms.common terms.kind plan entries ++ events_observed terms entries) (events_of_children terms.common terms.kind children)
      (all-append P (events_scheduled terms.common terms.kind plan entries) (events_observed terms entries) scheduled observed) rows))))

-- ---- events of planned dates

given : {A E : Type 0} (fault : E) (value : Option A) (x : A) → ok_or value fault ≡ Ok x → value ≡ Some x
given fault None x is = absurd (cc)
given fault (Some y) x is = let same : y ≡ x = cc in ap (λ z. Some z) same

module _ (Q : EventType → Type 0) (common : Common) where
  -- what is true of the type of each date of each type
  abbrev pub TypesAre : List (Option (List Planned)) → Type 0
  TypesAre [] = Unit {0}
  TypesAre (None ∷ types) = TypesAre types
  TypesAre (Some dates ∷ types) = AllByRecursion (λ (p : Planned). Q p.kind) dates × TypesAre types

  one-planned : (what : EventType) (place : ℕ) (shifted : Option Shifted) (rest : Option (List Event)) (events : List Event) →
      option_and_then (λ v. option_map (λ vs. v ∷ vs) rest) (option_map (event_on place what) shifted) ≡ Some events → Q what →
      ((more : List Event) → rest ≡ Some more → AllByRecursion (λ (e : Event). Q e.kind) more) → AllByRecursion (λ (e : Event). Q e.kind) events
  one-planned what place None rest events is here later = absurd (cc)
  one-planned what place (Some shifted) None events is here later = absurd (cc)
  one-planned what place (Some shifted) (Some more) events is here later =
      let same : event_on place what shifted ∷ more ≡ events = cc in
      rw (← same) (here, later more refl)

  all-planned : (place : ℕ) (dates : List Planned) (events : List Event) → all_of (map (planned_event common) (enumerate_from place dates)) ≡ Some events →
      AllByRecursion (λ (p : Planned). Q p.kind) dates → AllByRecursion (λ (e : Event). Q e.kind) events
  unfolding all_of
  all-planned place [] events is all = let same : [] ≡ events = cc in rw (← same) tt
  all-planned place (p ∷ dates) events is all =
      one-planned p.kind place (shifted_by common p.shifts p.date) (all_of (map (planned_event common) (enumerate_from (place + 1) dates))) events is all.0
      (λ more now. all-planned (place + 1) dates more now all.1)

  all-type : (n : ℕ) (dates : List Planned) (events : List Event) → type_events common n dates ≡ Ok events → AllByRecursion (λ (p : Planned). Q p.kind) dates → AllByRecursion (λ (e : Event). Q e.kind) events
  all-type n dates events is all =
      elim (cases_Bool (nat_lt most_dates (n + length dates))) [
        | inl many ↦ let no : Err TooManyDates ≡ Ok events = rw many at is in absurd (cc)
        | inr few ↦ all-planned 0 dates events (given DateRange (planned_events common dates) events (rw few at is)) all
      ]

  all-two : (first later : Result (List Event) PlanFault) (events : List Event) → then_ok (λ some. map_ok (λ more. some ++ more) later) first ≡ Ok events →
      ((some : List Event) → first ≡ Ok some → AllByRecursion (λ (e : Event). Q e.kind) some) → ((more : List Event) → later ≡ Ok more → AllByRecursion (λ (e : Event). Q e.kind) more) →
      AllByRecursion (λ (e : Event). Q e.kind) events
  all-two (Err fault) later events is one two = absurd (cc)
  all-two (Ok some) (Err fault) events is one two = absurd (cc)
  all-two (Ok some) (Ok more) events is one two =
      let same : some ++ more ≡ events = cc in
      rw (← same) (all-append (λ (e : Event). Q e.kind) some more (one some refl) (two more refl))

  -- what is true of the type of each date is true of the type of each event
  pub all-by_type : (n : ℕ) (types : List (Option (List Planned))) (events : List Event) → events_by_type common n types ≡ Ok events → TypesAre types → AllByRecursion (λ (e : Event). Q e.kind) events
  unfolding events_by_type
  all-by_type n [] events is all = let same : [] ≡ events = cc in rw (← same) tt
  all-by_type n (None ∷ types) events is all = absurd (cc)
  all-by_type n (Some dates ∷ types) events is all =
      all-two (type_events common n dates) (events_by_type common (n + length dates) types) events is
      (λ some now. all-type n dates some now all.0) (λ more now. all-by_type (n + length dates) types more now all.1)
