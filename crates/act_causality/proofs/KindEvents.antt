-- The events of any contract over books and children's runs that agree before a day.
use Rattle.std.proofs.Common.{◌≡◌, ◌⊎◌, ℕ, Bool, true, false, ℤ, int_lt, List, [], ◌++◌, Ok, inl, inr, sym, ◌∙◌, ap}
use Rattle.std.specs.List.{AllByRecursion, list_any}
use Rattle.std.specs.Prelude.{not}
use Rattle.std.proofs.lemmas.Bool.{cases_Bool}
use Rattle.act_date.specs.Civil.{last_day}
use Rattle.act_model.specs.Run.{EventPlan, Stream}
use Rattle.act_model.specs.declared.event.Event.{Event}
use Rattle.act_model.specs.declared.event.EventType.TheVariants as type
use Rattle.act_model.specs.declared.observed.Obs.{Obs}
use Rattle.act_model.specs.declared.terms.Common.{Common}
use Rattle.act_model.specs.declared.terms.Futur.{Futur}
use Rattle.act_model.specs.declared.terms.Optns.{Optns}
use Rattle.act_model.specs.declared.terms.Kind.{Kind}
use Rattle.act_model.specs.declared.terms.Kind.TheVariants as kind
use Rattle.act_model.specs.declared.terms.Terms.{Terms}
use Rattle.act_profile.specs.Contract.{observed_as}
use Rattle.act_profile.specs.Events.{events_of, events_of_children, events_observed, events_scheduled, with_exercise}
use Rattle.act_profile.specs.Exercise.{events_exercised_on, exercise_day, exercise_plan, with_settlement}
use Rattle.act_profile.specs.Order.{counting, counts, in_order, is_type, up_to_end}
use Rattle.act_profile.specs.Plan.{plan_by}
use Rattle.act_profile.specs.Reads.{is_in}
use Rattle.act_causality.specs.Causality.{AgreeBefore, events_before, is_event_before}
use Rattle.act_causality.proofs.Children.{ChildrenAgree}
use Rattle.act_causality.proofs.Days.{DaysAgree, exercise_day-agree}
use Rattle.act_causality.proofs.EventFacts.{all-append, all-filter, all-in_order, all-up_to_end}
use Rattle.act_causality.proofs.LegRows.{ArePaired, row_events-agree}
use Rattle.act_causality.proofs.Lists.{IsCut, cut-filter}
use Rattle.act_causality.proofs.Observations.{events_before-append, same_events_observed}
use Rattle.act_causality.proofs.Order.{counting-before, cut-counting}
use Rattle.act_causality.proofs.Scheduled.{CoveredIn, scheduled-agree}
use Rattle.act_causality.proofs.Settled.{EarlyExercise, LateSettlement, early-exercised_on, early-observed, late-exercised_on, late-observed, settled-agree}

-- all that the events of a contract are taken from
abbrev pub all_events : Terms → EventPlan → List Obs → List Stream → List Event
all_events terms plan entries children =
    events_scheduled terms.common terms.kind plan entries ++ events_observed terms entries ++ events_of_children terms.common terms.kind children

-- those that count, in order
abbrev pub counted : Terms → EventPlan → List Obs → List Stream → List Event
counted terms plan entries children = counting terms.common.status_date terms.kind (in_order (all_events terms plan entries children))

all-counted : (P : Event → Type 0) (terms : Terms) (plan : EventPlan) (entries : List Obs) (children : List Stream) → AllByRecursion P (all_events terms plan entries children) → AllByRecursion P (counted terms plan entries children)
all-counted P terms plan entries children all =
    all-filter P (λ e. counts terms.common.status_date terms.kind e.day) (up_to_end terms.kind (in_order (all_events terms plan entries children)))
    (all-up_to_end P terms.kind (in_order (all_events terms plan entries children)) (all-in_order P (all_events terms plan entries children) all))

-- ---- they are cut at the day

cut-settlement : (day : ℤ) (exercised : Bool) (events : List Event) → IsCut (is_event_before day) events → IsCut (is_event_before day) (with_settlement exercised events)
cut-settlement day true events cut = cut
cut-settlement day false events cut = cut-filter (is_event_before day) (λ e. not (is_type e.kind type.STD)) events cut

cut-exercise : (day : ℤ) (contract : Kind) (events : List Event) → IsCut (is_event_before day) events → IsCut (is_event_before day) (with_exercise contract events)
cut-exercise day (kind.OPTNS optns) events cut = cut-settlement day (list_any (λ e. is_type e.kind type.XD) events) events cut
cut-exercise day (kind.FUTUR futur) events cut = cut-settlement day (list_any (λ e. is_type e.kind type.XD) events) events cut
cut-exercise day other events cut = cut

-- what is dated before a day stands first among the events of a contract
pub events-cut : (day : ℤ) (terms : Terms) (plan : EventPlan) (entries : List Obs) (children : List Stream) → IsCut (is_event_before day) (events_of terms plan entries children)
unfolding events_of
events-cut day terms plan entries children =
    cut-exercise day terms.kind (counted terms plan entries children) (cut-counting day terms.common.status_date terms.kind (all_events terms plan entries children))

-- ---- they agree before the day

module _ (day : ℤ) (codes contracts : List ℕ) (one other : List Obs) (agree : AgreeBefore day codes contracts one other) (last : int_lt last_day day ≡ false) where
  all-agree : (terms : Terms) (plan : EventPlan) (children others : List Stream) → plan_by terms.common terms.kind ≡ Ok plan → is_in contracts (observed_as terms.common) ≡ true → CoveredIn contracts terms.kind →
      ChildrenAgree day children others → ArePaired terms.common terms.kind children → ArePaired terms.common terms.kind others →
      events_before day (all_events terms plan one children) ≡ events_before day (all_events terms plan other others)
  all-agree terms plan children others planned within covered kids pairs pairs2 =
      let scheduled = events_scheduled terms.common terms.kind plan one in
      let seen = events_observed terms one in
      let rows = events_of_children terms.common terms.kind children in
      let scheduled2 = events_scheduled terms.common terms.kind plan other in
      let seen2 = events_observed terms other in
      let rows2 = events_of_children terms.common terms.kind others in
      events_before-append day (scheduled ++ seen) rows
      ∙ ap (λ (events : List Event). events ++ events_before day rows) (
      events_before-append day scheduled seen
      ∙ ap (λ (events : List Event). events ++ events_before day seen) (scheduled-agree day codes contracts one other agree last terms.common terms.kind plan planned within covered)
      ∙ ap (λ (events : List Event). events_before day scheduled2 ++ events) (same_events_observed day codes contracts terms within one other agree)
      ∙ sym (events_before-append day scheduled2 seen2))
      ∙ ap (λ (events : List Event). events_before day (scheduled2 ++ seen2) ++ events) (row_events-agree day terms.common terms.kind children others kids pairs pairs2)
      ∙ sym (events_before-append day (scheduled2 ++ seen2) rows2)

  counted-agree : (terms : Terms) (plan : EventPlan) (children others : List Stream) → events_before day (all_events terms plan one children) ≡ events_before day (all_events terms plan other others) →
      events_before day (counted terms plan one children) ≡ events_before day (counted terms plan other others)
  counted-agree terms plan children others all =
      counting-before day terms.common.status_date terms.kind (all_events terms plan one children)
      ∙ ap (λ (events : List Event). counting terms.common.status_date terms.kind (in_order events)) all
      ∙ sym (counting-before day terms.common.status_date terms.kind (all_events terms plan other others))

  option-early : (common : Common) (optns : Optns) (plan : EventPlan) (entries : List Obs) (children : List Stream) → int_lt (exercise_day entries common optns) day ≡ true →
      AllByRecursion (EarlyExercise day) (counted (record { common = common; kind = kind.OPTNS optns }) plan entries children)
  option-early common optns plan entries children early =
      let terms : Terms = record { common = common; kind = kind.OPTNS optns } in
      all-counted (EarlyExercise day) terms plan entries children
      (all-append (EarlyExercise day) (events_scheduled common (kind.OPTNS optns) plan entries ++ events_observed terms entries) []
      (all-append (EarlyExercise day) (events_scheduled common (kind.OPTNS optns) plan entries) (events_observed terms entries)
      (early-exercised_on day common optns.settlement_period (exercise_day entries common optns) early) (early-observed day terms entries)) tt)

  option-late : (common : Common) (optns : Optns) (plan : EventPlan) (entries : List Obs) (children : List Stream) → int_lt (exercise_day entries common optns) day ≡ false →
      AllByRecursion (LateSettlement day) (counted (record { common = common; kind = kind.OPTNS optns }) plan entries children)
  option-late common optns plan entries children late =
      let terms : Terms = record { common = common; kind = kind.OPTNS optns } in
      all-counted (LateSettlement day) terms plan entries children
      (all-append (LateSettlement day) (events_scheduled common (kind.OPTNS optns) plan entries ++ events_observed terms entries) []
      (all-append (LateSettlement day) (events_scheduled common (kind.OPTNS optns) plan entries) (events_observed terms entries)
      (late-exercised_on day common optns.settlement_period (exercise_day entries common optns) last late) (late-observed day terms entries)) tt)

  option-sides : (common : Common) (optns : Optns) (plan : EventPlan) (children others : List Stream) → DaysAgree day (exercise_day one common optns) (exercise_day other common optns) →
      (AllByRecursion (EarlyExercise day) (counted (record { common = common; kind = kind.OPTNS optns }) plan one children) × AllByRecursion (EarlyExercise day) (counted (record { common = common; kind = kind.OPTNS optns }) plan other others))
      ⊎ (AllByRecursion (LateSettlement day) (counted (record { common = common; kind = kind.OPTNS optns }) plan one children) × AllByRecursion (LateSettlement day) (counted (record { common = common; kind = kind.OPTNS optns }) plan other others))
  option-sides common optns plan children others (inl same) =
      inl (option-early common optns plan one children same.1, option-early common optns plan other others (rw (same.0) at same.1))
  option-sides common optns plan children others (inr late) = inr (option-late common optns plan one children late.0, option-late common optns plan other others late.1)

  future-early : (common : Common) (futur : Futur) (plan : EventPlan) (entries : List Obs) (children : List Stream) → exercise_plan common futur.settlement_period futur.maturity_date ≡ plan → int_lt futur.maturity_date day ≡ true →
      AllByRecursion (EarlyExercise day) (counted (record { common = common; kind = kind.FUTUR futur }) plan entries children)
  future-early common futur plan entries children planned early =
      let terms : Terms = record { common = common; kind = kind.FUTUR futur } in
      all-counted (EarlyExercise day) terms plan entries children
      (all-append (EarlyExercise day) (plan.events ++ events_observed terms entries) []
      (all-append (EarlyExercise day) plan.events (events_observed terms entries)
      (rw (← planned) (all-in_order (EarlyExercise day) (events_exercised_on common futur.settlement_period futur.maturity_date) (early-exercised_on day common futur.settlement_period futur.maturity_date early))) (early-observed day terms entries)) tt)

  future-late : (common : Common) (futur : Futur) (plan : EventPlan) (entries : List Obs) (children : List Stream) → exercise_plan common futur.settlement_period futur.maturity_date ≡ plan → int_lt futur.maturity_date day ≡ false →
      AllByRecursion (LateSettlement day) (counted (record { common = common; kind = kind.FUTUR futur }) plan entries children)
  future-late common futur plan entries children planned late =
      let terms : Terms = record { common = common; kind = kind.FUTUR futur } in
      all-counted (LateSettlement day) terms plan entries children
      (all-append (LateSettlement day) (plan.events ++ events_observed terms entries) []
      (all-append (LateSettlement day) plan.events (events_observed terms entries)
      (rw (← planned) (all-in_order (LateSettlement day) (events_exercised_on common futur.settlement_period futur.maturity_date) (late-exercised_on day common futur.settlement_period futur.maturity_date last late))) (late-observed day terms entries)) tt)

  with_exercise-agree : (common : Common) (contract : Kind) (plan : EventPlan) (children others : List Stream) → plan_by common contract ≡ Ok plan → is_in contracts (observed_as common) ≡ true →
      events_before day (counted (record { common = common; kind = contract }) plan one children) ≡ events_before day (counted (record { common = common; kind = contract }) plan other others) →
      events_before day (with_exercise contract (counted (record { common = common; kind = contract }) plan one children)) ≡ events_before day (with_exercise contract (counted (record { common = common; kind = contract }) plan other others))
  with_exercise-agree common (kind.OPTNS optns) plan children others planned within same =
      settled-agree day _ _ same (option-sides common optns plan children others (exercise_day-agree day codes contracts one other agree common optns within))
  with_exercise-agree common (kind.FUTUR futur) plan children others planned within same =
      let is : exercise_plan common futur.settlement_period futur.maturity_date ≡ plan = cc in
      elim (cases_Bool (int_lt futur.maturity_date day)) [
        | inl early ↦ settled-agree day _ _ same (inl (future-early common futur plan one children is early, future-early common futur plan other others is early))
        | inr late ↦ settled-agree day _ _ same (inr (future-late common futur plan one children is late, future-late common futur plan other others is late))
      ]
  with_exercise-agree common contract plan children others planned within same = same

  -- the events of a contract dated before the day are the same, but for the places of their observations
  pub events-agree : (terms : Terms) (plan : EventPlan) (children others : List Stream) → plan_by terms.common terms.kind ≡ Ok plan → is_in contracts (observed_as terms.common) ≡ true → CoveredIn contracts terms.kind →
      ChildrenAgree day children others → ArePaired terms.common terms.kind children → ArePaired terms.common terms.kind others →
      events_before day (events_of terms plan one children) ≡ events_before day (events_of terms plan other others)
  unfolding events_of
  events-agree terms plan children others planned within covered kids pairs pairs2 =
      with_exercise-agree terms.common terms.kind plan children others planned within
      (counted-agree terms plan children others (all-agree terms plan children others planned within covered kids pairs pairs2))
