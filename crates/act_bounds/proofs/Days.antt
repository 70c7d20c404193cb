-- Each event of a contract stands on a day, and its value is a number of the range.
use Rattle.std.proofs.Common.{◌≡◌, ◌+◌, ◌&&◌, ℕ, Bool, true, false, ℤ, int_le, int_lt, List, [], ◌∷◌, map, Option, Some, None, IfSome, Ok, inl, inr, arith}
use Rattle.std.specs.List.{AllByRecursion, enumerate_from, filter, filter_map, flat_map, list_any, zip}
use Rattle.std.specs.Option.{unwrap_or}
use Rattle.std.specs.Prelude.{not, option_and_then, option_map}
use Rattle.std.proofs.lemmas.Bool.{cases_Bool}
use Rattle.std.proofs.lemmas.Int.{ints}
use Rattle.std.proofs.lemmas.List.Elements.{recursion_from_All}
use Rattle.act_calendar.specs.Shift.{calculation_day, following_day, preceding_day, shift_of, shifted_day}
use Rattle.act_calendar.specs.declared.shifting.Shifted.{Shifted}
use Rattle.act_date.specs.Civil.{IsDay, day_in_range, first_day, last_day}
use Rattle.act_date.specs.Cycle.{plus_cycles}
use Rattle.act_date.specs.declared.calendar.Calendar.{Calendar}
use Rattle.act_date.specs.declared.calendar.Convention.{Convention}
use Rattle.act_date.specs.declared.cycle.Cycle.{Cycle}
use Rattle.act_model.specs.Bounds.{AreBounded, EntryIsBounded, IsDated, KindIsBounded}
use Rattle.act_model.specs.Kind.{loan_of}
use Rattle.act_model.specs.Observed.{is_event_of, observed_events}
use Rattle.act_model.specs.Run.{EventPlan, Stream}
use Rattle.act_model.specs.Terms.{Guarantee}
use Rattle.act_model.specs.declared.choice.DeliverySettlement.{DeliverySettlement}
use Rattle.act_model.specs.declared.choice.DeliverySettlement.TheVariants as delivery
use Rattle.act_model.specs.declared.choice.PenaltyType.{PenaltyType}
use Rattle.act_model.specs.declared.choice.PenaltyType.TheVariants as penalty
use Rattle.act_model.specs.declared.event.Event.{Event}
use Rattle.act_model.specs.declared.event.EventType.{EventType}
use Rattle.act_model.specs.declared.event.EventType.TheVariants as type
use Rattle.act_model.specs.declared.observed.Obs.{Obs}
use Rattle.act_model.specs.declared.observed.Obs.TheVariants as obs
use Rattle.act_model.specs.declared.observed.ObsKind.{ObsKind}
use Rattle.act_model.specs.declared.observed.ObsKind.TheVariants as observed
use Rattle.act_model.specs.declared.run.Row.{Row}
use Rattle.act_model.specs.declared.terms.Common.{Common}
use Rattle.act_model.specs.declared.terms.Covered.{Covered}
use Rattle.act_model.specs.declared.terms.Kind.{Kind}
use Rattle.act_model.specs.declared.terms.Kind.TheVariants as kind
use Rattle.act_model.specs.declared.terms.Loan.{Loan}
use Rattle.act_model.specs.declared.terms.Terms.{Terms}
use Rattle.act_num.specs.Number.{InRange}
use Rattle.act_profile.specs.Contract.{observed_as}
use Rattle.act_profile.specs.Credit.{credit_day, credit_event_day, credit_event_days, guarantee_events_by, is_same_credit_event}
use Rattle.act_profile.specs.Dates.{is_within, least}
use Rattle.act_profile.specs.Events.{event_observed, events_by, events_of, events_of_children, events_of_entry, events_observed, events_scheduled, loan_prepayment, prepayment_events, stock_dividend}
use Rattle.act_profile.specs.Exercise.{exercise_day, exercise_day_by, exercise_events, exercise_of, may_be_early, not_before, settlement_day}
use Rattle.act_profile.specs.Legs.{PlacedRow, child, first_leg, leg_event, leg_events, limited_rows, net_event, netted_or_alone, partner, placed_rows, second_leg, taken_rows, unless_netted}
use Rattle.act_profile.specs.Order.{is_type}
use Rattle.act_profile.specs.Plan.{plan_by}
use Rattle.act_profile.specs.Planning.{as_scheduled, event_on}
use Rattle.act_profile.specs.Trade.{event_where_given, trade_events}
use Rattle.act_bounds.proofs.Children.{ChildrenHold, child-holds}
use Rattle.act_bounds.proofs.Parts.{all-filter_map, all-flat_map, all-map, some-map, some-of, some-then}
use Rattle.act_bounds.proofs.Operations.{zero-in_range}
use Rattle.act_bounds.proofs.Planned.{plan-values}
use Rattle.act_bounds.specs.Bounds.{RowHolds}
use Rattle.act_causality.proofs.Days.{least_of-all}
use Rattle.act_causality.proofs.EventFacts.{all-append, all-events, all-filter}

-- an event stands on a day, and its value is a number of the range
pub record EventHolds (event : Event) : Type 0 where
  pub day : IsDay event.day
  pub value : InRange event.value

abbrev AllHold : List Event → Type 0
AllHold events = AllByRecursion EventHolds events

-- ---- shifts

last-is_day : IsDay last_day
last-is_day = (grind (arith, ints), grind (arith, ints))

between-day : (d : ℤ) → (int_le first_day d && int_le d last_day) ≡ true → IsDay d
between-day d is = (grind (arith, ints), grind (arith, ints))

in_range-day : (d : ℤ) → IfSome (day_in_range d) IsDay
in_range-day d =
    elim (cases_Bool (int_le first_day d && int_le d last_day)) [
      | inl is ↦ rw is (between-day d is)
      | inr fails ↦ rw fails tt
    ]

shift-day : (convention : Convention) (calendar : Calendar) (day : ℤ) → IfSome (shift_of convention calendar day) (λ shifted. IsDay shifted.day)
unfolding shift_of
shift-day convention calendar day =
    let shifted = shifted_day convention day (following_day calendar day) (preceding_day calendar day) in
    some-map IsDay (λ (s : Shifted). IsDay s.day) (λ d. record { day = d; calc = calculation_day convention day d }) (λ d is. is) (day_in_range shifted) (in_range-day shifted)

not_before-day : (day : ℤ) (shifted : Shifted) → IsDay day → IsDay shifted.day → IsDay (not_before day shifted).day
not_before-day day shifted is shifts =
    elim (cases_Bool (int_lt shifted.day day)) [
      | inl earlier ↦ rw earlier is
      | inr later ↦ rw later shifts
    ]

settled-day : (day : ℤ) (shifted : Option Shifted) → IsDay day → IfSome shifted (λ s. IsDay s.day) → IsDay (unwrap_or (option_map (not_before day) shifted) (as_scheduled last_day)).day
settled-day day None is shifts = last-is_day
settled-day day (Some shifted) is shifts = not_before-day day shifted is shifts

settlement_day-is : (common : Common) (period : Cycle) (day : ℤ) → IsDay day → IsDay (settlement_day common period day).day
unfolding settlement_day
settlement_day-is common period day is =
    settled-day day (option_and_then (shift_of common.business_day_convention common.calendar) (plus_cycles day period 1)) is
    (some-then (λ (s : Shifted). IsDay s.day) (shift_of common.business_day_convention common.calendar) (shift-day common.business_day_convention common.calendar) (plus_cycles day period 1))

-- ---- scheduled events

on-holds : (what : EventType) (shifted : Shifted) → IsDay shifted.day → EventHolds (event_on 0 what shifted)
on-holds what shifted is = record { day = is; value = zero-in_range }

exercise-hold : (common : Common) (period : Cycle) (day : ℤ) → IsDay day → AllHold (exercise_events common period day)
exercise-hold common period day is =
    (on-holds type.XD (as_scheduled day) is, (on-holds type.STD (settlement_day common period day) (settlement_day-is common period day is), tt))

given-hold : (what : EventType) (date : Option ℤ) → IfSome date IsDay → AllHold (event_where_given what date)
given-hold what None is = tt
given-hold what (Some date) is = (on-holds what (as_scheduled date) is, tt)

trade-hold : (terms : Terms) → AreBounded terms → AllHold (trade_events terms.common)
trade-hold terms bounded =
    all-append EventHolds (event_where_given type.PRD terms.common.purchase_date) (event_where_given type.TD terms.common.termination_date)
    (given-hold type.PRD terms.common.purchase_date bounded.purchase) (given-hold type.TD terms.common.termination_date bounded.termination)

dated-hold : (events : List Event) → AllByRecursion (λ (e : Event). IsDay e.day) events → AllByRecursion (λ (e : Event). InRange e.value) events → AllHold events
dated-hold [] dated values = tt
dated-hold (e ∷ events) dated values = (record { day = dated.0; value = values.0 }, dated-hold events dated.1 values.1)

plan-hold : (common : Common) (contract : Kind) (plan : EventPlan) → plan_by common contract ≡ Ok plan → IsDated plan → AllHold plan.events
plan-hold common contract plan planned dated =
    dated-hold plan.events (recursion_from_All (λ (e : Event). IsDay e.day) plan.events dated) (plan-values common contract plan planned)

or-day : (day : Option ℤ) (other : ℤ) → IfSome day IsDay → IsDay other → IsDay (unwrap_or day other)
or-day None other is others = others
or-day (Some day) other is others = is

least-day : (days : List ℤ) → AllByRecursion IsDay days → IfSome (least days) IsDay
least-day days all = some-of IsDay (least days) (λ d is. least_of-all IsDay days d all is)

exercise_of-day : (entry : Obs) → EntryIsBounded entry → IfSome (exercise_of entry) IsDay
exercise_of-day (obs.Rate code day value) bounded = tt
exercise_of-day (obs.Event contract observed.XD day value) bounded = bounded.0
exercise_of-day (obs.Event contract other day value) bounded = tt

credit_event-day : (types : List ObsKind) (entry : Obs) → EntryIsBounded entry → IfSome (credit_event_day types entry) IsDay
credit_event-day types (obs.Rate code day value) bounded = tt
credit_event-day types (obs.Event contract what day value) bounded =
    elim (cases_Bool (list_any (is_same_credit_event what) types)) [
      | inl covered ↦ rw covered bounded.0
      | inr another ↦ rw another tt
    ]

module _ (entries : List Obs) (entered : AllByRecursion EntryIsBounded entries) where
  seen-bounded : (contract : ℕ) → AllByRecursion EntryIsBounded (observed_events entries contract)
  seen-bounded contract = all-filter EntryIsBounded (is_event_of contract) entries entered

  exercise_day-by : (early : Bool) (common : Common) (maturity : ℤ) → IsDay maturity → IsDay (exercise_day_by early entries common maturity)
  exercise_day-by false common maturity is = is
  exercise_day-by true common maturity is =
      let days = filter_map exercise_of (observed_events entries (observed_as common)) in
      or-day (least (filter (is_within common.status_date (Some maturity)) days)) maturity
      (least-day (filter (is_within common.status_date (Some maturity)) days) (all-filter IsDay (is_within common.status_date (Some maturity)) days
      (all-filter_map EntryIsBounded IsDay exercise_of exercise_of-day (observed_events entries (observed_as common)) (seen-bounded (observed_as common))))) is

  credit_days-are : (guarantee : Guarantee) → (covered : List Covered) →
      AllByRecursion IsDay (flat_map (λ c. filter_map (credit_event_day guarantee.credit_event_type_covered) (observed_events entries c.contract)) covered)
  credit_days-are guarantee [] = tt
  credit_days-are guarantee (c ∷ covered) =
      all-append IsDay (filter_map (credit_event_day guarantee.credit_event_type_covered) (observed_events entries c.contract))
      (flat_map (λ (d : Covered). filter_map (credit_event_day guarantee.credit_event_type_covered) (observed_events entries d.contract)) covered)
      (all-filter_map EntryIsBounded IsDay (credit_event_day guarantee.credit_event_type_covered) (credit_event-day guarantee.credit_event_type_covered) (observed_events entries c.contract) (seen-bounded c.contract))
      (credit_days-are guarantee covered)

  -- the day of a credit event is a day
  pub credit_day-is : (common : Common) (guarantee : Guarantee) → IfSome (credit_day entries common guarantee) IsDay
  unfolding credit_day
  credit_day-is common guarantee =
      least-day (filter (is_within common.status_date guarantee.maturity_date) (credit_event_days entries guarantee))
      (all-filter IsDay (is_within common.status_date guarantee.maturity_date) (credit_event_days entries guarantee) (credit_days-are guarantee guarantee.covered))

  guarantee-hold : (common : Common) (guarantee : Guarantee) (plan : EventPlan) (day : Option ℤ) → AllHold plan.events → IfSome day IsDay → AllHold (guarantee_events_by common guarantee plan day)
  guarantee-hold common guarantee plan None all is = all
  guarantee-hold common guarantee plan (Some day) all is = exercise-hold common guarantee.settlement_period day is

  scheduled-hold : (common : Common) (contract : Kind) (plan : EventPlan) → AllHold (trade_events common) → KindIsBounded contract → AllHold plan.events → AllHold (events_scheduled common contract plan entries)
  scheduled-hold common (kind.OPTNS optns) plan trades bounded all =
      let day = exercise_day entries common optns in
      all-append EventHolds (trade_events common) (exercise_events common optns.settlement_period day) trades
      (exercise-hold common optns.settlement_period day (exercise_day-by (may_be_early optns.option_exercise_type) common optns.maturity_date bounded))
  scheduled-hold common (kind.CEG ceg) plan trades bounded all = guarantee-hold common ceg plan (credit_day entries common ceg) all (credit_day-is common ceg)
  scheduled-hold common (kind.CEC cec) plan trades bounded all = guarantee-hold common cec.guarantee plan (credit_day entries common cec.guarantee) all (credit_day-is common cec.guarantee)
  scheduled-hold common other plan trades bounded all = all

-- ---- observed events

seen-holds : (place : ℕ) (what : EventType) (day value : ℤ) → IsDay day → InRange value → EventHolds (event_observed place what day value)
seen-holds place what day value is within = record { day = is; value = within }

module _ (place : ℕ) (day value : ℤ) (is : IsDay day) (within : InRange value) where
  prepayment-hold : (what : PenaltyType) → AllHold (prepayment_events place day value what)
  prepayment-hold penalty.O = (seen-holds place type.PP day value is within, tt)
  prepayment-hold other = (seen-holds place type.PP day value is within, (seen-holds place type.PY day value is within, tt))

  loan-hold : (loan : Option Loan) → AllHold (loan_prepayment place day value loan)
  loan-hold None = tt
  loan-hold (Some loan) = prepayment-hold loan.penalty_type

  dividend-hold : (terms : Kind) → AllHold (stock_dividend place day value terms)
  dividend-hold (kind.STK stk) = (seen-holds place type.DV day value is within, tt)
  dividend-hold other = tt

  kind-hold : (terms : Kind) (what : ObsKind) → AllHold (events_by terms place what day value)
  kind-hold terms observed.PP = loan-hold (loan_of terms)
  kind-hold terms observed.DV = dividend-hold terms
  kind-hold terms observed.XD = tt
  kind-hold terms credit = (seen-holds place type.CE day value is within, tt)

entry-hold : (terms : Kind) (place : ℕ) (entry : Obs) → EntryIsBounded entry → AllHold (events_of_entry terms (place, entry))
entry-hold terms place (obs.Rate code day value) bounded = tt
entry-hold terms place (obs.Event contract what day value) bounded = kind-hold place day value bounded.0 bounded.1 terms what

entries-hold : (terms : Kind) (place : ℕ) (entries : List Obs) → AllByRecursion EntryIsBounded entries → AllHold (flat_map (events_of_entry terms) (enumerate_from place entries))
entries-hold terms place [] all = tt
entries-hold terms place (entry ∷ entries) all =
    all-append EventHolds (events_of_entry terms (place, entry)) (flat_map (events_of_entry terms) (enumerate_from (place + 1) entries)) (entry-hold terms place entry all.0) (entries-hold terms (place + 1) entries all.1)

observed-hold : (terms : Terms) (entries : List Obs) → AllByRecursion EntryIsBounded entries → AllHold (events_observed terms entries)
unfolding events_observed
observed-hold terms entries entered = entries-hold terms.kind 0 (observed_events entries (observed_as terms.common)) (seen-bounded entries entered (observed_as terms.common))

-- ---- rows of children

-- a placed row stands on a day
abbrev IsOnDay : PlacedRow → Type 0
IsOnDay row = IsDay row.1.day

leg-holds : (leg : ℕ) (row : PlacedRow) → IsOnDay row → EventHolds (leg_event leg row)
leg-holds leg row is = record { day = is; value = zero-in_range }

netted-holds : (leg : ℕ) (row : PlacedRow) (other : Option PlacedRow) → IsOnDay row → EventHolds (netted_or_alone leg row other)
netted-holds leg row None is = leg-holds leg row is
netted-holds leg row (Some other) is = record { day = is; value = zero-in_range }

unless-hold : (leg : ℕ) (row : PlacedRow) (other : Option PlacedRow) → IsOnDay row → AllHold (unless_netted leg row other)
unless-hold leg row None is = (leg-holds leg row is, tt)
unless-hold leg row (Some other) is = tt

legs-hold : (how : DeliverySettlement) (first second : ℕ) (firsts seconds : List PlacedRow) → AllByRecursion IsOnDay firsts → AllByRecursion IsOnDay seconds → AllHold (leg_events how first second firsts seconds)
legs-hold delivery.D first second firsts seconds all all2 =
    all-append EventHolds (map (leg_event first) firsts) (map (leg_event second) seconds)
    (all-map IsOnDay EventHolds (leg_event first) (leg-holds first) firsts all) (all-map IsOnDay EventHolds (leg_event second) (leg-holds second) seconds all2)
legs-hold delivery.S first second firsts seconds all all2 =
    all-append EventHolds (map (λ row. netted_or_alone first row (partner firsts seconds row)) firsts) (flat_map (λ row. unless_netted second row (partner seconds firsts row)) seconds)
    (all-map IsOnDay EventHolds (λ row. netted_or_alone first row (partner firsts seconds row)) (λ row is. netted-holds first row (partner firsts seconds row) is) firsts all)
    (all-flat_map IsOnDay EventHolds (λ row. unless_netted second row (partner seconds firsts row)) (λ row is. unless-hold second row (partner seconds firsts row) is) seconds all2)

pairs-hold : (xs ys : List PlacedRow) → AllByRecursion IsOnDay xs → AllHold (map (λ rows. net_event rows.0 rows.1) (zip xs ys))
pairs-hold [] ys all = tt
pairs-hold (x ∷ xs) [] all = tt
pairs-hold (x ∷ xs) (y ∷ ys) all = (record { day = all.0; value = zero-in_range }, pairs-hold xs ys all.1)

module _ (codes currencies : ℕ) (children : List Stream) (hold : ChildrenHold codes currencies children) where
  placed-days : (n : ℕ) (rows : List Row) → AllByRecursion (RowHolds currencies) rows → AllByRecursion IsOnDay (enumerate_from n rows)
  placed-days n [] all = tt
  placed-days n (row ∷ rows) all = (all.0.day, placed-days (n + 1) rows all.1)

  leg-days : (leg : ℕ) → AllByRecursion IsOnDay (placed_rows (child children leg))
  leg-days leg = placed-days 0 (child children leg).rows (child-holds codes currencies children leg hold).rows

  taken-days : (status : ℤ) (leg : ℕ) → AllByRecursion IsOnDay (taken_rows status (child children leg))
  taken-days status leg = all-filter IsOnDay (λ row. int_lt status row.1.day && not (is_type row.1.kind type.CE)) (placed_rows (child children leg)) (leg-days leg)

  rows-hold : (common : Common) (contract : Kind) → AllHold (events_of_children common contract children)
  rows-hold common (kind.SWAPS swaps) =
      legs-hold swaps.delivery_settlement (first_leg swaps) (second_leg swaps) (taken_rows common.status_date (child children (first_leg swaps))) (taken_rows common.status_date (child children (second_leg swaps)))
      (taken-days common.status_date (first_leg swaps)) (taken-days common.status_date (second_leg swaps))
  rows-hold common (kind.CAPFL capfl) =
      pairs-hold (limited_rows common capfl (child children 0)) (limited_rows common capfl (child children 1))
      (all-filter IsOnDay (λ row. is_type row.1.kind type.IP && is_within common.status_date capfl.maturity_date row.1.day) (placed_rows (child children 0)) (leg-days 0))
  rows-hold common other = tt

  -- ---- all events

  pub events-hold : (terms : Terms) (plan : EventPlan) (entries : List Obs) → AreBounded terms → plan_by terms.common terms.kind ≡ Ok plan → IsDated plan → AllByRecursion EntryIsBounded entries →
      AllByRecursion EventHolds (events_of terms plan entries children)
  events-hold terms plan entries bounded planned dated entered =
      all-events EventHolds terms plan entries children
      (scheduled-hold entries entered terms.common terms.kind plan (trade-hold terms bounded) bounded.kind (plan-hold terms.common terms.kind plan planned dated))
      (observed-hold terms entries entered) (rows-hold terms.common terms.kind)
