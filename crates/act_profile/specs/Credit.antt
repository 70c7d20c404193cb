-- Guarantees and collateral: a credit event of a covered contract is settled by its exposure, CEG and CEC. The names are those of ACTUS; the
-- rules and formulas are this profile's.
use Rattle.std.specs.Prelude.{unwrap_or, ℕ, if◌then◌else◌, Bool, true, false, ℤ, pos, int_le, List, [], ◌∷◌, map, Option, Some, None, option_map, option_and_then, Result, Ok, Err}
use Rattle.std.specs.List.{filter, filter_map, flat_map, fold, last_or, list_any}
use Rattle.std.specs.Option.{ok_or}
use Rattle.std.specs.Result.{result_ok}
use Rattle.act_calendar.specs.Shift.{shift_of}
use Rattle.act_calendar.specs.declared.shifting.Shifted.{Shifted}
use Rattle.act_date.specs.DayCount.{year_fraction}
use Rattle.act_date.specs.declared.day_count.DayCount.{DayCount}
use Rattle.act_model.specs.Observed.{observation, observed_events}
use Rattle.act_model.specs.Run.{EventPlan, Stream}
use Rattle.act_model.specs.Terms.{Collateral, Guarantee}
use Rattle.act_model.specs.declared.choice.GuaranteedExposure.{GuaranteedExposure}
use Rattle.act_model.specs.declared.choice.GuaranteedExposure.TheVariants as exposure
use Rattle.act_model.specs.declared.event.Event.{Event}
use Rattle.act_model.specs.declared.event.EventType.{EventType}
use Rattle.act_model.specs.declared.event.EventType.TheVariants.{MD, XD, STD}
use Rattle.act_model.specs.declared.observed.Obs.{Obs}
use Rattle.act_model.specs.declared.observed.Obs.TheVariants as obs
use Rattle.act_model.specs.declared.observed.ObsKind.{ObsKind}
use Rattle.act_model.specs.declared.observed.ObsKind.TheVariants as observed
use Rattle.act_model.specs.declared.run.PlanFault.{PlanFault}
use Rattle.act_model.specs.declared.run.PlanFault.TheVariants.{DateRange}
use Rattle.act_model.specs.declared.run.Stop.{Stop}
use Rattle.act_model.specs.declared.run.Stop.TheVariants.{Overflow}
use Rattle.act_model.specs.declared.state.State.{State}
use Rattle.act_model.specs.declared.terms.Common.{Common}
use Rattle.act_model.specs.declared.terms.Covered.{Covered}
use Rattle.act_profile.specs.Contract.{is_loan_type}
use Rattle.act_profile.specs.Dates.{is_within, least}
use Rattle.act_profile.specs.Exercise.{exercise_events, exercised, not_before, settlement_line}
use Rattle.act_profile.specs.Formula.{interest_on, lesser, magnitude, plus, times}
use Rattle.act_profile.specs.Legs.{child}
use Rattle.act_profile.specs.Loan.{interest_base}
use Rattle.act_profile.specs.Planning.{event_on}
use Rattle.act_profile.specs.Step.{StepLine, idle_line, with_value}
use Rattle.act_profile.specs.Trade.{passed, plain_plan}

-- ---- the plan

-- maturity, shifted, and not before maturity; a fault where it is shifted past 2299
abbrev pub maturity_plan_by : ℤ → Option Shifted → Result EventPlan PlanFault
maturity_plan_by maturity None = Err DateRange
maturity_plan_by maturity (Some shifted) = Ok (plain_plan (event_on 0 MD (not_before maturity shifted) ∷ []))

abbrev pub maturity_plan : Common → Option ℤ → Result EventPlan PlanFault
maturity_plan common None = Ok (plain_plan [])
maturity_plan common (Some maturity) =
    maturity_plan_by maturity (shift_of common.business_day_convention common.calendar maturity)

-- the plan of a guarantee: its maturity, where it has one
unfoldable pub guarantee_plan : Common → Guarantee → Result EventPlan PlanFault
guarantee_plan common guarantee = maturity_plan common guarantee.maturity_date

-- ---- the credit event

-- two kinds of observations are the same credit event
abbrev pub is_same_credit_event : ObsKind → ObsKind → Bool
is_same_credit_event observed.DL observed.DL = true
is_same_credit_event observed.DQ observed.DQ = true
is_same_credit_event observed.DF observed.DF = true
is_same_credit_event a b = false

-- the day of an entry that is a credit event of a covered type
abbrev pub credit_event_day : List ObsKind → Obs → Option ℤ
credit_event_day types (obs.Rate code day value) = None
credit_event_day types (obs.Event contract kind day value) = if list_any (is_same_credit_event kind) types then Some day else None

-- the days of the covered contracts' credit events, also of such as are no events of their own runs
abbrev pub credit_event_days : List Obs → Guarantee → List ℤ
credit_event_days entries guarantee =
    flat_map (λ c. filter_map (credit_event_day guarantee.credit_event_type_covered) (observed_events entries c.contract)) guarantee.covered

-- the day of the credit event: the first after the status date and not after maturity, where there is one
unfoldable pub credit_day : List Obs → Common → Guarantee → Option ℤ
credit_day entries common guarantee =
    least (filter (is_within common.status_date guarantee.maturity_date) (credit_event_days entries guarantee))

-- the events: of a credit event and its settlement, or else of maturity
abbrev pub guarantee_events_by : Common → Guarantee → EventPlan → Option ℤ → List Event
guarantee_events_by common guarantee plan None = plan.events
guarantee_events_by common guarantee plan (Some day) = exercise_events common guarantee.settlement_period day

abbrev pub guarantee_events : List Obs → Common → Guarantee → EventPlan → List Event
guarantee_events entries common guarantee plan = guarantee_events_by common guarantee plan (credit_day entries common guarantee)

-- ---- exposures

-- the state of a covered contract on a day: after its rows dated not after it, or its starting state where there is none
abbrev pub state_or_start : Option State → Result State Stop → Option State
state_or_start (Some s) start = Some s
state_or_start None start = result_ok start

abbrev pub state_on : List Stream → ℤ → Covered → Option State
state_on children day covered =
    state_or_start (last_or None (map (λ row. row.state) (filter (λ row. int_le row.day day) (child children covered.child).rows))) covered.start

-- the interest since Sd, by the covered contract's own terms
abbrev pub interest_to : Covered → Option DayCount → ℤ → State → Option ℤ
interest_to covered None day s = None
interest_to covered (Some count) day s =
    interest_on (interest_base covered.kind s) s.ipnr (year_fraction count covered.calendar (unwrap_or s.sd day) day covered.maturity)

-- the notional of a loan with its accrued interest, and the notional of another contract
abbrev pub with_interest : Covered → Bool → ℤ → State → Option ℤ
with_interest covered true day s = magnitude (plus (plus (Some s.nt) (Some s.ipac)) (interest_to covered covered.count day s))
with_interest covered false day s = magnitude (Some s.nt)

abbrev pub exposure_by : GuaranteedExposure → Covered → ℤ → State → Option ℤ
exposure_by exposure.NI covered day s = with_interest covered (is_loan_type covered.kind) day s
exposure_by other covered day s = magnitude (Some s.nt)

-- the sum of amounts, from the first on
abbrev pub sum_of : List (Option ℤ) → Option ℤ
sum_of amounts = fold plus (Some (pos 0)) amounts

-- the sum of magnitudes
abbrev pub sum_of_magnitudes : List ℤ → Option ℤ
sum_of_magnitudes values = sum_of (map (λ v. magnitude (Some v)) values)

-- the exposure to the covered contracts: by their states, or by the values read for their market objects
abbrev pub total_exposure : GuaranteedExposure → Guarantee → List Stream → ℤ → List ℤ → Option ℤ
total_exposure exposure.MV guarantee children day values = sum_of_magnitudes values
total_exposure other guarantee children day values =
    sum_of (map (λ c. option_and_then (exposure_by other c day) (state_on children day c)) guarantee.covered)

-- ---- steps

-- the codes that a credit event reads of the covered contracts: with MV their market objects
abbrev pub market_codes_by : GuaranteedExposure → Guarantee → List ℕ
market_codes_by exposure.MV guarantee = filter_map (λ c. c.market) guarantee.covered
market_codes_by other guarantee = []

abbrev pub market_codes : Guarantee → List ℕ
market_codes guarantee = market_codes_by guarantee.guaranteed_exposure guarantee

-- what follows from the values of codes on a day, or a stop at the first that has none
unfoldable pub reading_all : {A : Type 0} → List Obs → ℤ → List ℕ → (List ℤ → Result A Stop) → Result A Stop
reading_all entries day [] follows = follows []
reading_all entries day (code ∷ codes) follows =
    with_value code day (observation entries code day) (λ value. reading_all entries day codes (λ values. follows (value ∷ values)))

-- the covered part of the exposure
abbrev pub covered_part : Guarantee → List Stream → ℤ → List ℤ → Option ℤ
covered_part guarantee children day values =
    times (Some guarantee.coverage_of_credit_enhancement) (total_exposure guarantee.guaranteed_exposure guarantee children day values)

-- the state after a credit event of that amount
abbrev pub after_credit_event : ℤ → Option ℤ → State → Option (ℤ × State)
after_credit_event day amount s =
    option_and_then (λ xa. option_map (λ next. (pos 0, exercised day xa next)) (passed XD day s)) amount

-- the step of a credit event of a guarantee: the covered part
abbrev pub guarantee_step : List Obs → Guarantee → List Stream → ℤ → State → Result (ℤ × State) Stop
guarantee_step entries guarantee children day s =
    reading_all entries day (market_codes guarantee) (λ values.
    ok_or (after_credit_event day (covered_part guarantee children day values) s) (Overflow day XD))

-- the step of a credit event with collateral: the covered part, and at most what the collateral is worth
abbrev pub collateral_step : List Obs → Collateral → List Stream → ℤ → State → Result (ℤ × State) Stop
collateral_step entries collateral children day s =
    reading_all entries day (market_codes collateral.guarantee) (λ values.
    reading_all entries day collateral.covering (λ worth.
    ok_or (after_credit_event day (lesser (covered_part collateral.guarantee children day values) (sum_of_magnitudes worth)) s) (Overflow day XD)))

-- the line of any other event
abbrev pub credit_line : Common → EventType → StepLine
credit_line common STD = settlement_line common
credit_line common other = idle_line
