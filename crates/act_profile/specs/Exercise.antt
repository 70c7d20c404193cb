-- Options and futures: exercise and settlement, OPTNS and FUTUR. The names are those of ACTUS; the rules and formulas are this profile's.
use Rattle.std.specs.Prelude.{if◌then◌else◌, not, Bool, true, false, ℤ, pos, int_lt, List, [], ◌∷◌, ◌++◌, Option, Some, None, option_map, option_and_then}
use Rattle.std.specs.Int.{int_max}
use Rattle.std.specs.List.{filter, filter_map, list_any}
use Rattle.std.specs.Option.{unwrap_or}
use Rattle.act_calendar.specs.Shift.{shift_of}
use Rattle.act_calendar.specs.declared.shifting.Shifted.{Shifted}
use Rattle.act_date.specs.Civil.{last_day}
use Rattle.act_date.specs.Cycle.{plus_cycles}
use Rattle.act_date.specs.declared.cycle.Cycle.{Cycle}
use Rattle.act_num.specs.Number.{sub_of}
use Rattle.act_model.specs.Observed.{observed_events}
use Rattle.act_model.specs.Run.{EventPlan}
use Rattle.act_model.specs.declared.choice.ExerciseType.{ExerciseType}
use Rattle.act_model.specs.declared.choice.ExerciseType.TheVariants as exercise
use Rattle.act_model.specs.declared.choice.OptionType.{OptionType}
use Rattle.act_model.specs.declared.choice.OptionType.TheVariants as option
use Rattle.act_model.specs.declared.event.Event.{Event}
use Rattle.act_model.specs.declared.event.EventType.{EventType}
use Rattle.act_model.specs.declared.event.EventType.TheVariants.{XD, STD}
use Rattle.act_model.specs.declared.observed.Obs.{Obs}
use Rattle.act_model.specs.declared.observed.Obs.TheVariants as obs
use Rattle.act_model.specs.declared.observed.ObsKind.{ObsKind}
use Rattle.act_model.specs.declared.observed.ObsKind.TheVariants as observed
use Rattle.act_model.specs.declared.state.State.{State}
use Rattle.act_model.specs.declared.terms.Common.{Common}
use Rattle.act_model.specs.declared.terms.Futur.{Futur}
use Rattle.act_model.specs.declared.terms.Optns.{Optns}
use Rattle.act_profile.specs.Dates.{is_within, least}
use Rattle.act_profile.specs.Contract.{observed_as}
use Rattle.act_profile.specs.Formula.{plus, signed}
use Rattle.act_profile.specs.Order.{in_order, is_type}
use Rattle.act_profile.specs.Planning.{event_on, as_scheduled}
use Rattle.act_profile.specs.States.{with_xa, with_xd}
use Rattle.act_profile.specs.Step.{StepLine, becomes, becomes_by, changed, nothing, pays}
use Rattle.act_profile.specs.Trade.{plain_plan, trade_events, trade_line}

-- ---- settlement

-- the shifted day, or the day itself where that is later
abbrev pub not_before : ℤ → Shifted → Shifted
not_before day shifted = if int_lt shifted.day day then as_scheduled day else shifted

-- the day on which an exercise is settled: after the settlement period, shifted, and not before the exercise; past 2299 the last day
unfoldable pub settlement_day : Common → Cycle → ℤ → Shifted
settlement_day common period day =
    unwrap_or (option_map (not_before day) (option_and_then (shift_of common.business_day_convention common.calendar) (plus_cycles day period 1)))
    (as_scheduled last_day)

-- the exercise on a day and its settlement
abbrev pub exercise_events : Common → Cycle → ℤ → List Event
exercise_events common period day =
    event_on 0 XD (as_scheduled day) ∷ event_on 0 STD (settlement_day common period day) ∷ []

-- where the exercise isn't among the events, there is no settlement
abbrev pub with_settlement : Bool → List Event → List Event
with_settlement true events = events
with_settlement false events = filter (λ e. not (is_type e.kind STD)) events

-- the events, with the settlement only of an exercise that is among them
abbrev pub settled_events : List Event → List Event
settled_events events = with_settlement (list_any (λ e. is_type e.kind XD) events) events

-- the line of a settlement
abbrev pub settlement_line : Common → StepLine
settlement_line common = record {
  payoff = pays (λ s. Some (signed common.contract_role s.xa));
  change = becomes (λ s. Some (with_xa (pos 0) s));
}

-- ---- the plan

-- the scheduled events with an exercise on a day
abbrev pub events_exercised_on : Common → Cycle → ℤ → List Event
events_exercised_on common period day = trade_events common ++ exercise_events common period day

-- the plan of an option or a future: exercise at maturity, and settlement
abbrev pub exercise_plan : Common → Cycle → ℤ → EventPlan
exercise_plan common period maturity = plain_plan (in_order (events_exercised_on common period maturity))

-- ---- the day of exercise

-- an option that may be exercised before maturity: American or Bermudan
abbrev pub may_be_early : ExerciseType → Bool
may_be_early exercise.E = false
may_be_early exercise.A = true
may_be_early exercise.B = true

-- the day of an observation, where it is an exercise
abbrev pub exercise_by : ObsKind → ℤ → Option ℤ
exercise_by observed.XD day = Some day
exercise_by other day = None

-- the day of an entry that is an observed exercise
abbrev pub exercise_of : Obs → Option ℤ
exercise_of (obs.Rate code day value) = None
exercise_of (obs.Event contract kind day value) = exercise_by kind day

-- the day of exercise of an option: the first observed one, where it may be early, and else maturity
abbrev pub exercise_day_by : Bool → List Obs → Common → ℤ → ℤ
exercise_day_by false entries common maturity = maturity
exercise_day_by true entries common maturity =
    unwrap_or (least (filter (is_within common.status_date (Some maturity)) (filter_map exercise_of (observed_events entries (observed_as common))))) maturity

-- the same by the option's terms
abbrev pub exercise_day : List Obs → Common → Optns → ℤ
exercise_day entries common optns = exercise_day_by (may_be_early optns.option_exercise_type) entries common optns.maturity_date

-- ---- steps

-- what is above 0 of a difference
abbrev pub excess : ℤ → ℤ → Option ℤ
excess a b = option_map (λ d. int_max d (pos 0)) (sub_of a b)

-- the amount of exercise of an option: of a call, a put or both, by the value of the market object
abbrev pub option_amount_by : Optns → OptionType → Option ℤ → ℤ → Option ℤ
option_amount_by optns option.C strike2 s = excess s optns.option_strike1
option_amount_by optns option.P strike2 s = excess optns.option_strike1 s
option_amount_by optns option.CP None s = None
option_amount_by optns option.CP (Some strike2) s = plus (excess s optns.option_strike1) (excess strike2 s)

-- the same by the option's terms
abbrev pub option_amount : Optns → ℤ → Option ℤ
option_amount optns s = option_amount_by optns optns.option_type optns.option_strike2 s

-- the state after an exercise on a day
abbrev pub exercised : ℤ → ℤ → State → State
exercised day amount s = with_xd day (with_xa amount s)

-- the line of an event of an option
abbrev pub option_line : Common → Optns → Event → EventType → StepLine
option_line common optns e XD = record {
  payoff = nothing;
  change = becomes_by optns.underlying (λ value. changed (exercised e.day) (option_amount optns value));
}
option_line common optns e STD = settlement_line common
option_line common optns e other = trade_line common other

-- the line of an event of a future
abbrev pub future_line : Common → Futur → Event → EventType → StepLine
future_line common futur e XD = record {
  payoff = nothing;
  change = becomes_by futur.underlying (λ value. changed (exercised e.day) (sub_of value futur.futures_price));
}
future_line common futur e STD = settlement_line common
future_line common futur e other = trade_line common other
