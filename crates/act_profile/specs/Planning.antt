-- A plan: scheduled dates by type of event, shifted to business days, in order, or the first fault. The names are those of ACTUS; the
-- order of types and the limits are this profile's own.
use Rattle.std.specs.Prelude.{ℕ, ◌+◌, length, nat_lt, if◌then◌else◌, Bool, true, false, ℤ, pos, List, [], ◌∷◌, ◌++◌, map, Option, Some, None, option_map, Result, Ok, Err}
use Rattle.std.specs.List.{enumerate_from}
use Rattle.std.specs.Option.{ok_or}
use Rattle.act_calendar.specs.Shift.{shift_of}
use Rattle.act_calendar.specs.declared.shifting.Shifted.{Shifted}
use Rattle.act_model.specs.Limits.{most_dates}
use Rattle.act_model.specs.declared.event.Event.{Event}
use Rattle.act_model.specs.declared.event.EventType.{EventType}
use Rattle.act_model.specs.declared.event.Source.TheVariants.{Scheduled}
use Rattle.act_model.specs.declared.run.PlanFault.{PlanFault}
use Rattle.act_model.specs.declared.run.PlanFault.TheVariants.{TooManyDates, DateRange}
use Rattle.act_model.specs.declared.terms.Common.{Common}
use Rattle.act_profile.specs.Lists.{all_of}
use Rattle.act_profile.specs.Outcomes.{map_ok, then_ok}

-- ---- dates of events

-- a date of an event before it is shifted, and whether it is shifted at all
pub record Planned : Type 0 where
  pub kind : EventType
  pub date : ℤ
  pub shifts : Bool

-- dates of one type of event that are shifted by the contract's convention
abbrev pub shifting : EventType → List ℤ → List Planned
shifting kind dates = map (λ d. record { kind = kind; date = d; shifts = true }) dates

-- a date of an event that isn't shifted
abbrev pub unshifted : EventType → ℤ → List Planned
unshifted kind date = record { kind = kind; date = date; shifts = false } ∷ []

-- such a date, where it is given
abbrev pub unshifted_where_given : EventType → Option ℤ → List Planned
unshifted_where_given kind None = []
unshifted_where_given kind (Some date) = unshifted kind date

-- ---- events

-- a date that stays as it is: the event's day, and the day that its computations go by
abbrev pub as_scheduled : ℤ → Shifted
as_scheduled date = record { day = date; calc = date }

-- the day that a date is shifted to, and the day that its computations go by; undefined past 2299
abbrev pub shifted_by : Common → Bool → ℤ → Option Shifted
shifted_by common true date = shift_of common.business_day_convention common.calendar date
shifted_by common false date = Some (as_scheduled date)

-- the event of a date that has been shifted, with the date's place among those of its line of the schedule
abbrev pub event_on : ℕ → EventType → Shifted → Event
event_on place kind shifted = record { day = shifted.day; calc = shifted.calc; kind = kind; value = pos 0; source = Scheduled place }

-- the event of a date, undefined where the date is shifted past 2299
abbrev pub planned_event : Common → ℕ × Planned → Option Event
planned_event common p = option_map (event_on p.0 p.1.kind) (shifted_by common p.1.shifts p.1.date)

-- the events of dates, undefined where one of them is
abbrev pub planned_events : Common → List Planned → Option (List Event)
planned_events common dates = all_of (map (planned_event common) (enumerate_from 0 dates))

-- ---- the events of all types, or the first fault

-- the events of one type's dates, after so many of earlier types; a fault where there are too many, or else where one is undefined
abbrev pub type_events : Common → ℕ → List Planned → Result (List Event) PlanFault
type_events common n dates =
    if nat_lt most_dates (n + length dates) then Err TooManyDates else ok_or (planned_events common dates) DateRange

-- the events of each type's dates in turn, after so many of earlier types: the first type that has a fault decides. Dates are undefined
-- where their anchor is
unfoldable pub events_by_type : Common → ℕ → List (Option (List Planned)) → Result (List Event) PlanFault
events_by_type common n [] = Ok []
events_by_type common n (None ∷ types) = Err DateRange
events_by_type common n (Some dates ∷ types) =
    then_ok (λ events. map_ok (λ later. events ++ later) (events_by_type common (n + length dates) types)) (type_events common n dates)
