-- Schedules: the dates that a cycle leads to from an anchor, up to an end. ACTUS schedules; the edges are this profile's own.
use Rattle.std.specs.Prelude.{◌≡◌, ℕ, zero, suc, ◌-◌, ◌<◌, ◌≤◌, max, ◌&&◌, not, if◌then◌else◌, Bool, true, false, ℤ, ◌-ℤ◌, ◌<ℤ◌, ◌≤ℤ◌, unsigned_abs, int_le, int_lt, List, [], ◌∷◌, ◌++◌, length, take, Option, Some, None, ◌⊎◌}
use Rattle.std.specs.Int.{int_max}
use Rattle.std.specs.List.{filter, fold}
use Rattle.std.specs.Option.{ForSome, option_map}
use Rattle.std.specs.Ordering.{int_eq}
use Rattle.act_date.specs.Civil.{month_end_of}
use Rattle.act_date.specs.Cycle.{plus_cycles}
use Rattle.act_date.specs.declared.cycle.Cycle.{Cycle}
use Rattle.act_date.specs.declared.cycle.MonthRule.{MonthRule}
use Rattle.act_date.specs.declared.cycle.MonthRule.TheVariants.{Sd, Eom}
use Rattle.act_date.specs.declared.cycle.Stub.{Stub}
use Rattle.act_date.specs.declared.cycle.Stub.TheVariants.{Long, Short}
use Rattle.act_date.specs.declared.cycle.Unit.{Unit}
use Rattle.act_date.specs.declared.cycle.Unit.TheVariants as unit
use Rattle.act_sched.specs.declared.schedule.Schedule.{Schedule}

-- ---- the dates of a cycle

-- a cycle, where it is given, leads on: its period has at least one unit
abbrev pub LeadsOn : Option Cycle → Type 0
LeadsOn cycle = ForSome cycle (λ c. 1 ≤ c.count)

-- the unit is a number of months
abbrev pub is_in_months : Unit → Bool
is_in_months unit.D = false
is_in_months unit.W = false
is_in_months unit.M = true
is_in_months unit.Q = true
is_in_months unit.H = true
is_in_months unit.Y = true

-- by end of month, where the cycle is in months and the anchor is the last day of its month, so are all dates
abbrev pub keeps_month_ends : MonthRule → ℤ → Unit → Bool
keeps_month_ends Sd anchor unit = false
keeps_month_ends Eom anchor unit = is_in_months unit && int_eq (month_end_of anchor) anchor

-- the day itself, or the last day of its month
abbrev pub moved : Bool → ℤ → ℤ
moved false day = day
moved true day = month_end_of day

-- the kth date of the cycle: the day k cycles after the anchor, moved by the rule; None past 2299
unfoldable pub cycle_date : ℤ → Cycle → MonthRule → ℕ → Option ℤ
cycle_date anchor cycle rule k = option_map (moved (keeps_month_ends rule anchor cycle.unit)) (plus_cycles anchor cycle k)

-- ---- the list of a schedule's dates

-- the day, where it is before the end
abbrev pub if_before : ℤ → Option ℤ → Option ℤ
if_before end None = None
if_before end (Some day) = if int_lt day end then Some day else None

-- the days of a sequence from its kth on, which is this day, as far as there are any, and n at most
unfoldable pub days_from : (ℕ → Option ℤ) → ℕ → ℕ → Option ℤ → List ℤ
days_from days zero k day = []
days_from days (suc n) k None = []
days_from days (suc n) k (Some day) = day ∷ days_from days n (suc k) (days (suc k))

-- the dates of the cycle before the end; there are no more of them than days from the anchor to it
unfoldable pub dates_before : ℤ → Cycle → ℤ → MonthRule → List ℤ
dates_before anchor cycle end rule =
    let dates = λ (k : ℕ). if_before end (cycle_date anchor cycle rule k) in
    days_from dates (unsigned_abs (end -ℤ anchor)) 0 (dates 0)

-- the last period is a long stub: the stub is long, and the cycle's date that comes next is not the end
abbrev pub is_long_stub : Stub → Option ℤ → ℤ → Bool
is_long_stub Short next end = false
is_long_stub Long None end = true
is_long_stub Long (Some next) end = not (int_eq next end)

-- the dates before the end; a long stub leaves out the last of the cycle's, unless it is the first too
abbrev pub earlier_dates : ℤ → Option Cycle → ℤ → MonthRule → List ℤ
earlier_dates anchor None end rule = if int_lt anchor end then anchor ∷ [] else []
earlier_dates anchor (Some cycle) end rule =
    let dates = dates_before anchor cycle end rule in
    if is_long_stub cycle.stub (cycle_date anchor cycle rule (length dates)) end then take (max 1 (length dates - 1)) dates else dates

-- the dates of the schedule, with the end as the last; none without an anchor, or where that is after the end
unfoldable pub schedule_dates : Option ℤ → Option Cycle → ℤ → MonthRule → List ℤ
schedule_dates None cycle end rule = []
schedule_dates (Some anchor) cycle end rule = if int_le anchor end then earlier_dates anchor cycle end rule ++ end ∷ [] else []

-- the dates of a schedule, by what they follow from
abbrev pub dates_of : Schedule → List ℤ
dates_of s = schedule_dates s.anchor s.cycle s.end s.rule

-- the dates after a day, where one is given
abbrev pub later_dates : Option ℤ → List ℤ → List ℤ
later_dates None dates = dates
later_dates (Some day) dates = filter (λ d. int_lt day d) dates

-- the latest of a first day and of those dates that aren't after a day and, where another is given, are after that
abbrev pub latest_in : ℤ → Option ℤ → ℤ → List ℤ → ℤ
latest_in until after first dates = fold int_max first (filter (λ d. int_le d until) (later_dates after dates))

-- the dates but for a day
abbrev pub dates_but_for : ℤ → List ℤ → List ℤ
dates_but_for day dates = filter (λ d. not (int_eq d day)) dates

-- ---- which days are dates of a schedule

-- the day is a date of the cycle
abbrev pub IsCycleDate : ℤ → Cycle → MonthRule → ℤ → Type 0
IsCycleDate anchor cycle rule day = (k : ℕ) × (cycle_date anchor cycle rule k ≡ Some day)

-- a long last stub leaves out the day: the end is no date of the cycle, and the day is the greatest before it, but not the first
pub record IsLeftOut (anchor : ℤ) (cycle : Cycle) (end : ℤ) (rule : MonthRule) (day : ℤ) : Type 0 where
  pub long : cycle.stub ≡ Long
  pub stub : ¬ (IsCycleDate anchor cycle rule end)
  pub before : day <ℤ end
  pub later : (k : ℕ) × (0 < k) × (cycle_date anchor cycle rule k ≡ Some day)
  pub greatest : (other : ℤ) → IsCycleDate anchor cycle rule other → other <ℤ end → other ≤ℤ day

-- the day is the anchor, or with a cycle a date of it before the end that isn't left out
abbrev pub IsEarlierDate : ℤ → Option Cycle → ℤ → MonthRule → ℤ → Type 0
IsEarlierDate anchor None end rule day = day ≡ anchor
IsEarlierDate anchor (Some cycle) end rule day =
    IsCycleDate anchor cycle rule day × (day <ℤ end) × ¬ (IsLeftOut anchor cycle end rule day)

-- the day is a date of the schedule
abbrev pub IsScheduleDate : Option ℤ → Option Cycle → ℤ → MonthRule → ℤ → Type 0
IsScheduleDate None cycle end rule day = ⊥
IsScheduleDate (Some anchor) cycle end rule day = (anchor ≤ℤ end) × ((day ≡ end) ⊎ IsEarlierDate anchor cycle end rule day)
