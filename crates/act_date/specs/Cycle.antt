-- Cycles, counted from an anchor. ACTUS cycles; the range is this profile's own.
use Rattle.std.specs.Prelude.{◌≡◌, ℕ, ◌+◌, ◌-◌, ◌*◌, ◌/◌, ◌%◌, min, nat_le, if◌then◌else◌, ℤ, pos, ◌+ℤ◌, ◌<ℤ◌, Option, Some, None, ⊤}
use Rattle.act_date.specs.declared.cycle.Cycle.{Cycle}
use Rattle.act_date.specs.declared.cycle.Unit.{Unit}
use Rattle.act_date.specs.declared.cycle.Unit.TheVariants as unit
use Rattle.act_date.specs.Civil.{Civil, IsDateOf, IsDay, day_in_range, civil_of, day_number, month_length}

-- what a cycle's units come to: days, or months
pub data Span : Type 0 where
  days : ℕ → Span
  months : ℕ → Span

-- n units
abbrev pub span_of : Unit → ℕ → Span
span_of unit.D n = days n
span_of unit.W n = days (7 * n)
span_of unit.M n = months n
span_of unit.Q n = months (3 * n)
span_of unit.H n = months (6 * n)
span_of unit.Y n = months (12 * n)

-- the date n months later: the same day of the month, or the last day of a shorter month
abbrev pub months_later : Civil → ℕ → Civil
months_later date n =
    let month = 12 * date.year + (date.month - 1) + n in
    record { year = month / 12; month = month % 12 + 1; day = min date.day (month_length (month / 12) (month % 12 + 1)) }

-- a day of the engine, with the months from the year 0 to the month of its date, and the date's day of the month
pub record IsAnchor (day : ℤ) (months day_of_month : ℕ) : Type 0 where
  pub in_range : IsDay day
  pub date : IsDateOf day (civil_of day)
  pub months_are : months ≡ 12 * (civil_of day).year + ((civil_of day).month - 1)
  pub day_is : day_of_month ≡ (civil_of day).day

-- the day number of a date, where its year is at most 2299
abbrev pub day_number_in_range : Civil → Option ℤ
day_number_in_range date = if nat_le date.year 2299 then Some (day_number date) else None

-- the day after a span, where it is a day of the engine
abbrev pub day_after : ℤ → Span → Option ℤ
day_after day (days n) = day_in_range (day +ℤ pos n)
day_after day (months n) = day_number_in_range (months_later (civil_of day) n)

-- the day that k cycles lead to, counted from the day
unfoldable pub plus_cycles : ℤ → Cycle → ℕ → Option ℤ
plus_cycles day cycle k = day_after day (span_of cycle.unit (cycle.count * k))

-- a later day, or past 2299; what comes after a day past 2299 is past it too
abbrev pub ComesAfter : Option ℤ → Option ℤ → Type 0
ComesAfter None earlier = ⊤
ComesAfter (Some later) None = ⊥
ComesAfter (Some later) (Some earlier) = earlier <ℤ later
