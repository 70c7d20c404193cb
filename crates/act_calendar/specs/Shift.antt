-- Shifts of scheduled days to business days. ACTUS business day conventions.
use Rattle.std.specs.Prelude.{◌≡◌, ◌-◌, ◌&&◌, ◌==◌, if◌then◌else◌, Bool, true, false, IsTrue, ℤ, pos, ◌+ℤ◌, ◌-ℤ◌, ◌≤ℤ◌, ◌<ℤ◌, ◌⊎◌, Option, is_some, option_map}
use Rattle.act_date.specs.declared.calendar.Calendar.{Calendar}
use Rattle.act_date.specs.declared.calendar.Convention.{Convention}
use Rattle.act_date.specs.declared.calendar.Convention.TheVariants.{Nos, Scf, Scmf, Csf, Csmf, Scp, Scmp, Csp, Csmp}
use Rattle.act_date.specs.Civil.{IsDay, last_day, day_in_range, civil_of, weekday_of, is_business}
use Rattle.act_calendar.specs.declared.shifting.Shifted.{Shifted}

-- ---- what a shift is

-- f is the least business day that isn't before the day
pub record IsFollowing (calendar : Calendar) (day f : ℤ) : Type 0 where
  pub not_before : day ≤ℤ f
  pub business : IsTrue (is_business calendar f)
  pub least : (d : ℤ) → day ≤ℤ d → IsTrue (is_business calendar d) → f ≤ℤ d

-- p is the greatest business day that isn't after the day
pub record IsPreceding (calendar : Calendar) (day p : ℤ) : Type 0 where
  pub not_after : p ≤ℤ day
  pub business : IsTrue (is_business calendar p)
  pub greatest : (d : ℤ) → d ≤ℤ day → IsTrue (is_business calendar d) → d ≤ℤ p

-- d lies in the month of the day, and not past 2299
pub record IsInMonth (day d : ℤ) : Type 0 where
  pub in_range : IsDay d
  pub year : (civil_of d).year ≡ (civil_of day).year
  pub month : (civil_of d).month ≡ (civil_of day).month

-- the shifted day is the one where that lies in the month of the day, and else the other
abbrev pub IsModified : ℤ → ℤ → ℤ → ℤ → Type 0
IsModified day one other shifted =
    (IsInMonth day one × (shifted ≡ one)) ⊎ ((¬ (IsInMonth day one)) × (shifted ≡ other))

-- what a convention shifts a day to, of which f is the following business day and p the preceding one
abbrev pub IsShiftedDay : Convention → ℤ → ℤ → ℤ → ℤ → Type 0
IsShiftedDay Nos day f p shifted = shifted ≡ day
IsShiftedDay Scf day f p shifted = shifted ≡ f
IsShiftedDay Csf day f p shifted = shifted ≡ f
IsShiftedDay Scp day f p shifted = shifted ≡ p
IsShiftedDay Csp day f p shifted = shifted ≡ p
IsShiftedDay Scmf day f p shifted = IsModified day f p shifted
IsShiftedDay Csmf day f p shifted = IsModified day f p shifted
IsShiftedDay Scmp day f p shifted = IsModified day p f shifted
IsShiftedDay Csmp day f p shifted = IsModified day p f shifted

-- the day that amounts are calculated for: the shifted one where the shift comes first, and else the scheduled one
abbrev pub calculation_day : Convention → ℤ → ℤ → ℤ
calculation_day Scf day shifted = shifted
calculation_day Scmf day shifted = shifted
calculation_day Scp day shifted = shifted
calculation_day Scmp day shifted = shifted
calculation_day convention day shifted = day

-- the convention is a modified one
abbrev pub is_modified : Convention → Bool
is_modified Scmf = true
is_modified Csmf = true
is_modified Scmp = true
is_modified Csmp = true
is_modified convention = false

-- what a convention makes of a scheduled day
pub record IsShifted (convention : Convention) (calendar : Calendar) (scheduled : ℤ) (shifted : Shifted) : Type 0 where
  pub following : ℤ
  pub preceding : ℤ
  pub is_following : IsFollowing calendar scheduled following
  pub is_preceding : IsPreceding calendar scheduled preceding
  pub day : IsShiftedDay convention scheduled following preceding shifted.day
  pub calc : shifted.calc ≡ calculation_day convention scheduled shifted.day

-- it shifts the day past 2299
pub record IsShiftedPast (convention : Convention) (calendar : Calendar) (day : ℤ) : Type 0 where
  pub shifted : Shifted
  pub is_shifted : IsShifted convention calendar day shifted
  pub past : last_day <ℤ shifted.day

-- ---- the same, computed

-- the day, or the Monday after it where it isn't a business day
unfoldable pub following_day : Calendar → ℤ → ℤ
following_day calendar day = if is_business calendar day then day else day +ℤ pos (8 - weekday_of day)

-- the day, or the Friday before it
unfoldable pub preceding_day : Calendar → ℤ → ℤ
preceding_day calendar day = if is_business calendar day then day else day -ℤ pos (weekday_of day - 5)

-- d lies in the month of the day
unfoldable pub is_in_month : ℤ → ℤ → Bool
is_in_month day d =
    is_some (day_in_range d) && ((civil_of d).year == (civil_of day).year) && ((civil_of d).month == (civil_of day).month)

-- the one where it lies in the month of the day, and else the other
abbrev pub modified_day : ℤ → ℤ → ℤ → ℤ
modified_day day one other = if is_in_month day one then one else other

-- what a convention shifts a day to, of which f is the following business day and p the preceding one
abbrev pub shifted_day : Convention → ℤ → ℤ → ℤ → ℤ
shifted_day Nos day f p = day
shifted_day Scf day f p = f
shifted_day Csf day f p = f
shifted_day Scp day f p = p
shifted_day Csp day f p = p
shifted_day Scmf day f p = modified_day day f p
shifted_day Csmf day f p = modified_day day f p
shifted_day Scmp day f p = modified_day day p f
shifted_day Csmp day f p = modified_day day p f

-- the shifted day and the day that amounts are calculated for, or None where the shift leads past 2299
unfoldable pub shift_of : Convention → Calendar → ℤ → Option Shifted
shift_of convention calendar day =
    option_map (λ shifted. record { day = shifted; calc = calculation_day convention day shifted })
    (day_in_range (shifted_day convention day (following_day calendar day) (preceding_day calendar day)))
