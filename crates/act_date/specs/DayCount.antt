-- Day counts: the fraction of a year from a first day s to a second day t. ACTUS day count conventions; B252 is this profile's own.
use Rattle.std.specs.Prelude.{ℕ, zero, suc, ◌+◌, ◌-◌, ◌*◌, min, ◌&&◌, ◌==◌, not, if◌then◌else◌, Bool, false, ℤ, pos, ◌+ℤ◌, ◌-ℤ◌, unsigned_abs, int_le, Option, Some, None}
use Rattle.std.specs.Ordering.{int_eq}
use Rattle.act_date.specs.declared.calendar.Calendar.{Calendar}
use Rattle.act_date.specs.declared.day_count.DayCount.{DayCount}
use Rattle.act_date.specs.declared.day_count.DayCount.TheVariants.{Aa, A360, A365, E30, E30Isda, B252}
use Rattle.act_date.specs.Civil.{Civil, civil_of, is_leap, is_month_end, is_business}
use Rattle.act_date.specs.Fraction.{Fraction}

-- how many of the n days from s on pass the test
unfoldable pub count_days : (ℤ → Bool) → ℤ → ℕ → ℕ
count_days test s zero = 0
count_days test s (suc n) = count_days test s n + (if test (s +ℤ pos n) then 1 else 0)

-- how many days lie from s inclusive to t exclusive, where t is after s
abbrev pub days_between : ℤ → ℤ → ℕ
days_between s t = unsigned_abs (t -ℤ s)

-- the day lies in a leap year
abbrev pub in_leap_year : ℤ → Bool
in_leap_year day = is_leap (civil_of day).year

-- 360 days a year, 30 a month and the day that each date counts as, from s to a later t
abbrev pub thirty_days : Civil → ℕ → Civil → ℕ → ℕ
thirty_days s day_s t day_t = 360 * t.year + 30 * t.month + day_t - (360 * s.year + 30 * s.month + day_s)

-- in 30E360ISDA a last day of a month counts as the 30th
abbrev pub isda_day : Civil → ℕ
isda_day date = if is_month_end date then 30 else date.day

-- t is the maturity date and lies in February
abbrev pub is_maturity_in_february : ℤ → Option ℤ → Bool
is_maturity_in_february t None = false
is_maturity_in_february t (Some maturity) = int_eq t maturity && ((civil_of t).month == 2)

-- the second day keeps its day of the month there
abbrev pub isda_second_day : ℤ → Option ℤ → ℕ
isda_second_day t maturity = if is_maturity_in_february t maturity then (civil_of t).day else isda_day (civil_of t)

-- the numerator, where t is after s; E30 is 30E360, and E30Isda 30E360ISDA
abbrev pub numerator : DayCount → Calendar → ℤ → ℤ → Option ℤ → ℕ
numerator A360 calendar s t maturity = days_between s t
numerator A365 calendar s t maturity = days_between s t
numerator Aa calendar s t maturity =
    366 * count_days (λ day. not (in_leap_year day)) s (days_between s t) + 365 * count_days in_leap_year s (days_between s t)
numerator E30 calendar s t maturity = thirty_days (civil_of s) (min (civil_of s).day 30) (civil_of t) (min (civil_of t).day 30)
numerator E30Isda calendar s t maturity = thirty_days (civil_of s) (isda_day (civil_of s)) (civil_of t) (isda_second_day t maturity)
numerator B252 calendar s t maturity = count_days (is_business calendar) s (days_between s t)

-- the denominator; 133590 is 365 * 366
abbrev pub denominator : DayCount → ℕ
denominator A360 = 360
denominator A365 = 365
denominator Aa = 133590
denominator E30 = 360
denominator E30Isda = 360
denominator B252 = 252

-- the fraction of a year from s to t, 0 where t is not after s
unfoldable pub year_fraction : DayCount → Calendar → ℤ → ℤ → Option ℤ → Fraction
year_fraction count calendar s t maturity =
    record { num = if int_le t s then 0 else numerator count calendar s t maturity; den = denominator count }
