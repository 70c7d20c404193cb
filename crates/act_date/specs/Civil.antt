-- The civil calendar from 1900 to 2299, by plain month lengths and leap years.
use Rattle.std.specs.Prelude.{◌≡◌, ℕ, zero, suc, ◌+◌, ◌-◌, ◌%◌, ◌≤◌, ◌&&◌, ◌||◌, ◌==◌, not, nat_lt, if◌then◌else◌, Bool, true, ℤ, pos, negsuc, ◌+ℤ◌, ◌-ℤ◌, ◌≤ℤ◌, unsigned_abs, int_le, Option, Some, None}
use Rattle.act_date.specs.declared.calendar.Calendar.{Calendar}
use Rattle.act_date.specs.declared.calendar.Calendar.TheVariants.{Nc, Mf}

-- 1900-01-01 and 2299-12-31, as days from 1970-01-01
abbrev pub first_day : ℤ
first_day = negsuc 25566

abbrev pub last_day : ℤ
last_day = pos 120529

-- a day of the engine
abbrev pub IsDay : ℤ → Type 0
IsDay day = (first_day ≤ℤ day) × (day ≤ℤ last_day)

-- the number, where it is a day of the engine
abbrev pub day_in_range : ℤ → Option ℤ
day_in_range day = if int_le first_day day && int_le day last_day then Some day else None

-- a date of the calendar: year, month from 1 and day of the month from 1
pub record Civil : Type 0 where
  pub year : ℕ
  pub month : ℕ
  pub day : ℕ

-- every fourth year, but of the centuries only every fourth
abbrev pub is_leap : ℕ → Bool
is_leap year = (year % 4 == 0) && (not (year % 100 == 0) || (year % 400 == 0))

abbrev pub year_length : ℕ → ℕ
year_length year = if is_leap year then 366 else 365

-- thirty days have September, April, June and November
abbrev pub month_length : ℕ → ℕ → ℕ
month_length year month =
    if month == 2 then (if is_leap year then 29 else 28)
    else (if (month == 4) || (month == 6) || (month == 9) || (month == 11) then 30 else 31)

-- the calendar has this date
pub record IsCivil (date : Civil) : Type 0 where
  pub month_from : 1 ≤ date.month
  pub month_to : date.month ≤ 12
  pub day_from : 1 ≤ date.day
  pub day_to : date.day ≤ month_length date.year date.month

-- the days of the first n years from 1900 on
unfoldable pub days_of_years : ℕ → ℕ
days_of_years zero = 0
days_of_years (suc n) = days_of_years n + year_length (1900 + n)

-- the days of the first n months of a year
unfoldable pub days_of_months : ℕ → ℕ → ℕ
days_of_months year zero = 0
days_of_months year (suc n) = days_of_months year n + month_length year (suc n)

-- the day number of a date from 1900 on: 1900-01-01 is 25567 days before 1970-01-01
unfoldable pub day_number : Civil → ℤ
day_number date =
    pos (days_of_years (date.year - 1900) + days_of_months date.year (date.month - 1) + (date.day - 1)) -ℤ pos 25567

-- the date n days after the first of a month; the first argument counts the later months of its year. Whole months are taken off first
unfoldable pub date_from_month : ℕ → ℕ → ℕ → ℕ → Civil
date_from_month zero year month n = record { year = year; month = month; day = n + 1 }
date_from_month (suc later) year month n =
    if nat_lt n (month_length year month) then record { year = year; month = month; day = n + 1 }
    else date_from_month later year (month + 1) (n - month_length year month)

-- the date n days after 1 January of a year; the first argument counts the later years up to 2299. Whole years are taken off first
unfoldable pub date_from_year : ℕ → ℕ → ℕ → Civil
date_from_year zero year n = date_from_month 11 year 1 n
date_from_year (suc later) year n =
    if nat_lt n (year_length year) then date_from_month 11 year 1 n
    else date_from_year later (year + 1) (n - year_length year)

-- the date of a day number
unfoldable pub civil_of : ℤ → Civil
civil_of day = date_from_year 399 1900 (unsigned_abs (day +ℤ pos 25567))

-- the calendar has the date, from 1900 to 2299, and its day number is the day
pub record IsDateOf (day : ℤ) (date : Civil) : Type 0 where
  pub valid : IsCivil date
  pub year_from : 1900 ≤ date.year
  pub year_to : date.year ≤ 2299
  pub number : day_number date ≡ day

-- the date is the last day of its month
abbrev pub is_month_end : Civil → Bool
is_month_end date = date.day == month_length date.year date.month

-- the last day of the day's month
abbrev pub month_end_of : ℤ → ℤ
month_end_of day =
    let date = civil_of day in
    day_number (record { year = date.year; month = date.month; day = month_length date.year date.month })

-- 1 for Monday to 7 for Sunday; 1900-01-01 was a Monday
abbrev pub weekday_of : ℤ → ℕ
weekday_of day = unsigned_abs (day +ℤ pos 25567) % 7 + 1

-- the calendar's business days: every day, or Monday to Friday
abbrev pub is_business : Calendar → ℤ → Bool
is_business Nc day = true
is_business Mf day = nat_lt (weekday_of day) 6
