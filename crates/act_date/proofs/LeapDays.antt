-- How many days from 1900 on lie in leap years.
use Rattle.std.proofs.Common.{◌≡◌, ℕ, zero, suc, ◌+◌, ◌-◌, ◌*◌, ◌/◌, ◌<◌, ◌≤◌, if◌then◌else◌, ℤ, pos, negsuc, ◌+ℤ◌, unsigned_abs, refl, ◌∙◌, arith}
use Rattle.std.proofs.lemmas.Bool.Decides.{nat_tests}
use Rattle.jiff_core.specs.Calendar.{day_of_year}
use Rattle.jiff_core.proofs.SignedLemmas.{signed_arith, one_part}
use Rattle.act_date.specs.Civil.{Civil, IsDateOf, is_leap, year_length, days_of_years, days_of_months, day_number, civil_of}
use Rattle.act_date.specs.DayCount.{count_days, in_leap_year}
use Rattle.act_date.proofs.CivilLemmas.{months_same, place_in_year, year_of-place}

-- the days of a leap year among its first j
abbrev leap_part : ℕ → ℕ → ℕ
leap_part year j = if is_leap year then j else 0

leap_part-suc : (year j : ℕ) → leap_part year j + leap_part year 1 ≡ leap_part year (suc j)
leap_part-suc year j = grind arith

-- a year's days are counted one after the other
pub count_days-year : (n j : ℕ) → n < 400 → j ≤ year_length (1900 + n) → count_days in_leap_year (negsuc 25566) (days_of_years n + j) ≡ count_days in_leap_year (negsuc 25566) (days_of_years n) + leap_part (1900 + n) j
unfolding count_days
count_days-year n zero lt h = let z : days_of_years n + 0 ≡ days_of_years n = omega arith in rw z (grind arith)
count_days-year n (suc j) lt h =
    let z : days_of_years n + suc j ≡ suc (days_of_years n + j) = omega arith in
    let year : (civil_of (negsuc 25566 +ℤ pos (days_of_years n + j))).year ≡ 1900 + n = year_of-place n j lt (omega arith) in
    rw (z, year) (omega (arith, count_days-year n j lt (omega arith), leap_part-suc (1900 + n) j))

-- how many of the first n years from 1900 on are leap years
abbrev pub leap_years : ℕ → ℕ
leap_years n = (1899 + n) / 4 - (1899 + n) / 100 + (1899 + n) / 400 - 460

leap_years-suc : (n : ℕ) → leap_years (suc n) ≡ leap_years n + (if is_leap (1900 + n) then 1 else 0)
leap_years-suc n = grind (arith, nat_tests)

whole_year : (year k : ℕ) → 366 * k + leap_part year (year_length year) ≡ 366 * (k + (if is_leap year then 1 else 0))
whole_year year k = grind arith

-- their days are 366 for each
pub count_days-years : (n : ℕ) → n ≤ 400 → count_days in_leap_year (negsuc 25566) (days_of_years n) ≡ 366 * leap_years n
unfolding days_of_years
count_days-years zero h = unfold count_days in refl
count_days-years (suc n) h =
    rw leap_years-suc (count_days-year n (year_length (1900 + n)) (omega arith) (omega arith) ∙ rw (count_days-years n (omega arith)) (whole_year (1900 + n) (leap_years n)))

-- those before a date are the days of the leap years before, and its place in the year where that is a leap year
pub leap_days-date : (date : Civil) (day : ℤ) → IsDateOf day date → count_days in_leap_year (negsuc 25566) (unsigned_abs (day +ℤ pos 25567)) ≡ count_days in_leap_year (negsuc 25566) (days_of_years (date.year - 1900)) + leap_part date.year (day_of_year (pos date.year) date.month date.day - 1)
unfolding day_number
leap_days-date date day h =
    let place = days_of_months date.year (date.month - 1) + (date.day - 1) in
    let year : 1900 + (date.year - 1900) ≡ date.year = omega (arith, h) in
    let same : day_of_year (pos date.year) date.month date.day - 1 ≡ place = omega (arith, h.valid, months_same date.year (date.month - 1)) in
    let number : unsigned_abs (day +ℤ pos 25567) ≡ days_of_years (date.year - 1900) + place = omega (arith, signed_arith, h.number, one_part (day +ℤ pos 25567)) in
    let inside : place < year_length date.year = place_in_year date h.valid (omega (arith, h)) in
    let count = rw year at (count_days-year (date.year - 1900) place (omega (arith, h)) (rw year (omega arith))) in
    rw (number, same) count
