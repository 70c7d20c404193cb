-- Day numbers and dates name each other, and agree with jiff's.
use Rattle.std.proofs.Common.{◌≡◌, ℕ, zero, suc, ◌+◌, ◌-◌, ◌<◌, ◌≤◌, nat_lt, nat_le, ◌&&◌, Bool, Some, None, inl, inr, true, false, if◌then◌else◌, ℤ, pos, negsuc, ◌+ℤ◌, ◌-ℤ◌, ◌≤ℤ◌, unsigned_abs, refl, sym, ap, subst, ◌∙◌, arith}
use Rattle.std.proofs.lemmas.Bool.{cases_lt}
use Rattle.std.proofs.lemmas.Bool.Decides.{nat_tests}
use Rattle.std.proofs.lemmas.Int.{by_lt_z, ints}
use Rattle.jiff_core.specs.declared.civil.date.Date.{Date}
use Rattle.jiff_core.specs.Calendar.{days_in_month, days_of_years as days_from_start, days_of_months as months_of, day_count, days_from_civil, IsCivilDate}
use Rattle.jiff_core.specs.Date.{epoch_day, IsYmd}
use Rattle.jiff_core.proofs.SignedLemmas.{signed_arith, one_part}
use Rattle.jiff_core.proofs.CalendarLemmas.{days_from_civil-day_count, day_count-lt_year, day_count-later_year, day_count-next_year, day_count-day_of_year, day_of_year_bound}
use Rattle.jiff_core.proofs.MarchLemmas.{day_count-early}
use Rattle.jiff_core.proofs.DateLemmas.{civil}
use Rattle.act_date.specs.JiffDate.{IsSameDate}
use Rattle.act_date.specs.Civil.{Civil, IsCivil, IsDay, IsDateOf, day_in_range, year_length, month_length, days_of_years, days_of_months, day_number, date_from_month, date_from_year, civil_of, month_end_of}

pub if_true : {A : Type 0} (t : Bool) (a b : A) → t ≡ true → (if t then a else b) ≡ a
if_true true a b e = refl
if_true false a b e = cc

pub if_false : {A : Type 0} (t : Bool) (a b : A) → t ≡ false → (if t then a else b) ≡ b
if_false true a b e = cc
if_false false a b e = refl

not_below : (a b : ℕ) → b ≤ a → nat_lt a b ≡ false
not_below a b h = grind (arith, nat_tests)

below : (a b : ℕ) → a < b → nat_lt a b ≡ true
below a b h = grind (arith, nat_tests)

-- taking k years off, one after the other
years_off : (k later n : ℕ) → days_of_years k ≤ n → date_from_year (later + k) 1900 n ≡ date_from_year later (1900 + k) (n - days_of_years k)
unfolding days_of_years date_from_year
years_off zero later n h = let z : later + 0 ≡ later = omega arith in let m : n - 0 ≡ n = omega arith in rw (z, m) refl
years_off (suc k) later n h =
    let z : later + suc k ≡ suc later + k = omega arith in
    let ih = years_off k (suc later) n (omega arith) in
    let long : year_length (1900 + k) ≤ n - days_of_years k = omega arith in
    let e : n - days_of_years k - year_length (1900 + k) ≡ n - (days_of_years k + year_length (1900 + k)) = omega arith in
    let y : 1900 + k + 1 ≡ 1900 + suc k = omega arith in
    rw z (ih ∙ if_false _ _ _ (not_below _ _ long) ∙ rw (e, y) refl)

-- taking k months off
months_off : (k later year n : ℕ) → days_of_months year k ≤ n → date_from_month (later + k) year 1 n ≡ date_from_month later year (suc k) (n - days_of_months year k)
unfolding days_of_months date_from_month
months_off zero later year n h = let z : later + 0 ≡ later = omega arith in let m : n - 0 ≡ n = omega arith in rw (z, m) refl
months_off (suc k) later year n h =
    let z : later + suc k ≡ suc later + k = omega arith in
    let ih = months_off k (suc later) year n (omega arith) in
    let long : month_length year (suc k) ≤ n - days_of_months year k = omega arith in
    let e : n - days_of_months year k - month_length year (suc k) ≡ n - (days_of_months year k + month_length year (suc k)) = omega arith in
    let y : suc k + 1 ≡ suc (suc k) = omega arith in
    rw z (ih ∙ if_false _ _ _ (not_below _ _ long) ∙ rw (e, y) refl)

within_month : (later year month n : ℕ) → n < month_length year month → date_from_month later year month n ≡ record { year = year; month = month; day = n + 1 }
unfolding date_from_month
within_month zero year month n h = refl
within_month (suc later) year month n h = if_true _ _ _ (below _ _ h)

within_year : (later year n : ℕ) → n < year_length year → date_from_year later year n ≡ date_from_month 11 year 1 n
unfolding date_from_year
within_year zero year n h = refl
within_year (suc later) year n h = if_true _ _ _ (below _ _ h)

-- the first months of a year are as long as jiff's
pub months_same : (year n : ℕ) → days_of_months year n ≡ months_of (pos year) n
unfolding days_of_months months_of
months_same year zero = refl
months_same year (suc n) = ap (λ k. k + month_length year (suc n)) (months_same year n)

-- the years from 1900 on too
years_same : (n : ℕ) → days_from_start (n + 11900) ≡ days_from_start 11900 + days_of_years n
unfolding days_of_years days_from_start
years_same zero = omega arith
years_same (suc n) =
    let s : suc n + 11900 ≡ suc (n + 11900) = omega arith in
    let y : pos (n + 11900) -ℤ pos 10000 ≡ pos (1900 + n) = omega (arith, signed_arith) in
    rw s (rw y (omega (arith, years_same n)))

-- a date lies among the days of its year
pub place_in_year : (date : Civil) → IsCivil date → date.year ≤ 9999 → days_of_months date.year (date.month - 1) + (date.day - 1) < year_length date.year
place_in_year date h le =
    let b = day_of_year_bound (pos date.year) date.month date.day ((omega (arith, signed_arith), omega (arith, signed_arith)), (h.month_from, h.month_to), (h.day_from, h.day_to)) in
    omega (arith, months_same date.year (date.month - 1), h.day_from)

-- a day of a year from 1900 on is found by its place among the days from 1900-01-01
pub civil_of-parts : (n m d : ℕ) (day : ℤ) → n < 400 → IsCivil (record { year = 1900 + n; month = m; day = d }) → day +ℤ pos 25567 ≡ pos (days_of_years n + days_of_months (1900 + n) (m - 1) + (d - 1)) → civil_of day ≡ record { year = 1900 + n; month = m; day = d }
unfolding civil_of
civil_of-parts n m d day lt h e =
    let inside = place_in_year _ h (omega arith) in
    let later : 399 - n + n ≡ 399 = omega arith in
    let month : 12 - m + (m - 1) ≡ 11 = omega (arith, h) in
    let this : suc (m - 1) ≡ m = omega (arith, h) in
    let last : d - 1 + 1 ≡ d = omega (arith, h) in
    let years = rw later at (years_off n (399 - n) (days_of_years n + days_of_months (1900 + n) (m - 1) + (d - 1)) (omega arith)) in
    let rest : days_of_years n + days_of_months (1900 + n) (m - 1) + (d - 1) - days_of_years n ≡ days_of_months (1900 + n) (m - 1) + (d - 1) = omega arith in
    let months = rw (month, this) at (months_off (m - 1) (12 - m) (1900 + n) (days_of_months (1900 + n) (m - 1) + (d - 1)) (omega arith)) in
    let rest_of_month : days_of_months (1900 + n) (m - 1) + (d - 1) - days_of_months (1900 + n) (m - 1) ≡ d - 1 = omega arith in
    rw e (years ∙ rw rest (within_year (399 - n) (1900 + n) _ inside ∙ months ∙ rw rest_of_month (within_month (12 - m) (1900 + n) m (d - 1) (omega (arith, h)) ∙ rw last refl)))

date_from_month-year : (later year month n : ℕ) → (date_from_month later year month n).year ≡ year
unfolding date_from_month
date_from_month-year zero year month n = refl
date_from_month-year (suc later) year month n = elim (cases_lt n (month_length year month)) [
  | inl lt ↦ ap (λ (date : Civil). date.year) (if_true _ _ _ (below _ _ lt))
  | inr le ↦ ap (λ (date : Civil). date.year) (if_false _ _ _ (not_below _ _ le)) ∙ date_from_month-year later year (month + 1) (n - month_length year month)
]

-- the year of the jth day of the nth year from 1900 on
pub year_of-place : (n j : ℕ) → n < 400 → j < year_length (1900 + n) → (civil_of (negsuc 25566 +ℤ pos (days_of_years n + j))).year ≡ 1900 + n
unfolding civil_of
year_of-place n j lt h =
    let later : 399 - n + n ≡ 399 = omega arith in
    let rest : days_of_years n + j - days_of_years n ≡ j = omega arith in
    let years = rw (later, rest) at (years_off n (399 - n) (days_of_years n + j) (omega arith)) in
    let place : unsigned_abs (negsuc 25566 +ℤ pos (days_of_years n + j) +ℤ pos 25567) ≡ days_of_years n + j = omega (arith, signed_arith, one_part (negsuc 25566 +ℤ pos (days_of_years n + j) +ℤ pos 25567)) in
    rw place (ap (λ (date : Civil). date.year) (years ∙ within_year (399 - n) (1900 + n) j h) ∙ date_from_month-year 11 (1900 + n) 1 j)

first_day : day_count (pos 1900) 1 1 ≡ 4_346_386
first_day = day_count-early (pos 1900) 11899 1 1 refl (omega arith) (omega arith) (omega arith)

past_day : day_count (pos 2300) 1 1 ≡ 4_492_483
past_day = day_count-early (pos 2300) 12299 1 1 refl (omega arith) (omega arith) (omega arith)

-- jiff's days up to 1900
before_1900 : days_from_start 11900 ≡ 4_346_386
unfolding day_count months_of
before_1900 = omega (arith, first_day)

-- a date from 1900 on has the same place in both counts
pub day_count-place : (n m d : ℕ) → 1 ≤ d → day_count (pos (1900 + n)) m d ≡ 4_346_386 + (days_of_years n + days_of_months (1900 + n) (m - 1) + (d - 1))
unfolding day_count
day_count-place n m d h =
    let y : 1900 + n + 10000 ≡ n + 11900 = omega arith in
    rw y (omega (arith, years_same n, before_1900, months_same (1900 + n) (m - 1)))

-- and the same day number
pub days_from_civil-day_number : (n m d : ℕ) → 1 ≤ d → days_from_civil (pos (1900 + n)) m d ≡ day_number (record { year = 1900 + n; month = m; day = d })
unfolding day_number
days_from_civil-day_number n m d h =
    let y : 1900 + n - 1900 ≡ n = omega arith in
    let place : days_from_civil (pos (1900 + n)) m d ≡ pos (days_of_years n + days_of_months (1900 + n) (m - 1) + (d - 1)) -ℤ pos 25567 =
    omega (arith, signed_arith, days_from_civil-day_count (pos (1900 + n)) m d, day_count-place n m d h) in
    place ∙ ap (λ k. pos (days_of_years k + days_of_months (1900 + n) (m - 1) + (d - 1)) -ℤ pos 25567) (sym y)

-- a date of the calendar lies in the range exactly where its year lies from 1900 to 2299
pub year_in_range : (y : ℤ) (m d : ℕ) → IsCivilDate y m d → IsDay (days_from_civil y m d) → (pos 1900 ≤ℤ y) × (y ≤ℤ pos 2299)
year_in_range y m d h in_range =
    let count = days_from_civil-day_count y m d in (
      by_lt_z y (pos 1900)
          (λ lt. absurd (omega (arith, signed_arith, first_day, day_count-lt_year y m d (pos 1900) 1 1 h (omega arith) lt)))
          (λ ge. ge),
      by_lt_z (pos 2299) y
          (λ lt. absurd (omega (arith, signed_arith, past_day, day_count-next_year (pos 2299) (pos 2300) (omega (arith, signed_arith)) refl, day_count-later_year (pos 2299) y (omega (arith, signed_arith)) lt, day_count-day_of_year y m d h.2.0, h.2.0)))
          (λ ge. ge),
    )

pub in_range_by_year : (y : ℤ) (m d : ℕ) → IsCivilDate y m d → pos 1900 ≤ℤ y → y ≤ℤ pos 2299 → IsDay (days_from_civil y m d)
in_range_by_year y m d h from to =
    let count = days_from_civil-day_count y m d in
    let high = day_count-lt_year y m d (pos 2300) 1 1 h (omega arith) (omega (arith, signed_arith)) in
    let low : 4_346_386 ≤ day_count y m d =
    by_lt_z (pos 1899) y
    (λ lt. omega (arith, signed_arith, first_day, day_count-next_year (pos 1899) (pos 1900) (omega (arith, signed_arith)) refl, day_count-later_year (pos 1899) y (omega (arith, signed_arith)) lt, day_count-day_of_year y m d h.2.0, h.2.0))
    (λ ge. absurd (omega (arith, signed_arith))) in
    (omega (arith, signed_arith), omega (arith, signed_arith, past_day))

pub in_range_some : (day : ℤ) → IsDay day → day_in_range day ≡ Some day
in_range_some day h = grind (arith, ints)

pub in_range_none : (day : ℤ) → ¬ (IsDay day) → day_in_range day ≡ None
in_range_none day h = grind (arith, ints)

pub in_years : (y : ℕ) → 1900 ≤ y → y ≤ 2299 → (nat_le 1900 y && nat_le y 2299) ≡ true
in_years y h k = grind (arith, nat_tests)

years_differ : (y : ℕ) → (nat_le 1900 y && nat_le y 2299) ≡ false → (pos 1900 ≤ℤ pos y) × (pos y ≤ℤ pos 2299) → ⊥
years_differ y e h = grind (arith, ints, nat_tests)

-- the day of a date, where its year is in range
pub day_in_range-date : (y m d : ℕ) → IsCivilDate (pos y) m d → day_in_range (days_from_civil (pos y) m d) ≡ (if nat_le 1900 y && nat_le y 2299 then Some (day_number (record { year = y; month = m; day = d })) else None)
day_in_range-date y m d h =
    let day = days_from_civil (pos y) m d in
    let outside : (nat_le 1900 y && nat_le y 2299) ≡ false → day_in_range day ≡ (if nat_le 1900 y && nat_le y 2299 then Some (day_number (record { year = y; month = m; day = d })) else None) = λ out.
    in_range_none day (λ k. years_differ y out (year_in_range (pos y) m d h k)) ∙ sym (if_false _ _ _ out) in
    elim (cases_lt y 1900) [
      | inl early ↦ outside (grind (arith, nat_tests))
      | inr from ↦ elim (cases_lt 2299 y) [
        | inl late ↦ outside (grind (arith, nat_tests))
        | inr to ↦
            let n : 1900 + (y - 1900) ≡ y = omega arith in
            let same : day ≡ day_number (record { year = y; month = m; day = d }) = rw n at (days_from_civil-day_number (y - 1900) m d h.2.0) in
            let inside : (nat_le 1900 y && nat_le y 2299) ≡ true = grind (arith, nat_tests) in
            in_range_some day (in_range_by_year (pos y) m d h (omega (arith, signed_arith)) (omega (arith, signed_arith))) ∙ ap Some same ∙ sym (if_true _ _ _ inside)
      ]
    ]

pub day_in_range-from_1900 : (y m d : ℕ) → IsCivilDate (pos y) m d → 1900 ≤ y → day_in_range (days_from_civil (pos y) m d) ≡ (if nat_le y 2299 then Some (day_number (record { year = y; month = m; day = d })) else None)
day_in_range-from_1900 y m d h from =
    let first : nat_le 1900 y ≡ true = grind (arith, nat_tests) in
    rw first at (day_in_range-date y m d h)

-- the date of a day is that of the jiff date with the same day number
pub civil_of-date : (d : Date) (day : ℤ) → epoch_day d ≡ day → IsDay day → IsSameDate (civil_of day) d × IsDateOf day (civil_of day)
civil_of-date d day e h =
    let y = year_in_range d.year d.month d.day (civil d) (rw e h) in
    let n = unsigned_abs d.year - 1900 in
    let year : d.year ≡ pos (1900 + n) = omega (arith, signed_arith, one_part d.year) in
    let day_in : d.day ≤ month_length (1900 + n) d.month = rw year at d.day_in.1 in
    let valid : IsCivil (record { year = 1900 + n; month = d.month; day = d.day }) = record { month_from = d.month_in.0; month_to = d.month_in.1; day_from = d.day_in.0; day_to = day_in } in
    let number : day_number (record { year = 1900 + n; month = d.month; day = d.day }) ≡ day = sym (days_from_civil-day_number n d.month d.day d.day_in.0) ∙ ap (λ k. days_from_civil k d.month d.day) (sym year) ∙ e in
    let count = days_from_civil-day_count d.year d.month d.day in
    let place = rw (← year) at (day_count-place n d.month d.day d.day_in.0) in
    let same = civil_of-parts n d.month d.day day (omega (arith, signed_arith)) valid (omega (arith, signed_arith)) in
    rw same (record { year = year; month = refl; day = refl }, record { valid = valid; year_from = omega arith; year_to = omega (arith, signed_arith); number = number })

-- a date of a year, behind so many days of it
record IsInYear (year n : ℕ) (date : Civil) : Type 0 where
  valid : IsCivil date
  same : date.year ≡ year
  place : days_of_months year (date.month - 1) + (date.day - 1) ≡ n

in_month : (year j n : ℕ) → j ≤ 11 → n < month_length year (suc j) → IsInYear year (days_of_months year j + n) (record { year = year; month = suc j; day = n + 1 })
in_month year j n h lt =
    let month : suc j - 1 ≡ j = omega arith in
    let day : n + 1 - 1 ≡ n = omega arith in
    record {
      valid = record { month_from = omega arith; month_to = omega arith; day_from = omega arith; day_to = omega arith };
      same = refl;
      place = rw (month, day) refl;
    }

-- whole months taken off lead to it
months_found : (later j year n : ℕ) → j + later ≡ 11 → days_of_months year j + n < days_of_months year 12 → IsInYear year (days_of_months year j + n) (date_from_month later year (suc j) n)
unfolding days_of_months date_from_month
months_found zero j year n e lt =
    let last : j ≡ 11 = omega arith in
    let P : ℕ → Type 0 = λ i. days_of_months year i + n < days_of_months year 12 in
    let within : days_of_months year 11 + n < days_of_months year 12 = subst P last lt in
    rw last (in_month year 11 n (omega arith) (omega arith))
months_found (suc later) j year n e lt =
    elim (cases_lt n (month_length year (suc j))) [
      | inl here ↦ rw (below _ _ here) (in_month year j n (omega arith) here)
      | inr le ↦
          let next : suc j + 1 ≡ suc (suc j) = omega arith in
          let same : days_of_months year (suc j) + (n - month_length year (suc j)) ≡ days_of_months year j + n = omega arith in
          let found = months_found later (suc j) year (n - month_length year (suc j)) (omega arith) (omega arith) in
          rw (not_below _ _ le, next) (rw same at found)
    ]

year_is_months : (year : ℕ) → days_of_months year 12 ≡ year_length year
unfolding days_of_months
year_is_months year = grind arith

in_year : (i n : ℕ) (date : Civil) → i ≤ 399 → IsInYear (1900 + i) n date → IsDateOf (pos (days_of_years i + n) -ℤ pos 25567) date
unfolding day_number
in_year i n date h found =
    let years : 1900 + i - 1900 ≡ i = omega arith in
    record {
      valid = found.valid;
      year_from = omega (arith, found.same);
      year_to = omega (arith, found.same);
      number = rw (found.same, years) (ap (λ k. pos k -ℤ pos 25567) (omega (arith, found.place)));
    }

first_in_year : (year n : ℕ) → n < year_length year → IsInYear year n (date_from_month 11 year 1 n)
first_in_year year n lt =
    let none : days_of_months year 0 + n ≡ n = unfold days_of_months in omega arith in
    rw none at (months_found 11 0 year n refl (omega (arith, none, year_is_months year)))

-- whole years taken off lead to a date of the day
years_found : (later i n : ℕ) → i + later ≡ 399 → days_of_years i + n < days_of_years 400 → IsDateOf (pos (days_of_years i + n) -ℤ pos 25567) (date_from_year later (1900 + i) n)
unfolding days_of_years date_from_year
years_found zero i n e lt =
    let last : i ≡ 399 = omega arith in
    let P : ℕ → Type 0 = λ j. days_of_years j + n < days_of_years 400 in
    let within : days_of_years 399 + n < days_of_years 400 = subst P last lt in
    rw last (in_year 399 n _ (omega arith) (first_in_year 2299 n (omega arith)))
years_found (suc later) i n e lt =
    elim (cases_lt n (year_length (1900 + i))) [
      | inl here ↦ rw (below _ _ here) (in_year i n _ (omega arith) (first_in_year (1900 + i) n here))
      | inr le ↦
          let next : 1900 + i + 1 ≡ 1900 + suc i = omega arith in
          let same : days_of_years (suc i) + (n - year_length (1900 + i)) ≡ days_of_years i + n = omega arith in
          let found = years_found later (suc i) (n - year_length (1900 + i)) (omega arith) (omega arith) in
          rw (not_below _ _ le, next) (rw same at found)
    ]

days_of_400_years : days_of_years 400 ≡ 146_097
unfolding days_of_years
days_of_400_years = refl

-- the date of a day is one of the calendar, and has its number
pub civil_of-is_date : (day : ℤ) → IsDay day → IsDateOf day (civil_of day)
unfolding civil_of days_of_years
civil_of-is_date day h =
    let n = unsigned_abs (day +ℤ pos 25567) in
    let number : pos (0 + n) -ℤ pos 25567 ≡ day = omega (arith, signed_arith, one_part (day +ℤ pos 25567)) in
    rw number at (years_found 399 0 n refl (omega (arith, signed_arith, days_of_400_years, one_part (day +ℤ pos 25567))))

-- the last date of a day's month, by jiff, is that of a day too
pub last_of_month : (day : ℤ) (d last : Date) → IsSameDate (civil_of day) d → IsDateOf day (civil_of day) → IsYmd d.year (pos d.month) (pos (days_in_month d.year d.month)) last → day_in_range (epoch_day last) ≡ Some (month_end_of day)
last_of_month day d last same is is_last =
    let date = civil_of day in
    let days = month_length date.year date.month in
    let year : last.year ≡ pos date.year = is_last.0 ∙ same.year in
    let month : last.month ≡ date.month = omega (arith, signed_arith, is_last.1, same.month) in
    let day_of_month : last.day ≡ days = omega (arith, signed_arith, rw (same.year, same.month) at is_last.2) in
    let civil_last : IsCivilDate (pos date.year) date.month days = rw (year, month, day_of_month) at (civil last) in
    rw (year, month, day_of_month) (day_in_range-date date.year date.month days civil_last ∙ if_true _ _ _ (in_years date.year is.year_from is.year_to))
