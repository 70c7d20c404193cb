-- The days of a month.
use Rattle.std.proofs.Common.{◌≡◌, ℕ, ◌+◌, ◌-◌, ◌≤◌, Bool, true, false, is_some, ℤ, pos, ◌+ℤ◌, ◌-ℤ◌, ◌<ℤ◌, ◌≤ℤ◌, unsigned_abs, int_le, refl, subst, arith}
use Rattle.std.proofs.lemmas.Bool.Decides.{nat_tests}
use Rattle.std.proofs.lemmas.Int.{by_lt_z, ints}
use Rattle.act_date.specs.Civil.{IsDay, IsDateOf, first_day, day_in_range, civil_of, day_number, days_of_years, days_of_months, month_length, month_end_of}
use Rattle.act_date.proofs.CivilLemmas.{civil_of-is_date, civil_of-parts, days_from_civil-day_number, in_range_by_year, in_range_some}
use Rattle.act_calendar.specs.Shift.{IsInMonth, is_in_month}

day_of_range : (d : ℤ) → is_some (day_in_range d) ≡ true → IsDay d
day_of_range d e = (grind (arith, ints), grind (arith, ints))

-- the test says that a day lies in the month
pub in_month : (day d : ℤ) → is_in_month day d ≡ true → IsInMonth day d
unfolding is_in_month
in_month day d e =
    record { in_range = day_of_range d (grind (arith, nat_tests)); year = grind (arith, nat_tests); month = grind (arith, nat_tests) }

pub is_in_month-true : (day d : ℤ) → IsInMonth day d → is_in_month day d ≡ true
unfolding is_in_month
is_in_month-true day d h = rw (in_range_some d h.in_range) (grind (arith, nat_tests, h.year, h.month))

false_unless : (b : Bool) → ¬ (b ≡ true) → b ≡ false
false_unless true h = absurd (h refl)
false_unless false h = refl

is_in_month-false : (day d : ℤ) → ¬ (IsInMonth day d) → is_in_month day d ≡ false
is_in_month-false day d h = false_unless (is_in_month day d) (λ e. h (in_month day d e))

module _ (day : ℤ) (date : IsDateOf day (civil_of day)) where
  -- the days of a month are as far apart as their days of the month
  month_distance : (d : ℤ) → IsInMonth day d → d +ℤ pos (civil_of day).day ≡ day +ℤ pos (civil_of d).day
  unfolding day_number
  month_distance d h =
      let other = civil_of-is_date d h.in_range in
      let of_day = civil_of day in
      let number : pos (days_of_years (of_day.year - 1900) + days_of_months of_day.year (of_day.month - 1) + ((civil_of d).day - 1)) -ℤ pos 25567 ≡ d = rw (← h.year, ← h.month) other.number in
      omega (arith, ints, date.number, date.valid.day_from, other.valid.day_from)

  -- so is the last day of the month
  pub month_end_distance : month_end_of day +ℤ pos (civil_of day).day ≡ day +ℤ pos (month_length (civil_of day).year (civil_of day).month)
  unfolding day_number
  month_end_distance =
      omega (arith, ints, date.number, date.valid.day_from, date.valid.day_to)

  month_end_in_range : IsDay (month_end_of day)
  month_end_in_range =
      let of_day = civil_of day in
      let year : 1900 + (of_day.year - 1900) ≡ of_day.year = omega (arith, date.year_from) in
      let days = month_length of_day.year of_day.month in
      let some : 1 ≤ days = omega (arith, date.valid) in
      subst IsDay (rw year at (days_from_civil-day_number (of_day.year - 1900) of_day.month days some)) (in_range_by_year (pos of_day.year) of_day.month days ((omega (arith, ints), omega (arith, ints)), (date.valid.month_from, date.valid.month_to), (some, omega arith)) (omega (arith, ints)) (omega (arith, ints)))

  -- a day that is so many days later has the same month, where that has so many days
  civil_of-near : (k : ℤ) (e : ℕ) → pos (civil_of day).day +ℤ k ≡ pos e → 1 ≤ e → e ≤ month_length (civil_of day).year (civil_of day).month → civil_of (day +ℤ k) ≡ record { year = (civil_of day).year; month = (civil_of day).month; day = e }
  unfolding day_number
  civil_of-near k e same from to =
      let of_day = civil_of day in
      let n = of_day.year - 1900 in
      let year : 1900 + n ≡ of_day.year = omega (arith, date.year_from) in
      (rw year at (civil_of-parts n of_day.month e (day +ℤ k)))
      (omega (arith, date.year_to))
      (record { month_from = date.valid.month_from; month_to = date.valid.month_to; day_from = from; day_to = to })
      (omega (arith, ints, date.number, date.valid.day_from))

  from_first : (k : ℤ) → pos 1 ≤ℤ (pos (civil_of day).day +ℤ k) → first_day ≤ℤ (day +ℤ k)
  unfolding day_number
  from_first k from = omega (arith, ints, date.number)

  -- a day that is so many days later lies in the month, where that isn't before its first and after its last day
  pub within_month : (k : ℤ) → pos 1 ≤ℤ (pos (civil_of day).day +ℤ k) → (day +ℤ k) ≤ℤ month_end_of day → IsInMonth day (day +ℤ k)
  within_month k from to =
      let e = unsigned_abs (pos (civil_of day).day +ℤ k) in
      let of_month : pos (civil_of day).day +ℤ k ≡ pos e = omega (arith, ints) in
      let near = civil_of-near k e of_month (omega (arith, ints)) (omega (arith, ints, month_end_distance)) in
      record {
        in_range = (from_first k from, omega (arith, ints, month_end_in_range));
        year = rw near refl;
        month = rw near refl;
      }

  not_before_month : (k : ℤ) → IsInMonth day (day +ℤ k) → pos 1 ≤ℤ (pos (civil_of day).day +ℤ k)
  not_before_month k h =
      omega (arith, ints, month_distance (day +ℤ k) h, (civil_of-is_date (day +ℤ k) h.in_range).valid.day_from)

  not_after_month : (k : ℤ) → IsInMonth day (day +ℤ k) → (day +ℤ k) ≤ℤ month_end_of day
  not_after_month k h =
      let last = rw (h.year, h.month) at (civil_of-is_date (day +ℤ k) h.in_range).valid.day_to in
      omega (arith, ints, month_distance (day +ℤ k) h, month_end_distance, last)

  -- how the code tests it
  pub test_from : (k : ℤ) → pos 1 ≤ℤ (pos (civil_of day).day +ℤ k) → is_in_month day (day +ℤ k) ≡ int_le (day +ℤ k) (month_end_of day)
  test_from k from =
      by_lt_z (month_end_of day) (day +ℤ k)
      (λ lt. let outside : ¬ (IsInMonth day (day +ℤ k)) = λ h. omega (arith, ints, not_after_month k h) in
      grind (arith, ints, is_in_month-false day (day +ℤ k) outside))
      (λ le. grind (arith, ints, is_in_month-true day (day +ℤ k) (within_month k from le)))

  pub test_before : (k : ℤ) → (pos (civil_of day).day +ℤ k) <ℤ pos 1 → is_in_month day (day +ℤ k) ≡ false
  test_before k before = is_in_month-false day (day +ℤ k) (λ h. omega (arith, ints, not_before_month k h))
