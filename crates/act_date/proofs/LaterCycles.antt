-- More cycles lead to a later day, or past 2299.
use Rattle.std.proofs.Common.{◌≡◌, ℕ, ◌+◌, ◌-◌, ◌*◌, ◌<◌, ◌≤◌, inl, inr, nat_le, true, false, ℤ, pos, ◌+ℤ◌, refl, arith}
use Rattle.std.proofs.Math.Nat.{mul-lt-mul_of_pos_left}
use Rattle.std.proofs.lemmas.Bool.{cases_lt}
use Rattle.std.proofs.lemmas.Bool.Decides.{nat_tests}
use Rattle.std.proofs.lemmas.Int.{by_lt_z}
use Rattle.std.specs.Option.{option_map}
use Rattle.jiff_core.proofs.SignedLemmas.{signed_arith}
use Rattle.act_date.specs.declared.cycle.Cycle.{Cycle}
use Rattle.act_date.specs.declared.cycle.Unit.{Unit}
use Rattle.act_date.specs.declared.cycle.Unit.TheVariants as unit
use Rattle.act_date.specs.Civil.{Civil, IsCivil, IsDay, IsDateOf, day_in_range, day_number, civil_of, month_length, month_end_of}
use Rattle.act_date.specs.Cycle.{ComesAfter, months_later, day_number_in_range, day_after, span_of, plus_cycles}
use Rattle.act_date.proofs.CivilLemmas.{civil_of-is_date, civil_of-parts, in_range_some, in_range_none}
use Rattle.act_date.proofs.MonthSpans.{months_later-civil}
use Rattle.act_date.proofs.ThirtyDays.{IsBefore, later_day}

past : (a b : ℕ) → b < a → nat_le a b ≡ false
past a b h = grind (arith, nat_tests)

within : (a b : ℕ) → a ≤ b → nat_le a b ≡ true
within a b h = grind (arith, nat_tests)

-- more days
days_after : (day : ℤ) (n m : ℕ) → IsDay day → n < m → ComesAfter (day_in_range (day +ℤ pos m)) (day_in_range (day +ℤ pos n))
days_after day n m h lt =
    by_lt_z (pos 120529) (day +ℤ pos m)
    (λ late. rw (in_range_none (day +ℤ pos m) (λ k. absurd (omega (arith, signed_arith)))) tt)
    (λ to. rw (in_range_some (day +ℤ pos m) (omega (arith, signed_arith), to), in_range_some (day +ℤ pos n) (omega (arith, signed_arith), omega (arith, signed_arith))) (omega (arith, signed_arith)))

-- the date some months later is one of the calendar
months_later-is_date : (date : Civil) (n : ℕ) → IsCivil date → 1900 ≤ date.year → (months_later date n).year ≤ 2299 → IsDateOf (day_number (months_later date n)) (months_later date n)
months_later-is_date date n h from to =
    let later = months_later-civil date n h (omega arith) (omega arith) in
    record {
      valid = record { month_from = later.1.0; month_to = later.1.1; day_from = later.2.0; day_to = later.2.1 };
      year_from = omega arith;
      year_to = to;
      number = refl;
    }

-- and more months lead to a date after it
months_later-before : (date : Civil) (n m : ℕ) → n < m → IsBefore (months_later date n) (months_later date m)
months_later-before date n m lt =
    elim (cases_lt (months_later date n).year (months_later date m).year) [
      | inl year ↦ inl year
      | inr same ↦ inr (omega arith, inl (omega arith))
    ]

-- more months
months_after : (date : Civil) (n m : ℕ) → IsCivil date → 1900 ≤ date.year → n < m → ComesAfter (day_number_in_range (months_later date m)) (day_number_in_range (months_later date n))
months_after date n m h from lt =
    elim (cases_lt 2299 (months_later date m).year) [
      | inl late ↦ rw (past _ _ late) tt
      | inr to ↦
          let sooner : (months_later date n).year ≤ 2299 = omega arith in
          let first = months_later-is_date date n h from sooner in
          let second = months_later-is_date date m h from to in
          rw (within _ _ to, within _ _ sooner) (later_day _ _ _ _ first second (months_later-before date n m lt))
    ]

units_after : (day : ℤ) (u : Unit) (n m : ℕ) → IsDay day → n < m → ComesAfter (day_after day (span_of u m)) (day_after day (span_of u n))
units_after day unit.D n m h lt = days_after day n m h lt
units_after day unit.W n m h lt = days_after day (7 * n) (7 * m) h (omega arith)
units_after day unit.M n m h lt = let is = civil_of-is_date day h in months_after (civil_of day) n m is.valid is.year_from lt
units_after day unit.Q n m h lt = let is = civil_of-is_date day h in months_after (civil_of day) (3 * n) (3 * m) is.valid is.year_from (omega arith)
units_after day unit.H n m h lt = let is = civil_of-is_date day h in months_after (civil_of day) (6 * n) (6 * m) is.valid is.year_from (omega arith)
units_after day unit.Y n m h lt = let is = civil_of-is_date day h in months_after (civil_of day) (12 * n) (12 * m) is.valid is.year_from (omega arith)

-- more cycles
pub plus_cycles-after : (day : ℤ) (cycle : Cycle) (k m : ℕ) → IsDay day → k < m → 0 < cycle.count → ComesAfter (plus_cycles day cycle m) (plus_cycles day cycle k)
unfolding plus_cycles
plus_cycles-after day cycle k m h lt some =
    units_after day cycle.unit (cycle.count * k) (cycle.count * m) h (mul-lt-mul_of_pos_left lt some)

-- a date of the calendar is that of its day number
civil_of-number : (date : Civil) → IsDateOf (day_number date) date → civil_of (day_number date) ≡ date
unfolding day_number
civil_of-number date h =
    let year : 1900 + (date.year - 1900) ≡ date.year = omega (arith, h) in
    rw year at (civil_of-parts (date.year - 1900) date.month date.day (day_number date) (omega (arith, h)) (rw year h.valid) (rw year (omega (arith, signed_arith))))

-- the last date of the same month
abbrev last_of : Civil → Civil
last_of date = record { year = date.year; month = date.month; day = month_length date.year date.month }

last_of-is_date : (date : Civil) → IsDateOf (day_number date) date → IsDateOf (day_number (last_of date)) (last_of date)
last_of-is_date date h =
    record {
      valid = record { month_from = h.valid.month_from; month_to = h.valid.month_to; day_from = omega (arith, h.valid); day_to = omega arith };
      year_from = h.year_from;
      year_to = h.year_to;
      number = refl;
    }

last_of-before : (date : Civil) (n m : ℕ) → n < m → IsBefore (last_of (months_later date n)) (last_of (months_later date m))
last_of-before date n m lt =
    elim (cases_lt (months_later date n).year (months_later date m).year) [
      | inl year ↦ inl year
      | inr same ↦ inr (omega arith, inl (omega arith))
    ]

-- the last days of the months that more months lead to come later too
pub month_ends-after : (date : Civil) (n m : ℕ) → IsCivil date → 1900 ≤ date.year → n < m → ComesAfter (option_map month_end_of (day_number_in_range (months_later date m))) (option_map month_end_of (day_number_in_range (months_later date n)))
month_ends-after date n m h from lt =
    elim (cases_lt 2299 (months_later date m).year) [
      | inl late ↦ rw (past _ _ late) tt
      | inr to ↦
          let sooner : (months_later date n).year ≤ 2299 = omega arith in
          let first = months_later-is_date date n h from sooner in
          let second = months_later-is_date date m h from to in
          rw (within _ _ to, within _ _ sooner, civil_of-number _ first, civil_of-number _ second) (later_day _ _ _ _ (last_of-is_date _ first) (last_of-is_date _ second) (last_of-before date n m lt))
    ]
