-- What a span of months does to a date, for jiff's dates and for ours.
use Rattle.std.proofs.Common.{◌≡◌, ℕ, ◌+◌, ◌-◌, ◌*◌, ◌/◌, ◌%◌, ◌<◌, ◌≤◌, min, nat_le, false, None, ℤ, pos, refl, ap, ◌∙◌, arith}
use Rattle.std.proofs.lemmas.Bool.Decides.{nat_tests}
use Rattle.jiff_core.specs.declared.civil.date.Date.{Date}
use Rattle.jiff_core.specs.Calendar.{IsCivilDate, days_from_civil, days_in_month}
use Rattle.jiff_core.specs.Date.{epoch_day}
use Rattle.jiff_core.proofs.SignedLemmas.{signed_arith}
use Rattle.jiff_core.proofs.CalendarLemmas.{days_in_month_bounds}
use Rattle.act_date.specs.Civil.{Civil, IsCivil, IsDateOf, day_in_range, civil_of}
use Rattle.act_date.specs.Cycle.{months_later, day_number_in_range}
use Rattle.act_date.proofs.CivilLemmas.{day_in_range-from_1900, if_false}

pub months_later-civil : (date : Civil) (n : ℕ) → IsCivil date → date.year ≤ 2299 → n ≤ 4800 → IsCivilDate (pos (months_later date n).year) (months_later date n).month (months_later date n).day
months_later-civil date n h year le =
    let month = 12 * date.year + (date.month - 1) + n in
    let long = days_in_month_bounds (pos (month / 12)) (month % 12 + 1) in
    ((omega (arith, signed_arith), omega (arith, signed_arith, h)), (omega arith, omega arith), (omega (arith, h), omega arith))

-- a date of that year and month, with that day or the last of a shorter month
later-same : (date : Civil) (later : Date) (n : ℕ) → later.year ≡ pos (months_later date n).year → later.month ≡ (months_later date n).month → later.day ≡ min date.day (days_in_month later.year later.month)
    → epoch_day later ≡ days_from_civil (pos (months_later date n).year) (months_later date n).month (months_later date n).day
later-same date later n year month day = rw (day, year, month) refl

-- is a day of the engine by both calendars or by none
pub later-in_range : (day : ℤ) (later : Date) (n : ℕ) → IsDateOf day (civil_of day) → n ≤ 4800
    → later.year ≡ pos (months_later (civil_of day) n).year → later.month ≡ (months_later (civil_of day) n).month → later.day ≡ min (civil_of day).day (days_in_month later.year later.month)
    → day_in_range (epoch_day later) ≡ day_number_in_range (months_later (civil_of day) n)
later-in_range day later n is le year month date =
    ap day_in_range (later-same (civil_of day) later n year month date)
    ∙ day_in_range-from_1900 _ _ _ (months_later-civil (civil_of day) n is.valid is.year_to le) (omega (arith, is))

not_at_most : (a b : ℕ) → b < a → nat_le a b ≡ false
not_at_most a b h = grind (arith, nat_tests)

-- more months than 400 years have lead past 2299
pub months_past : (day : ℤ) (n : ℕ) → IsDateOf day (civil_of day) → 4800 < n → day_number_in_range (months_later (civil_of day) n) ≡ None
months_past day n is lt =
    let past : nat_le (months_later (civil_of day) n).year 2299 ≡ false = not_at_most _ _ (omega (arith, is)) in
    if_false _ _ _ past
