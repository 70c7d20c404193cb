-- A day that is written as text and read back.
use Rattle.std.proofs.Common.{◌≡◌, ℕ, zero, suc, ◌+◌, ◌/◌, ◌%◌, ◌^◌, ◌<◌, ◌≤◌, ◌&&◌, nat_le, true, ℤ, List, Ok, refl, ap, ◌∙◌, arith}
use Rattle.std.specs.Char.{is_ascii_digit, digit_value}
use Rattle.std.specs.Str.Parse.{digits_value}
use Rattle.std.proofs.Math.Nat.{pow-suc}
use Rattle.std.proofs.lemmas.Bool.Decides.{nat_tests}
use Rattle.std.proofs.lemmas.Int.Digits.{digits_value_push}
use Rattle.act_num.specs.Digits.{padded_digits}
use Rattle.act_date.specs.Civil.{Civil, IsCivil, IsDay, IsDateOf, civil_of, day_number, month_length}
use Rattle.act_date.specs.Text.{date_text, day_of, has_time_form, is_civil, is_date_form, is_midnight, has_digits_behind, two_digits, written_date}
use Rattle.act_date.proofs.CivilLemmas.{civil_of-is_date, in_years}

is_digit : (n : ℕ) → is_ascii_digit (48 + n % 10) ≡ true
is_digit n = grind (arith, nat_tests)

value_of_digit : (n : ℕ) → digit_value (48 + n % 10) ≡ n % 10
value_of_digit n = grind (arith, nat_tests)

-- enough digits have the number's value
value_of_padded : (k n : ℕ) → n < 10 ^ k → digits_value 10 (padded_digits k n) ≡ n
value_of_padded zero n h = omega arith
value_of_padded (suc k) n h =
    let next = pow-suc 10 k in
    let front = value_of_padded k (n / 10) (omega (arith, next)) in
    digits_value_push 10 (padded_digits k (n / 10)) (48 + n % 10) ∙ omega (arith, front, value_of_digit n)

is_civil-true : (date : Civil) → IsCivil date → is_civil date ≡ true
is_civil-true date h = grind (arith, nat_tests)

-- a text of the form that writes the date of a day
reads : (text : List ℕ) (date : Civil) (day : ℤ) → has_time_form text ≡ true → is_midnight text ≡ true → is_date_form text ≡ true → written_date text ≡ date → IsDateOf day date → day_of text ≡ Ok day
unfolding day_of
reads text date day time midnight form written is =
    let civil = ap is_civil written ∙ is_civil-true date is.valid in
    let years = ap (λ (d : Civil). nat_le 1900 d.year && nat_le d.year 2299) written ∙ in_years date.year is.year_from is.year_to in
    rw (time, form, civil, midnight, years) (ap (λ d. Ok (day_number d)) written ∙ ap Ok is.number)

short_month : (year month : ℕ) → month_length year month ≤ 31
short_month year month = grind arith

-- the day's text gives the day back
day_of-date_text : (day : ℤ) → IsDay day → day_of (date_text day) ≡ Ok day
unfolding has_digits_behind two_digits
day_of-date_text day h =
    let is = civil_of-is_date day h in
    let date = civil_of day in
    let year : digits_value 10 (padded_digits 4 date.year) ≡ date.year = value_of_padded 4 date.year (omega (arith, is)) in
    let month : digits_value 10 (padded_digits 2 date.month) ≡ date.month = value_of_padded 2 date.month (omega (arith, is.valid)) in
    let days : digits_value 10 (padded_digits 2 date.day) ≡ date.day = value_of_padded 2 date.day (omega (arith, is.valid, short_month date.year date.month)) in
    let form : is_date_form (date_text day) ≡ true = simp is_digit in
    reads (date_text day) date day refl refl form (rw (year, month, days) refl) is

pub read_back : (text : List ℕ) (day : ℤ) → IsDay day → text ≡ date_text day → day_of text ≡ Ok day
read_back text day h e = ap day_of e ∙ day_of-date_text day h
