-- Dates as text: `YYYY-MM-DD`, with the time 00:00:00 behind it or without.
use Rattle.std.specs.Prelude.{ℕ, ◌+◌, ◌&&◌, ◌||◌, ◌==◌, not, nat_le, if◌then◌else◌, Bool, ℤ, List, ◌++◌, length, take, drop, codes, slice_index, Option, Some, None, Result, Ok, Err}
use Rattle.std.specs.List.{list_all}
use Rattle.std.specs.Char.{is_ascii_digit}
use Rattle.std.specs.Str.Parse.{digits_value}
use Rattle.act_num.specs.Digits.{padded_digits}
use Rattle.act_date.specs.declared.day.DateFault.{DateFault}
use Rattle.act_date.specs.declared.day.DateFault.TheVariants.{NotDate, TimeOfDay, DateRange}
use Rattle.act_date.specs.Civil.{Civil, civil_of, day_number, month_length}

-- four digits of the year, two of the month and two of the day
abbrev pub date_text : ℤ → List ℕ
date_text day =
    let date = civil_of day in
    padded_digits 4 date.year ++ codes "-" ++ padded_digits 2 date.month ++ codes "-" ++ padded_digits 2 date.day

-- the k bytes behind the first i
abbrev pub part : List ℕ → ℕ → ℕ → List ℕ
part text i k = take k (drop i text)

-- the k bytes behind the first i are digits
abbrev pub has_digits : List ℕ → ℕ → ℕ → Bool
has_digits text i k = list_all is_ascii_digit (part text i k)

-- the mark stands behind the first i bytes, and two digits behind it
unfoldable pub has_digits_behind : List ℕ → ℕ → ℕ → Bool
has_digits_behind text i mark = (slice_index text i == mark) && has_digits text (i + 1) 2

-- ten bytes of the form YYYY-MM-DD; 45 is '-'
abbrev pub is_date_form : List ℕ → Bool
is_date_form text = has_digits text 0 4 && has_digits_behind text 4 45 && has_digits_behind text 7 45

-- nine bytes of the form Thh:mm:ss behind them; 84 is 'T' and 58 ':'
abbrev pub is_time_form : List ℕ → Bool
is_time_form text = has_digits_behind text 10 84 && has_digits_behind text 13 58 && has_digits_behind text 16 58

-- nothing stands behind the first ten bytes, or nine bytes of that form
abbrev pub has_time_form : List ℕ → Bool
has_time_form text = (length text == 10) || ((length text == 19) && is_time_form text)

-- the number that decimal digits write, or None where another byte is among them
abbrev pub number_of : List ℕ → Option ℕ
number_of digits = if list_all is_ascii_digit digits then Some (digits_value 10 digits) else None

-- the number that the two digits behind the first i bytes write
unfoldable pub two_digits : List ℕ → ℕ → ℕ
two_digits text i = digits_value 10 (part text i 2)

-- the date that the first ten bytes write
abbrev pub written_date : List ℕ → Civil
written_date text = record { year = digits_value 10 (part text 0 4); month = two_digits text 5; day = two_digits text 8 }

-- the calendar has the date
abbrev pub is_civil : Civil → Bool
is_civil date = nat_le 1 date.month && nat_le date.month 12 && nat_le 1 date.day && nat_le date.day (month_length date.year date.month)

-- the first ten bytes have the form of a date that the calendar has
abbrev pub has_date : List ℕ → Bool
has_date text = is_date_form text && is_civil (written_date text)

-- no time of day is given, or midnight
abbrev pub is_midnight : List ℕ → Bool
is_midnight text = (length text == 10) || (two_digits text 11 + two_digits text 14 + two_digits text 17 == 0)

-- the day that a text writes, or the first fault: no date, another time of day than midnight, a year outside 1900 to 2299
unfoldable pub day_of : List ℕ → Result ℤ DateFault
day_of text =
    if not (has_time_form text && has_date text) then Err NotDate
    else (if not (is_midnight text) then Err TimeOfDay
    else (if nat_le 1900 (written_date text).year && nat_le (written_date text).year 2299 then Ok (day_number (written_date text))
    else Err DateRange))
