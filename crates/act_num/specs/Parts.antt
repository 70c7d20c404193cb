-- What clauses on the reader of decimal texts say.
use Rattle.std.specs.Prelude.{ℕ, ◌≤◌, ◌&&◌, ◌++◌, nat_le, if◌then◌else◌, unsigned_abs, List, length, Option, Some, None}
use Rattle.std.specs.Str.{all_ascii_digits}
use Rattle.std.specs.Str.Parse.{AllDigits, digits_value}
use Rattle.act_num.specs.declared.decimal.Parts.{Parts}
use Rattle.act_num.specs.Decimal.{DecimalParts}
use Rattle.act_num.specs.Number.{largest}

-- the parts, without where they lie in memory
abbrev pub parts_of : Parts → DecimalParts
parts_of d = record { negative = d.negative; whole = d.whole.now; fraction = d.fraction.now; exponent = d.exponent }

-- the number, where it is in range
abbrev pub magnitude_in_range : ℕ → Option ℕ
magnitude_in_range n = if nat_le n largest then Some n else None

-- digits and an exponent as few and as small as a decimal text has them
pub record IsReadable (parts : DecimalParts) : Type 0 where
  pub whole : AllDigits 10 parts.whole
  pub fraction : AllDigits 10 parts.fraction
  pub short : length (parts.whole ++ parts.fraction) ≤ 64
  pub exponent : unsigned_abs parts.exponent ≤ 18

-- the value of one to three digits
abbrev pub short_number : List ℕ → Option ℕ
short_number text =
    if all_ascii_digits text && nat_le 1 (length text) && nat_le (length text) 3 then Some (digits_value 10 text) else None
