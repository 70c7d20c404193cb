-- Numbers as decimal text, read and written. This profile's own.
use Rattle.std.specs.Prelude.{ℕ, suc, ◌*◌, ◌/◌, ◌%◌, ◌^◌, ◌&&◌, ◌||◌, ◌==◌, nat_lt, nat_le, if◌then◌else◌, Bool, false, ℤ, pos, negsuc, neg_ℤ, ◌+ℤ◌, ◌-ℤ◌, unsigned_abs, int_lt, List, [], ◌∷◌, ◌++◌, length, drop, codes, decimal, Option, Some, None, option_map, Result, Ok, Err}
use Rattle.std.specs.List.{take_while, prefix_len}
use Rattle.std.specs.Str.{all_ascii_digits}
use Rattle.std.specs.Char.{is_ascii_digit}
use Rattle.std.specs.Str.Parse.{digits_value}
use Rattle.act_num.specs.declared.decimal.DecimalFault.{DecimalFault}
use Rattle.act_num.specs.declared.decimal.DecimalFault.TheVariants.{NotDecimal, TooLarge}
use Rattle.act_num.specs.Digits.{padded_digits}
use Rattle.act_num.specs.Number.{largest, nearest_number, one}

-- a minus sign where the number is negative
abbrev pub sign_text : ℤ → List ℕ
sign_text z = if int_lt z (pos 0) then codes "-" else []

-- nine digits of the units behind the point
unfoldable pub fraction_text : ℕ → List ℕ
fraction_text units = padded_digits 9 units

-- the sign, the whole part, a point and nine digits
unfoldable pub printed : ℤ → List ℕ
printed z = sign_text z ++ decimal (unsigned_abs z / one) ++ codes "." ++ fraction_text (unsigned_abs z % one)

-- the parts of a decimal text: whether it has a minus sign, the digits before the point and behind it, and the
-- power of ten behind an `e`
pub record DecimalParts : Type 0 where
  pub negative : Bool
  pub whole : List ℕ
  pub fraction : List ℕ
  pub exponent : ℤ

-- the digits that a text begins with
abbrev pub first_digits : List ℕ → List ℕ
first_digits text = take_while is_ascii_digit text

-- what stands behind the digits that a text begins with
abbrev pub behind_digits : List ℕ → List ℕ
behind_digits text = drop (prefix_len is_ascii_digit text) text

-- a text begins with this byte
abbrev pub begins_with : ℕ → List ℕ → Bool
begins_with byte [] = false
begins_with byte (first ∷ rest) = first == byte

-- a text begins with `-`
abbrev pub begins_with_minus : List ℕ → Bool
begins_with_minus text = begins_with 45 text

-- what stands behind a sign, `-` or `+`, if there is one
abbrev pub behind_sign : List ℕ → List ℕ
behind_sign text = if begins_with 45 text || begins_with 43 text then drop 1 text else text

-- the digits behind a point, `.`, if there is one
abbrev pub fraction_of : List ℕ → List ℕ
fraction_of text = if begins_with 46 text then first_digits (drop 1 text) else []

-- what stands behind those, or the whole text where it has no point
abbrev pub behind_fraction : List ℕ → List ℕ
behind_fraction text = if begins_with 46 text then behind_digits (drop 1 text) else text

-- a point has no digit behind it
abbrev pub lacks_fraction : List ℕ → Bool
lacks_fraction text = begins_with 46 text && (length (fraction_of text) == 0)

-- a number with a sign
abbrev pub with_sign : Bool → ℕ → ℤ
with_sign negative n = if negative then neg_ℤ (pos n) else pos n

-- one to three digits whose value is at most 18
abbrev pub is_exponent : List ℕ → Bool
is_exponent digits =
    all_ascii_digits digits && nat_le 1 (length digits) && nat_le (length digits) 3 && nat_le (digits_value 10 digits) 18

-- nothing, which is the power 0, or an `e` or `E` with a number from -18 to 18
abbrev pub exponent_of : List ℕ → Option ℤ
exponent_of [] = Some (pos 0)
exponent_of (first ∷ rest) =
    if ((first == 101) || (first == 69)) && is_exponent (behind_sign rest)
    then Some (with_sign (begins_with_minus rest) (digits_value 10 (behind_sign rest)))
    else None

-- a sign, digits, a point with digits, an exponent; all but the first digits may be left out
unfoldable pub decimal_parts : List ℕ → Option DecimalParts
decimal_parts text =
    let unsigned = behind_sign text in
    let rest = behind_digits unsigned in
    if nat_lt 64 (length text) || (length (first_digits unsigned) == 0) || lacks_fraction rest then None
    else option_map
    (λ e. record { negative = begins_with_minus text; whole = first_digits unsigned; fraction = fraction_of rest; exponent = e })
    (exponent_of (behind_fraction rest))

-- the whole number nearest to n times a power of ten
unfoldable pub scaled_number : ℕ → ℤ → ℕ
scaled_number n (pos k) = n * 10 ^ k
scaled_number n (negsuc k) = nearest_number n (10 ^ suc k)

-- the magnitude in units of 10^-9, rounded once
abbrev pub magnitude_of : DecimalParts → ℕ
magnitude_of parts =
    scaled_number (digits_value 10 (parts.whole ++ parts.fraction)) (parts.exponent +ℤ pos 9 -ℤ pos (length parts.fraction))

-- the number, where its magnitude is in range
abbrev pub number_or_fault : Option DecimalParts → Result ℤ DecimalFault
number_or_fault None = Err NotDecimal
number_or_fault (Some parts) =
    if nat_le (magnitude_of parts) largest then Ok (with_sign parts.negative (magnitude_of parts)) else Err TooLarge

-- the number that a text writes, in units of 10^-9, or its fault
abbrev pub decimal_of : List ℕ → Result ℤ DecimalFault
decimal_of text = number_or_fault (decimal_parts text)
