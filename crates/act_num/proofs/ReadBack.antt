-- A printed number, read again.
use Rattle.std.proofs.Common.{◌≡◌, ℕ, zero, suc, ◌+◌, ◌*◌, ◌/◌, ◌%◌, ◌^◌, ◌<◌, ◌≤◌, ◌==◌, Bool, true, false, ℤ, pos, negsuc, unsigned_abs, List, [], ◌∷◌, ◌++◌, length, take, drop, decimal, Some, Ok, refl, sym, ◌∙◌, ap, append_assoc, append-nil, length-append, arith}
use Rattle.std.specs.Char.{digit_value, is_ascii_digit}
use Rattle.std.specs.List.{prefix_len}
use Rattle.std.specs.Str.Parse.{AllDigits, IsNumeral, digits_value}
use Rattle.std.proofs.Math.Nat.{pow-suc}
use Rattle.std.proofs.lemmas.Bool.{cond-true, cond-false, and_from, or_from, le-leb, le-ltb}
use Rattle.std.proofs.lemmas.Bool.Decides.{nat_tests}
use Rattle.std.proofs.lemmas.Fmt.{decimal_is_IsNumeral_wide}
use Rattle.std.proofs.lemmas.Int.Digits.{digits_push, digits_value_push}
use Rattle.std.proofs.lemmas.List.{take_at, drop_at}
use Rattle.std.proofs.lemmas.Str.Parse.{digit_from_value}
use Rattle.act_num.specs.Decimal.{DecimalParts, begins_with, begins_with_minus, behind_digits, behind_sign, decimal_of, decimal_parts, first_digits, fraction_text, magnitude_of, number_or_fault, printed, sign_text, with_sign}
use Rattle.act_num.specs.Digits.{padded_digits}
use Rattle.act_num.specs.Number.{InRange, largest, one}
use Rattle.act_num.proofs.DigitValues.{digits_value-append}
use Rattle.act_num.proofs.Padded.{length-fraction_text, whole_short}
use Rattle.act_num.proofs.Reading.{parts_read}
use Rattle.act_num.proofs.Scaling.{scaled_up}

is_digit_by_value : (c : ℕ) → digit_value c < 10 → is_ascii_digit c ≡ true
is_digit_by_value c h =
    let range = digit_from_value c h in
    and_from _ _ (le-leb 48 c range.0) (le-leb c 57 range.1)

-- digits in front of a text that begins with none
prefix_len-digits : (ds rest : List ℕ) → AllDigits 10 ds → prefix_len is_ascii_digit rest ≡ 0 → prefix_len is_ascii_digit (ds ++ rest) ≡ length ds
prefix_len-digits [] rest all none = none
prefix_len-digits (d ∷ ds) rest all none =
    let more = prefix_len-digits ds rest all.1 none in
    cond-true (is_ascii_digit d) (1 + prefix_len is_ascii_digit (ds ++ rest)) 0 (is_digit_by_value d all.0) ∙ omega (arith, more)

digits_in_front : (ds rest : List ℕ) → AllDigits 10 ds → prefix_len is_ascii_digit rest ≡ 0 → first_digits (ds ++ rest) ≡ ds
digits_in_front ds rest all none =
    ap (λ k. take k (ds ++ rest)) (prefix_len-digits ds rest all none) ∙ take_at ds rest (length ds) refl

rest_behind : (ds rest : List ℕ) → AllDigits 10 ds → prefix_len is_ascii_digit rest ≡ 0 → behind_digits (ds ++ rest) ≡ rest
rest_behind ds rest all none =
    ap (λ k. drop k (ds ++ rest)) (prefix_len-digits ds rest all none) ∙ drop_at ds rest (length ds) refl

-- digits begin with no sign
begins_with-digits : (c : ℕ) (ds rest : List ℕ) → c < 48 → IsNumeral 10 ds → begins_with c (ds ++ rest) ≡ false
begins_with-digits c [] rest h numeral = absurd (omega (arith, numeral.0))
begins_with-digits c (d ∷ ds) rest h numeral =
    let range = digit_from_value d numeral.1.0 in
    grind (arith, nat_tests)

not_empty : (ds : List ℕ) → 0 < length ds → (length ds == 0) ≡ false
not_empty ds h = grind (arith, nat_tests)

-- digits before a point and behind it, and no exponent
abbrev parts_with : Bool → List ℕ → List ℕ → DecimalParts
parts_with negative whole fraction = record { negative = negative; whole = whole; fraction = fraction; exponent = pos 0 }

-- a text of digits, a point and digits behind its sign
parts_put_together : (text whole fraction : List ℕ) → length text ≤ 64 → behind_sign text ≡ whole ++ (46 ∷ fraction) → IsNumeral 10 whole → IsNumeral 10 fraction → decimal_parts text ≡ Some (parts_with (begins_with_minus text) whole fraction)
parts_put_together text whole fraction short unsigned digits more =
    let nothing = append-nil fraction in
    let front : first_digits fraction ≡ fraction = rw nothing at (digits_in_front fraction [] more.1 refl) in
    let behind : behind_digits fraction ≡ [] = rw nothing at (rest_behind fraction [] more.1 refl) in
    sym (parts_read text short (sym unsigned) (sym (digits_in_front whole (46 ∷ fraction) digits.1 refl)) (sym (rest_behind whole (46 ∷ fraction) digits.1 refl)) (sym (not_empty whole digits.0)) (sym (ap (λ (xs : List ℕ). length xs == 0) front ∙ not_empty fraction more.0)) (sym front) (sym behind) (begins_with_minus text) refl (Some (pos 0)) refl)

-- nine digits behind a point
magnitude_of_nine : (negative : Bool) (whole fraction : List ℕ) → length fraction ≡ 9 → magnitude_of (parts_with negative whole fraction) ≡ digits_value 10 whole * one + digits_value 10 fraction
magnitude_of_nine negative whole fraction nine =
    let append = digits_value-append whole fraction in
    scaled_up _ _ 0 (rw nine refl) ∙ rw (append, nine) (omega arith)

number_in_parts : (parts : DecimalParts) (n : ℕ) → magnitude_of parts ≡ n → n ≤ largest → number_or_fault (Some parts) ≡ Ok (with_sign parts.negative n)
number_in_parts parts n e h =
    cond-true _ _ _ (le-leb (magnitude_of parts) largest (omega (arith, e))) ∙ ap (λ k. Ok (with_sign parts.negative k)) e

-- the last digits of a number, leading zeros included
digit_value-digit : (d : ℕ) → d < 10 → digit_value (48 + d) ≡ d
digit_value-digit d h = grind (arith, nat_tests)

all_digits-padded_digits : (k n : ℕ) → AllDigits 10 (padded_digits k n)
all_digits-padded_digits zero n = tt
all_digits-padded_digits (suc k) n =
    digits_push 10 (padded_digits k (n / 10)) (48 + n % 10) (all_digits-padded_digits k (n / 10)) (omega (arith, digit_value-digit (n % 10) (omega arith)))

digits_value-padded_digits : (k n : ℕ) → n < 10 ^ k → digits_value 10 (padded_digits k n) ≡ n
digits_value-padded_digits zero n h = omega arith
digits_value-padded_digits (suc k) n h =
    let next = pow-suc 10 k in
    let front = digits_value-padded_digits k (n / 10) (omega (arith, next)) in
    let last = digit_value-digit (n % 10) (omega arith) in
    digits_value_push 10 (padded_digits k (n / 10)) (48 + n % 10) ∙ omega (arith, front, last)

IsNumeral-fraction_text : (units : ℕ) → IsNumeral 10 (fraction_text units)
unfolding fraction_text
IsNumeral-fraction_text units = (omega (arith, length-fraction_text units), all_digits-padded_digits 9 units)

digits_value-fraction_text : (units : ℕ) → units < one → digits_value 10 (fraction_text units) ≡ units
unfolding fraction_text
digits_value-fraction_text units h = digits_value-padded_digits 9 units h

-- the whole part, a point and nine digits of n units
abbrev unsigned_text : ℕ → List ℕ
unsigned_text n = decimal (n / one) ++ (46 ∷ fraction_text (n % one))

-- such a text behind a sign
number_put_together : (text : List ℕ) (n : ℕ) → n ≤ largest → length text ≤ 64 → behind_sign text ≡ unsigned_text n → decimal_of text ≡ Ok (with_sign (begins_with_minus text) n)
number_put_together text n h short unsigned =
    let whole = decimal_is_IsNumeral_wide (n / one) (omega arith) in
    let rest = digits_value-fraction_text (n % one) (omega arith) in
    let fraction = IsNumeral-fraction_text (n % one) in
    let parts = parts_with (begins_with_minus text) (decimal (n / one)) (fraction_text (n % one)) in
    let magnitude = magnitude_of_nine (begins_with_minus text) (decimal (n / one)) (fraction_text (n % one)) (length-fraction_text (n % one)) in
    ap number_or_fault (parts_put_together text (decimal (n / one)) (fraction_text (n % one)) short unsigned whole.0 fraction)
    ∙ number_in_parts parts n (magnitude ∙ rw (whole.1, rest) (omega arith)) h

-- the text of a number, its sign in front
printed_is : (z : ℤ) → printed z ≡ sign_text z ++ unsigned_text (unsigned_abs z)
unfolding printed
printed_is z = simp append_assoc

length-unsigned_text : (z : ℤ) → InRange z → length (unsigned_text (unsigned_abs z)) ≤ 40
length-unsigned_text z h =
    omega (arith, length-append (decimal (unsigned_abs z / one)) (46 ∷ fraction_text (unsigned_abs z % one)), whole_short z h, length-fraction_text (unsigned_abs z % one))

-- a number that isn't negative has no sign
sign_text-pos : (n : ℕ) → sign_text (pos n) ≡ []
sign_text-pos n = cond-false _ _ _ (le-ltb n 0 (omega arith))

first_is_no_sign : (n c : ℕ) → n ≤ largest → c < 48 → begins_with c (unsigned_text n) ≡ false
first_is_no_sign n c h small =
    begins_with-digits c (decimal (n / one)) (46 ∷ fraction_text (n % one)) small (decimal_is_IsNumeral_wide (n / one) (omega arith)).0

behind_no_sign : (n : ℕ) → n ≤ largest → behind_sign (unsigned_text n) ≡ unsigned_text n
behind_no_sign n h =
    cond-false _ _ _ (or_from _ _ (first_is_no_sign n 45 h (omega arith)) (first_is_no_sign n 43 h (omega arith)))

-- the text of a number in range writes that number
pub decimal_of-printed : (z : ℤ) → InRange z → decimal_of (printed z) ≡ Ok z
decimal_of-printed (pos n) h =
    ap decimal_of (printed_is (pos n) ∙ ap (λ (xs : List ℕ). xs ++ unsigned_text n) (sign_text-pos n))
    ∙ number_put_together (unsigned_text n) n h (omega (arith, length-unsigned_text (pos n) h)) (behind_no_sign n h)
    ∙ ap (λ b. Ok (with_sign b n)) (first_is_no_sign n 45 h (omega arith))
decimal_of-printed (negsuc n) h =
    ap decimal_of (printed_is (negsuc n))
    ∙ number_put_together (45 ∷ unsigned_text (suc n)) (suc n) h (omega (arith, length-unsigned_text (negsuc n) h)) refl
