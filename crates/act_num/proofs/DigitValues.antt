-- What digits write.
use Rattle.std.proofs.Common.{◌≡◌, ℕ, ◌+◌, ◌-◌, ◌*◌, ◌^◌, ◌<◌, ◌≤◌, List, [], ◌∷◌, ◌++◌, length, take, get_or, Some, None, refl, sym, ◌∙◌, arith, add-one}
use Rattle.std.specs.Char.{digit_value}
use Rattle.std.specs.Str.Parse.{AllDigits, digits_value, digits_value_after}
use Rattle.std.proofs.Math.Nat.{pow-suc, pow-le-pow_right, mul-le-mul_left}
use Rattle.std.proofs.lemmas.Int.Digits.{digits_value_more}
use Rattle.std.proofs.lemmas.Str.Parse.{digit_at, digit_from_value, digits_value-take-le}
use Rattle.std.proofs.lemmas.Str.{digit_value_digit}
use Rattle.act_num.specs.Parts.{magnitude_in_range}
use Rattle.act_num.proofs.Limits.{limited_some, limited_none}

-- a digit at its place p behind the number n, where q is the next place
shifted : (n v p q r x y : ℕ) → q ≡ p * 10 → x ≡ (n * 10 + v) * p + r → y ≡ (0 * 10 + v) * p + r → x ≡ n * q + y
shifted n v p q r x y e f g = rw (e, f, g) (omega arith)

-- digits behind a number move it up by their places
digits_value_after_is : (n : ℕ) (ds : List ℕ) → digits_value_after 10 n ds ≡ n * 10 ^ length ds + digits_value 10 ds
digits_value_after_is n [] = omega arith
digits_value_after_is n (d ∷ ds) =
    shifted n (digit_value d) (10 ^ length ds) _ (digits_value 10 ds) _ _ (pow-suc 10 (length ds)) (digits_value_after_is (n * 10 + digit_value d) ds) (digits_value_after_is (0 * 10 + digit_value d) ds)

-- a first digit stands for its value at its place
pub digits_value-cons : (d : ℕ) (ds : List ℕ) → digits_value 10 (d ∷ ds) ≡ digit_value d * 10 ^ length ds + digits_value 10 ds
digits_value-cons d ds =
    let h = digits_value_after_is (0 * 10 + digit_value d) ds in
    rw h (omega arith)

digits_value_after-append : (n : ℕ) (ds es : List ℕ) → digits_value_after 10 n (ds ++ es) ≡ digits_value_after 10 (digits_value_after 10 n ds) es
digits_value_after-append n [] es = refl
digits_value_after-append n (d ∷ ds) es = digits_value_after-append (n * 10 + digit_value d) ds es

-- digits in two parts: the first part stands before the places of the second
pub digits_value-append : (ds es : List ℕ) → digits_value 10 (ds ++ es) ≡ digits_value 10 ds * 10 ^ length es + digits_value 10 es
digits_value-append ds es = digits_value_after-append 0 ds es ∙ digits_value_after_is (digits_value 10 ds) es

-- one more digit
pub digits_value_next : (ds : List ℕ) (i : ℕ) → AllDigits 10 ds → i < length ds → digits_value 10 (take (i + 1) ds) ≡ digits_value 10 (take i ds) * 10 + (get_or ds i 0 - 48)
digits_value_next ds i all h =
    let e = digits_value_more 10 ds i h in
    let d = digit_value_digit (get_or ds i 0) (digit_at ds i all h) in
    omega (arith, e, d)

-- the value so far takes one more digit, or is out of range
pub number_more : (ds : List ℕ) (i v w : ℕ) → AllDigits 10 ds → i < length ds → v ≡ digits_value 10 (take i ds) → Some w ≡ magnitude_in_range (v * 10 + (get_or ds i 0 - 48)) → w ≡ digits_value 10 (take (i + 1) ds)
number_more ds i v w all h e l =
    let next = digits_value_next ds i all h in
    let s = limited_some _ _ (sym l) in
    omega (arith, next, s.0)

pub number_past : (ds : List ℕ) (i v : ℕ) → AllDigits 10 ds → i < length ds → v ≡ digits_value 10 (take i ds) → None ≡ magnitude_in_range (v * 10 + (get_or ds i 0 - 48)) → None ≡ magnitude_in_range (digits_value 10 ds)
number_past ds i v all h e l =
    let next = digits_value_next ds i all h in
    let part = digits_value-take-le 10 ds (i + 1) (omega arith) in
    sym (limited_none _ (digits_value 10 ds) (sym l) (omega (arith, next, part)))

pub ruleset number_steps = (digit_at, number_more, number_past)

-- the same for a zero behind the number
one_more_zero : (n i : ℕ) → n * 10 ^ (i + 1) ≡ n * 10 ^ i * 10
one_more_zero n i = rw (add-one, pow-suc) (omega arith)

pub zeros_more : (n i v w : ℕ) → v ≡ n * 10 ^ i → Some w ≡ magnitude_in_range (v * 10 + 0) → w ≡ n * 10 ^ (i + 1)
zeros_more n i v w e l =
    let s = limited_some _ _ (sym l) in
    omega (arith, one_more_zero n i, s.0)

pub zeros_past : (n i count v : ℕ) → i < count → v ≡ n * 10 ^ i → None ≡ magnitude_in_range (v * 10 + 0) → None ≡ magnitude_in_range (n * 10 ^ count)
zeros_past n i count v h e l =
    let ten : 0 < 10 = omega arith in
    let below : i + 1 ≤ count = omega arith in
    let more = mul-le-mul_left n (pow-le-pow_right ten below) in
    sym (limited_none _ (n * 10 ^ count) (sym l) (omega (arith, one_more_zero n i, more)))

pub ruleset zero_steps = (zeros_more, zeros_past)
