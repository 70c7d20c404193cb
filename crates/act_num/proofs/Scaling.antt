-- Digits with a point in them, as the nearest whole number.
use Rattle.std.proofs.Common.{◌≡◌, ℕ, zero, suc, ◌+◌, ◌-◌, ◌*◌, ◌^◌, ◌<◌, ◌≤◌, Bool, true, false, cond, ℤ, pos, negsuc, ◌-ℤ◌, ◌<ℤ◌, ◌≤ℤ◌, List, [], ◌∷◌, ◌++◌, length, take, drop, Some, None, add-one, unsigned_abs, refl, sym, ◌∙◌, ap, ap₂, arith}
use Rattle.std.specs.Str.Parse.{AllDigits, digits_value}
use Rattle.std.proofs.Math.Nat.{pow-suc, pow-le-pow_right, one-le-pow, mul-le-mul_left}
use Rattle.std.proofs.lemmas.Bool.Decides.{nat_tests}
use Rattle.std.proofs.lemmas.Int.{ints}
use Rattle.std.proofs.lemmas.Int.Digits.{digits_value-lt}
use Rattle.std.proofs.lemmas.List.{length-drop, take-append-drop}
use mir.Val.{bool_byte}
use Rattle.act_num.specs.Decimal.{scaled_number}
use Rattle.act_num.specs.Number.{nearest_number, rounds_up}
use Rattle.act_num.specs.Parts.{magnitude_in_range}
use Rattle.act_num.proofs.DigitValues.{digits_value-append}
use Rattle.act_num.proofs.Limits.{limited_some, limited_none}
use Rattle.act_num.proofs.Nearest.{more_is, nearest_split}

small_rounds_down : (n d : ℕ) → 2 * n < d → rounds_up 0 n d ≡ false
small_rounds_down n d h = grind (arith, nat_tests)

nearest_small : (n d : ℕ) → 2 * n < d → nearest_number n d ≡ 0
nearest_small n d h =
    let none : 0 * d + n ≡ n = omega arith in
    let e = nearest_split 0 n d (omega arith) in
    rw (none, small_rounds_down n d h) at e

pub scaled_up : (n : ℕ) (z : ℤ) (k : ℕ) → z ≡ pos k → scaled_number n z ≡ n * 10 ^ k
unfolding scaled_number
scaled_up n z k e = ap (scaled_number n) e

scaled_down : (n : ℕ) (z : ℤ) (k : ℕ) → z ≡ negsuc k → scaled_number n z ≡ nearest_number n (10 ^ (k + 1))
unfolding scaled_number
scaled_down n z k e = rw (e, add-one) refl

pub all_digits_drop : (ds : List ℕ) (p : ℕ) → AllDigits 10 ds → AllDigits 10 (drop p ds)
all_digits_drop ds zero all = all
all_digits_drop [] (suc p) all = tt
all_digits_drop (d ∷ ds) (suc p) all = all_digits_drop ds p all.1

pub all_digits_take : (ds : List ℕ) (p : ℕ) → AllDigits 10 ds → AllDigits 10 (take p ds)
all_digits_take ds zero all = tt
all_digits_take [] (suc p) all = tt
all_digits_take (d ∷ ds) (suc p) all = (all.0, all_digits_take ds p all.1)

pub all_digits_append : (ds es : List ℕ) → AllDigits 10 ds → AllDigits 10 es → AllDigits 10 (ds ++ es)
all_digits_append [] es all more = more
all_digits_append (d ∷ ds) es all more = (all.0, all_digits_append ds es all.1 more)

split_value : (ds : List ℕ) (p : ℕ) → digits_value 10 ds ≡ digits_value 10 (take p ds) * 10 ^ length (drop p ds) + digits_value 10 (drop p ds)
split_value ds p = ap (digits_value 10) (sym (take-append-drop p ds)) ∙ digits_value-append (take p ds) (drop p ds)

-- the point stands behind p of the digits
pub nearest_at : (ds : List ℕ) (p : ℕ) → AllDigits 10 ds → p < length ds → nearest_number (digits_value 10 ds) (10 ^ (length ds - p)) ≡ cond (rounds_up (digits_value 10 (take p ds)) (digits_value 10 (drop p ds)) (10 ^ length (drop p ds))) (digits_value 10 (take p ds) + 1) (digits_value 10 (take p ds))
nearest_at ds p all h =
    let left : length ds - p ≡ length (drop p ds) = rw length-drop refl in
    ap₂ nearest_number (split_value ds p) (ap (λ k. 10 ^ k) left)
    ∙ nearest_split (digits_value 10 (take p ds)) (digits_value 10 (drop p ds)) (10 ^ length (drop p ds)) (digits_value-lt 10 (drop p ds) (all_digits_drop ds p all))

kept_below : (b : Bool) (n : ℕ) → n ≤ cond b (n + 1) n
kept_below true n = omega arith
kept_below false n = omega arith

-- the digits in front of the point, as the code has them
pub rounded_past : (ds whole : List ℕ) (p : ℕ) → AllDigits 10 ds → p < length ds → whole ≡ take p ds → None ≡ magnitude_in_range (digits_value 10 whole) → None ≡ magnitude_in_range (nearest_number (digits_value 10 ds) (10 ^ (length ds - p)))
rounded_past ds whole p all h w l =
    let e = nearest_at ds p all h in
    sym (limited_none (digits_value 10 whole) _ (sym l) (rw (e, w) (kept_below _ _)))

pub rounded_is : (ds whole fraction : List ℕ) (p v : ℕ) (b : Bool) → AllDigits 10 ds → p < length ds → whole ≡ take p ds → fraction ≡ drop p ds → Some v ≡ magnitude_in_range (digits_value 10 whole) → b ≡ rounds_up v (digits_value 10 fraction) (10 ^ length fraction) → v + bool_byte b ≡ nearest_number (digits_value 10 ds) (10 ^ (length ds - p))
rounded_is ds whole fraction p v b all h w f l r =
    let kept = (limited_some _ v (sym l)).0 ∙ ap (digits_value 10) w in
    ap₂ (λ n (u : Bool). n + bool_byte u) kept (r ∙ ap₂ (λ n xs. rounds_up n (digits_value 10 xs) (10 ^ length xs)) kept f)
    ∙ more_is _ (digits_value 10 (take p ds))
    ∙ sym (nearest_at ds p all h)

-- the same, by the power of ten that the clause has
pub scaled_at : (ds : List ℕ) (p : ℕ) (z : ℤ) → p < length ds → z ≡ pos p → nearest_number (digits_value 10 ds) (10 ^ (length ds - p)) ≡ scaled_number (digits_value 10 ds) (z -ℤ pos (length ds))
scaled_at ds p z h e =
    let left : length ds - p - 1 + 1 ≡ length ds - p = omega arith in
    sym (scaled_down (digits_value 10 ds) (z -ℤ pos (length ds)) (length ds - p - 1) (omega (arith, ints)) ∙ ap (λ k. nearest_number (digits_value 10 ds) (10 ^ k)) left)

-- the point stands before the first digit, and before a zero that stands there
pub scaled_below : (ds : List ℕ) (z : ℤ) → AllDigits 10 ds → z <ℤ pos 0 → scaled_number (digits_value 10 ds) (z -ℤ pos (length ds)) ≡ 0
scaled_below ds z all h =
    let ten : 0 < 10 = omega arith in
    let far : length ds + 1 ≤ length ds + unsigned_abs z - 1 + 1 = omega (arith, ints) in
    let more = pow-le-pow_right ten far in
    let next : 10 ^ (length ds + 1) ≡ 10 ^ length ds * 10 = rw (add-one, pow-suc) refl in
    let under = digits_value-lt 10 ds all in
    scaled_down (digits_value 10 ds) (z -ℤ pos (length ds)) (length ds + unsigned_abs z - 1) (omega (arith, ints))
    ∙ nearest_small _ _ (omega (arith, more, next, under))

-- the point stands behind all digits and k zeros
pub scaled_zeros : (n v k m : ℕ) (z : ℤ) → Some v ≡ magnitude_in_range n → z ≡ pos (m + k) → magnitude_in_range (v * 10 ^ k) ≡ magnitude_in_range (scaled_number n (z -ℤ pos m))
scaled_zeros n v k m z l e =
    ap magnitude_in_range (ap (λ m. m * 10 ^ k) (limited_some n v (sym l)).0 ∙ sym (scaled_up n (z -ℤ pos m) k (omega (arith, ints))))

pub scaled_zeros_past : (n m : ℕ) (z : ℤ) → None ≡ magnitude_in_range n → pos m ≤ℤ z → None ≡ magnitude_in_range (scaled_number n (z -ℤ pos m))
scaled_zeros_past n m z l h =
    let ten : 0 < 10 = omega arith in
    let more = mul-le-mul_left n (one-le-pow (unsigned_abs z - m) 10 ten) in
    sym (limited_none n (scaled_number n (z -ℤ pos m)) (sym l) (rw (scaled_up n (z -ℤ pos m) (unsigned_abs z - m) (omega (arith, ints))) (omega (arith, more))))

pub ruleset scaling_steps = (scaled_at, scaled_below, scaled_zeros, scaled_zeros_past)
