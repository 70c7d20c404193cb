-- Digits behind a point against one half.
use Rattle.std.proofs.Common.{◌≡◌, ℕ, ◌+◌, ◌-◌, ◌*◌, ◌%◌, ◌^◌, ◌<◌, ◌≤◌, ◌&&◌, ◌||◌, ◌==◌, not, true, false, List, [], ◌∷◌, length, take, drop, get_or, refl, ◌∙◌, ap, ⊎_elim, arith}
use Rattle.std.specs.Char.{digit_value}
use Rattle.std.specs.List.{list_all}
use Rattle.std.specs.Str.Parse.{AllDigits, digits_value}
use Rattle.std.proofs.Math.Nat.{pow-suc, mul-le-mul_right}
use Rattle.std.proofs.lemmas.Bool.{cases_lt}
use Rattle.std.proofs.lemmas.Bool.Decides.{nat_tests}
use Rattle.std.proofs.lemmas.Int.Digits.{digits_value-lt}
use Rattle.std.proofs.lemmas.List.{take_all}
use Rattle.std.proofs.lemmas.Str.Parse.{digit_from_value}
use Rattle.std.proofs.lemmas.Str.{digit_value_digit}
use Rattle.act_num.specs.Number.{rounds_up}
use Rattle.act_num.proofs.DigitValues.{digits_value-cons}

-- a digit v, and a rest r that is less than the digit's place p
below_half : (whole v p r : ℕ) → r < p → v < 5 → rounds_up whole (v * p + r) (p * 10) ≡ false
below_half whole v p r h under =
    let four : v ≤ 4 = omega arith in
    let most = mul-le-mul_right p four in
    grind (arith, nat_tests)

above_half : (whole v p r : ℕ) → r < p → 5 < v → rounds_up whole (v * p + r) (p * 10) ≡ true
above_half whole v p r h over =
    let six : 6 ≤ v = omega arith in
    let least = mul-le-mul_right p six in
    grind (arith, nat_tests)

at_half : (whole v p r : ℕ) → r < p → v ≡ 5 → rounds_up whole (v * p + r) (p * 10) ≡ ((whole % 2 == 1) || not (r == 0))
at_half whole v p r h e = rw e (grind (arith, nat_tests))

-- the digits' value x against half of one whole q
pub record RoundsByFirst (whole x q d r : ℕ) : Type 0 where
  pub below : d < 53 → rounds_up whole x q ≡ false
  pub at : d ≡ 53 → rounds_up whole x q ≡ ((whole % 2 == 1) || not (r == 0))
  pub above : 53 < d → rounds_up whole x q ≡ true

by_first : (whole d v p r x q : ℕ) → r < p → v + 48 ≡ d → x ≡ v * p + r → q ≡ p * 10 → RoundsByFirst whole x q d r
by_first whole d v p r x q h g e f =
    record {
      below = λ under. rw (e, f) (below_half whole v p r h (omega arith));
      at = λ half. rw (e, f) (at_half whole v p r h (omega arith));
      above = λ over. rw (e, f) (above_half whole v p r h (omega arith));
    }

rest_is : (d : ℕ) (ds : List ℕ) → take (length (d ∷ ds) - 1) (drop 1 (d ∷ ds)) ≡ ds
rest_is d ds = take_all _ ds (omega arith)

pub rounds_by_first : (whole : ℕ) (ds : List ℕ) → AllDigits 10 ds → 1 ≤ length ds → RoundsByFirst whole (digits_value 10 ds) (10 ^ length ds) (get_or ds 0 0) (digits_value 10 (take (length ds - 1) (drop 1 ds)))
rounds_by_first whole [] all h = absurd (omega arith)
rounds_by_first whole (d ∷ ds) all h =
    rw (rest_is d ds)
    (by_first whole d (digit_value d) (10 ^ length ds) (digits_value 10 ds) _ _ (digits_value-lt 10 ds all.1) (digit_value_digit d (digit_from_value d all.0)) (digits_value-cons d ds) (pow-suc 10 (length ds)))

zero_digit : (d v p r : ℕ) → v ≡ 0 → d ≡ 48 → ((d == 48) && (r == 0)) ≡ (v * p + r == 0)
zero_digit d v p r h g = rw (h, g) (grind (arith, nat_tests))

zeros_step : (d v p r x : ℕ) → v + 48 ≡ d → r < p → x ≡ v * p + r → ((d == 48) && (r == 0)) ≡ (x == 0)
zeros_step d v p r x h g e =
    rw e
    (⊎_elim (λ none. zero_digit d v p r (omega arith) (omega arith)) (λ some. grind (arith, nat_tests, mul-le-mul_right p some)) (cases_lt v 1))

-- digits that are all zeros write zero, and no others do
pub zeros_value : (ds : List ℕ) → AllDigits 10 ds → list_all (λ d. d == 48) ds ≡ (digits_value 10 ds == 0)
zeros_value [] all = refl
zeros_value (d ∷ ds) all =
    ap (λ b. (d == 48) && b) (zeros_value ds all.1)
    ∙ zeros_step d (digit_value d) (10 ^ length ds) (digits_value 10 ds) _ (digit_value_digit d (digit_from_value d all.0)) (digits_value-lt 10 ds all.1) (digits_value-cons d ds)

pub all_digits_rest : (ds : List ℕ) → AllDigits 10 ds → 1 ≤ length ds → AllDigits 10 (take (length ds - 1) (drop 1 ds))
all_digits_rest [] all h = absurd (omega arith)
all_digits_rest (d ∷ ds) all h = rw (rest_is d ds) all.1
