-- Rounding by an estimate of the quotient.
use Rattle.std.proofs.Common.{◌≡◌, ℕ, ◌+◌, ◌*◌, ◌/◌, ◌%◌, ◌<◌, ◌≤◌, ◌^◌, refl, sym, arith}
use Rattle.std.proofs.Math.Nat.{le-mul_of_pos_right, lt_of_mul-lt-mul_right}
use Rattle.std.proofs.lemmas.Nat.{div-add-mod', mod_below}
use Rattle.act_num.specs.Factor.{factor_one}
use Rattle.act_num.specs.Number.{nearest_number, one}
use Rattle.act_num.proofs.Nearest.{nearest_number-within_half}

next_multiple : (k d : ℕ) → (k + 1) * d ≡ k * d + d
next_multiple k d = omega arith

-- numbers whose multiples are less than one of d apart
same_multiple : (j k d : ℕ) → j * d < k * d + d → k * d < j * d + d → j ≡ k
same_multiple j k d h g =
    let below : j < k + 1 = lt_of_mul-lt-mul_right d {n = k + 1} (rw (next_multiple k d) h) in
    let above : k < j + 1 = lt_of_mul-lt-mul_right d {n = j + 1} (rw (next_multiple j d) g) in
    omega (arith, below, above)

-- a number whose multiple is less than half of d away is the nearest one
nearest_is : (n d k : ℕ) → 2 * (k * d) < 2 * n + d → 2 * n < 2 * (k * d) + d → nearest_number n d ≡ k
nearest_is n d k h g =
    let half = nearest_number-within_half n d (omega (arith, h, g)) in
    same_multiple (nearest_number n d) k d (omega (arith, half.below, g)) (omega (arith, half.above, h))

-- so many ones, where they are k times den and m
in_ones : (k m den : ℕ) → (k * den + m) * one ≡ k * (den * one) + m * one
in_ones k m den = omega arith

module _ (n ones den : ℕ) (some : 1 ≤ den) (low : ones * one ≤ n) (high : n < (ones + 2) * one) where
  whole : ones * one ≡ ones / den * (den * one) + ones % den * one
  whole = rw (← in_ones (ones / den) (ones % den) den, div-add-mod' ones den) refl

  -- the rest is so much that the number rounds up
  pub rounded_up : (up : ℕ) → up ≡ 1 → den < 2 * (ones % den) → ones / den + up ≡ nearest_number n (den * one)
  rounded_up up e h =
      let next = next_multiple (ones / den) (den * one) in
      let m = mod_below ones den some in
      rw e (sym (nearest_is n (den * one) (ones / den + 1) (omega (arith, whole, next, low, h)) (omega (arith, whole, next, high, h, m))))

  -- the rest is so little that it rounds down
  pub rounded_down : (up : ℕ) → up ≡ 0 → 2 * (ones % den) + 4 ≤ den → ones / den + up ≡ nearest_number n (den * one)
  rounded_down up e h =
      let down = nearest_is n (den * one) (ones / den) (omega (arith, whole, low, h, some)) (omega (arith, whole, high, h)) in
      omega (arith, e, down)

-- the product with the inverse of 10^12, cut to a whole number of units of 2^-64, and a half: its whole part is the nearest
-- number, unless that much may be missing from it that the next one is
pub by_fraction : (n front z : ℕ) → n < 2 ^ 86 → front ≡ n / 2 ^ 28 → z ≡ front * 4951760157141521 + 2 ^ 63 → z % 2 ^ 64 < 18410715276690587648 → z / 2 ^ 64 ≡ nearest_number n factor_one
by_fraction n front z h e f sure =
    sym (nearest_is n factor_one (z / 2 ^ 64) (omega (arith, h, e, f, sure)) (omega (arith, h, e, f, sure)))

-- no number is nearest to one below it
pub nearest_number-le : (n d : ℕ) → 0 < d → nearest_number n d ≤ n
unfolding nearest_number
nearest_number-le n d h =
    let some = le-mul_of_pos_right (n / d) h in
    let parts = div-add-mod' n d in
    grind arith
