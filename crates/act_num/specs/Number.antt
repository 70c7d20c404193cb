-- Numbers in range, rounding, and the operations on amounts in units of 10^-9. This profile's own.
use Rattle.std.specs.Prelude.{◌≡◌, ℕ, zero, suc, ◌+◌, ◌*◌, ◌/◌, ◌%◌, ◌≤◌, ◌&&◌, ◌||◌, ◌==◌, nat_lt, nat_le, if◌then◌else◌, Bool, ℤ, pos, negsuc, neg_ℤ, ◌+ℤ◌, ◌-ℤ◌, ◌*ℤ◌, unsigned_abs, Option, Some, None, option_map, option_and_then}
use Rattle.std.specs.Int.{int_max, int_min}

-- the greatest magnitude of a number: 2^127 - 1
abbrev pub largest : ℕ
largest = 170141183460469231731687303715884105727

-- a whole number that the engine holds
abbrev pub InRange : ℤ → Type 0
InRange z = unsigned_abs z ≤ largest

-- the number, where it is in range
abbrev pub number_in_range : ℤ → Option ℤ
number_in_range z = if nat_le (unsigned_abs z) largest then Some z else None

-- a whole number and the rest r of d round to the next one: r is over half of d, or half of it and the number odd
abbrev pub rounds_up : ℕ → ℕ → ℕ → Bool
rounds_up whole r d = nat_lt d (2 * r) || ((2 * r == d) && (whole % 2 == 1))

-- the whole number nearest to n/d, and of two that are as near the even one
unfoldable pub nearest_number : ℕ → ℕ → ℕ
nearest_number n d = if rounds_up (n / d) (n % d) d then n / d + 1 else n / d

-- the same for p/d with p of either sign
abbrev pub rnd : ℤ → ℕ → ℤ
rnd (pos n) d = pos (nearest_number n d)
rnd (negsuc n) d = neg_ℤ (pos (nearest_number (suc n) d))

-- no whole number is nearer to p/d than z, and where another one is as near, z is even
pub record IsNearest (p : ℤ) (d : ℕ) (z : ℤ) : Type 0 where
  pub near : 2 * unsigned_abs (p -ℤ z *ℤ pos d) ≤ d
  pub even_at_tie : 2 * unsigned_abs (p -ℤ z *ℤ pos d) ≡ d → unsigned_abs z % 2 ≡ 0

-- the units of the number 1
abbrev pub one : ℕ
one = 1_000_000_000

-- the sum, where it is in range
abbrev pub add_of : ℤ → ℤ → Option ℤ
add_of a b = number_in_range (a +ℤ b)

-- the difference, where it is in range
abbrev pub sub_of : ℤ → ℤ → Option ℤ
sub_of a b = number_in_range (a -ℤ b)

-- the product, rounded once; its units before the rounding have to be in range
abbrev pub mul_of : ℤ → ℤ → Option ℤ
mul_of a b = option_map (λ p. rnd p one) (number_in_range (a *ℤ b))

-- the product with the fraction num/den, rounded once; both products, from left to right, have to be in range
abbrev pub mul_frac_of : ℤ → ℤ → ℤ → ℕ → Option ℤ
mul_frac_of a b num den =
    option_map (λ p. rnd p (den * one)) (option_and_then (λ p. number_in_range (p *ℤ num)) (number_in_range (a *ℤ b)))

-- the greater of the number and a lower bound, where there is one
abbrev pub at_least : Option ℤ → ℤ → ℤ
at_least None z = z
at_least (Some lo) z = int_max z lo

-- the lesser of the number and an upper bound, where there is one
abbrev pub at_most : Option ℤ → ℤ → ℤ
at_most None z = z
at_most (Some hi) z = int_min z hi

-- the lower bound is taken before the upper one
abbrev pub clip_of : ℤ → Option ℤ → Option ℤ → ℤ
clip_of z lo hi = at_most hi (at_least lo z)

-- the whole number nearest to p/b with a divisor of either sign, and nothing at the divisor 0
abbrev pub nearest_quotient : ℤ → ℤ → Option ℤ
nearest_quotient p (pos zero) = None
nearest_quotient p (pos (suc n)) = Some (rnd p (suc n))
nearest_quotient p (negsuc n) = Some (rnd (neg_ℤ p) (suc n))

-- the ratio, rounded once; its units before the rounding have to be in range
abbrev pub ratio_of : ℤ → ℤ → Option ℤ
ratio_of a b = option_and_then (λ p. nearest_quotient p b) (number_in_range (a *ℤ pos one))
