-- Scaling factors in units of 10^-12, and the operations on them. This profile's own.
use Rattle.std.specs.Prelude.{ℕ, ℤ, pos, ◌+ℤ◌, ◌*ℤ◌, Option, option_map, option_and_then}
use Rattle.act_num.specs.Number.{number_in_range, rnd}

-- the units of the factor 1
abbrev pub factor_one : ℕ
factor_one = 1_000_000_000_000

-- one and the product of a rate with the fraction num/den of a year, rounded once to units of a factor, of which a
-- thousand make a unit of the rate; both products, from left to right, and the sum have to be in range
abbrev pub one_plus_of : ℤ → ℤ → ℕ → Option ℤ
one_plus_of rate num den =
    option_and_then (λ p. number_in_range (pos factor_one +ℤ rnd p den)) (option_and_then (λ p. number_in_range (p *ℤ pos 1_000)) (number_in_range (rate *ℤ num)))

-- the product, rounded once; its units before the rounding have to be in range
abbrev pub times_of : ℤ → ℤ → Option ℤ
times_of a b = option_map (λ p. rnd p factor_one) (number_in_range (a *ℤ b))
