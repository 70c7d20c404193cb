-- What clauses on the passes over the periods, from the last one back, say.
use Rattle.std.specs.Prelude.{if◌then◌else◌, int_lt, ℤ, pos, ◌+ℤ◌, ◌-ℤ◌, List, [], ◌∷◌, Option, Some, None, option_map, option_and_then}
use Rattle.std.specs.Int.{w128, int_wrap}
use Rattle.act_num.specs.Factor.{times_of}
use Rattle.act_num.specs.Number.{number_in_range}
use Rattle.act_date.specs.Fraction.{Fraction}
use Rattle.act_annuity.specs.declared.annuity.Change.{Change}
use Rattle.act_annuity.specs.declared.annuity.Change.TheVariants.{Add, TakeAway, Raise}
use Rattle.act_annuity.specs.Payment.{divisor_of, factor_of, products_at}

-- the first of some products
abbrev pub first_of : List ℤ → Option ℤ
first_of [] = None
first_of (q ∷ qs) = Some q

-- a factor, or its product with the one of the later factors where there are some
abbrev pub product_with : Option ℤ → ℤ → Option ℤ
product_with None f = Some f
product_with (Some later) f = times_of later f

-- the product from a period on, by the one behind it
abbrev pub product_from : ℤ → Fraction → Option ℤ → Option ℤ
product_from rate period later = option_and_then (product_with later) (factor_of rate period)

-- a product is added, and the sum wraps around past 128 bits; or it is taken away, and the rest is in range; or it is added where it isn't below 0,
-- and the sum is in range
abbrev pub changed : Change → ℤ → ℤ → Option ℤ
changed Add number q = Some (int_wrap w128 (number +ℤ q))
changed TakeAway number q = number_in_range (number -ℤ q)
changed Raise number q = if int_lt q (pos 0) then None else number_in_range (number +ℤ q)

-- what a number becomes that the products change one after the other, from the last one back
unfoldable pub pass_over : Change → ℤ → List ℤ → Option ℤ
pass_over change start [] = Some start
pass_over change start (q ∷ qs) = option_and_then (λ number. changed change number q) (pass_over change start qs)

-- the first product, and that number
abbrev pub first_and_passed : Change → ℤ → List ℤ → Option (Option ℤ × ℤ)
first_and_passed change start qs = option_map (λ number. (first_of qs, number)) (pass_over change start qs)

-- the same for the products of the periods
abbrev pub passed : Change → ℤ → ℤ → List Fraction → Option (Option ℤ × ℤ)
passed change start rate periods = option_and_then (first_and_passed change start) (products_at rate periods)

-- the first product, and the divisor
abbrev pub first_and_divisor : List ℤ → Option (Option ℤ × ℤ)
first_and_divisor qs = option_map (λ divisor. (first_of qs, pos divisor)) (divisor_of qs)
