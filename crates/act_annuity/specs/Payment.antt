-- The payment of an annuity. ACTUS annuity amount function.
use Rattle.std.specs.Prelude.{ℕ, zero, suc, ℤ, pos, negsuc, ◌+ℤ◌, ◌*ℤ◌, List, [], ◌∷◌, Option, Some, None, option_map, option_and_then}
use Rattle.act_num.specs.Factor.{factor_one, one_plus_of, times_of}
use Rattle.act_num.specs.Number.{add_of, number_in_range, rnd}
use Rattle.act_date.specs.Fraction.{Fraction}

-- the factor by which a rate makes an amount grow in a period
abbrev pub factor_of : ℤ → Fraction → Option ℤ
factor_of rate period = one_plus_of rate (pos period.num) period.den

-- the factor of each period
unfoldable pub factors_of : ℤ → List Fraction → Option (List ℤ)
factors_of rate [] = Some []
factors_of rate (period ∷ later) =
    option_and_then (λ f. option_map (λ fs. f ∷ fs) (factors_of rate later)) (factor_of rate period)

-- the products of later periods with that of a factor and the first of them before them
abbrev pub with_product : ℤ → List ℤ → Option (List ℤ)
with_product f [] = Some (f ∷ [])
with_product f (q ∷ qs) = option_map (λ product. product ∷ q ∷ qs) (times_of q f)

-- of each factor the product with those behind it, multiplied from the last one back
unfoldable pub products_of : List ℤ → Option (List ℤ)
products_of [] = Some []
products_of (f ∷ fs) = option_and_then (with_product f) (products_of fs)

-- the product from each period on
abbrev pub products_at : ℤ → List Fraction → Option (List ℤ)
products_at rate periods = option_and_then products_of (factors_of rate periods)

-- the sum of a number and the products, added in this order, where each sum is in range
unfoldable pub sum_from : ℤ → List ℤ → Option ℤ
sum_from sum [] = Some sum
sum_from sum (q ∷ qs) = option_and_then (λ next. sum_from next qs) (number_in_range (sum +ℤ q))

-- the number, where it is above 0
abbrev pub positive : ℤ → Option ℕ
positive (pos zero) = None
positive (pos (suc n)) = Some (suc n)
positive (negsuc n) = None

-- the factor 1 and the products, added up, where that is above 0
abbrev pub divisor_of : List ℤ → Option ℕ
divisor_of qs = option_and_then positive (sum_from (pos factor_one) qs)

-- what is owed, where there is no product, and else its product with the first one over the divisor, rounded once
abbrev pub payment_by : ℤ → List ℤ → Option ℤ
payment_by owed [] = Some owed
payment_by owed (q ∷ qs) =
    option_and_then (λ p. option_map (rnd p) (divisor_of (q ∷ qs))) (number_in_range (owed *ℤ q))

-- the payment that redeems a notional and the interest accrued on it, if it is paid at the start of each period and at
-- the end of the last one
unfoldable pub annuity_payment : ℤ → ℤ → ℤ → List Fraction → Option ℤ
annuity_payment notional accrued rate periods =
    option_and_then (λ owed. option_and_then (payment_by owed) (products_at rate periods)) (add_of notional accrued)
