-- Amounts that operations make are in range.
use Rattle.std.proofs.Common.{refl, cond, nat_le, ◌≡◌, ◌*◌, ◌/◌, ◌≤◌, ℕ, zero, suc, Bool, true, false, ℤ, pos, negsuc, neg_ℤ, ◌+ℤ◌, ◌-ℤ◌, ◌*ℤ◌, unsigned_abs, List, [], ◌∷◌, Option, Some, None, option_map, option_and_then, arith}
use Rattle.std.specs.Int.{int_max, int_min}
use Rattle.std.specs.List.{fold}
use Rattle.std.specs.Option.{IfSome}
use Rattle.std.proofs.Math.Nat.{div-zero}
use Rattle.std.proofs.lemmas.Bool.Decides.{nat_tests}
use Rattle.std.proofs.lemmas.Int.{clamps, ints}
use Rattle.act_annuity.specs.Payment.{annuity_payment, divisor_of, payment_by, products_at}
use Rattle.act_date.specs.Fraction.{Fraction}
use Rattle.act_model.specs.declared.choice.ContractRole.{ContractRole}
use Rattle.act_num.specs.Number.{InRange, add_of, clip_of, largest, mul_of, nearest_number, nearest_quotient, number_in_range, one, ratio_of, rnd, sub_of}
use Rattle.act_profile.specs.Formula.{interest_on, is_receiver, lesser, magnitude, minus, opposite, plus, signed, times, with_sign}

-- ---- what may be undefined

pub map-holds : {A B : Type 0} (P : A → Type 0) (Q : B → Type 0) (f : A → B) (value : Option A) → IfSome value P → ((x : A) → P x → Q (f x)) → IfSome (option_map f value) Q
map-holds P Q f None holds then = tt
map-holds P Q f (Some x) holds then = then x holds

pub and_then-holds : {A B : Type 0} (P : A → Type 0) (Q : B → Type 0) (f : A → Option B) (value : Option A) → IfSome value P → ((x : A) → P x → IfSome (f x) Q) → IfSome (option_and_then f value) Q
and_then-holds P Q f None holds then = tt
and_then-holds P Q f (Some x) holds then = then x holds

-- the same where it doesn't matter what the value is
pub whatever-holds : {A B : Type 0} (Q : B → Type 0) (f : A → Option B) (value : Option A) → ((x : A) → IfSome (f x) Q) → IfSome (option_and_then f value) Q
whatever-holds Q f None then = tt
whatever-holds Q f (Some x) then = then x

pub mapped-holds : {A B : Type 0} (Q : B → Type 0) (f : A → B) (value : Option A) → ((x : A) → Q (f x)) → IfSome (option_map f value) Q
mapped-holds Q f None then = tt
mapped-holds Q f (Some x) then = then x

-- an amount is in range, where it is defined
abbrev pub AmountHolds : Option ℤ → Type 0
AmountHolds amount = IfSome amount InRange

-- ---- numbers

pub zero-in_range : InRange (pos 0)
zero-in_range = omega arith

pub neg-holds : (z : ℤ) → InRange z → InRange (neg_ℤ z)
neg-holds z holds = omega (arith, ints)

pub int_min-holds : (a b : ℤ) → InRange a → InRange b → InRange (int_min a b)
int_min-holds a b first second = omega (arith, ints, clamps)

pub int_max-holds : (a b : ℤ) → InRange a → InRange b → InRange (int_max a b)
int_max-holds a b first second = omega (arith, ints, clamps)

pub clip-holds : (z : ℤ) (lo hi : Option ℤ) → InRange z → IfSome lo InRange → IfSome hi InRange → InRange (clip_of z lo hi)
clip-holds z None None holds low high = holds
clip-holds z (Some lo) None holds low high = int_max-holds z lo holds low
clip-holds z None (Some hi) holds low high = int_min-holds z hi holds high
clip-holds z (Some lo) (Some hi) holds low high = int_min-holds (int_max z lo) hi (int_max-holds z lo holds low) high

-- no number is rounded to a greater one
nearest-below : (n d : ℕ) → nearest_number n d ≤ n
unfolding nearest_number
nearest-below n zero = rw (div-zero n) (grind (arith, nat_tests))
nearest-below n (suc zero) = grind (arith, nat_tests)
nearest-below n (suc (suc d)) =
    let some : 2 * (n / suc (suc d)) ≤ suc (suc d) * (n / suc (suc d)) = omega arith in
    grind (arith, nat_tests)

pub rnd-holds : (p : ℤ) (d : ℕ) → InRange p → InRange (rnd p d)
rnd-holds (pos n) d holds = omega (arith, nearest-below n d)
rnd-holds (negsuc n) d holds = neg-holds (pos (nearest_number (suc n) d)) (omega (arith, nearest-below (suc n) d))

-- ---- operations

kept-holds : (test : Bool) (z : ℤ) → (test ≡ true → InRange z) → AmountHolds (cond test (Some z) None)
kept-holds true z holds = holds refl
kept-holds false z holds = tt

range-holds : (z : ℤ) → AmountHolds (number_in_range z)
range-holds z = kept-holds (nat_le (unsigned_abs z) largest) z (λ is. grind (arith, nat_tests))

pub add-holds : (a b : ℤ) → AmountHolds (add_of a b)
add-holds a b = range-holds (a +ℤ b)

pub sub-holds : (a b : ℤ) → AmountHolds (sub_of a b)
sub-holds a b = range-holds (a -ℤ b)

pub mul-holds : (a b : ℤ) → AmountHolds (mul_of a b)
mul-holds a b = map-holds InRange InRange (λ p. rnd p one) (number_in_range (a *ℤ b)) (range-holds (a *ℤ b)) (λ p. rnd-holds p one)

pub interest-holds : (a rate : ℤ) (part : Fraction) → AmountHolds (interest_on a rate part)
interest-holds a rate part =
    map-holds InRange InRange (λ p. rnd p (part.den * one)) _
    (whatever-holds InRange (λ p. number_in_range (p *ℤ pos part.num)) (number_in_range (a *ℤ rate)) (λ p. range-holds (p *ℤ pos part.num)))
    (λ p. rnd-holds p (part.den * one))

quotient-holds : (p b : ℤ) → InRange p → AmountHolds (nearest_quotient p b)
quotient-holds p (pos zero) holds = tt
quotient-holds p (pos (suc n)) holds = rnd-holds p (suc n) holds
quotient-holds p (negsuc n) holds = rnd-holds (neg_ℤ p) (suc n) (neg-holds p holds)

pub ratio-holds : (a b : ℤ) → AmountHolds (ratio_of a b)
ratio-holds a b = and_then-holds InRange InRange (λ p. nearest_quotient p b) (number_in_range (a *ℤ pos one)) (range-holds (a *ℤ pos one)) (λ p. quotient-holds p b)

-- ---- amounts that may be undefined

pub plus-holds : (a b : Option ℤ) → AmountHolds (plus a b)
plus-holds (Some a) (Some b) = add-holds a b
plus-holds a b = tt

pub minus-holds : (a b : Option ℤ) → AmountHolds (minus a b)
minus-holds (Some a) (Some b) = sub-holds a b
minus-holds a b = tt

pub times-holds : (a b : Option ℤ) → AmountHolds (times a b)
times-holds (Some a) (Some b) = mul-holds a b
times-holds a b = tt

pub lesser-holds : (a b : Option ℤ) → AmountHolds a → AmountHolds b → AmountHolds (lesser a b)
lesser-holds (Some a) (Some b) first second = int_min-holds a b first second
lesser-holds a b first second = tt

pub magnitude-holds : (a : Option ℤ) → AmountHolds a → AmountHolds (magnitude a)
magnitude-holds None holds = tt
magnitude-holds (Some a) holds = holds

pub sum-holds : (sum : Option ℤ) (amounts : List (Option ℤ)) → AmountHolds sum → AmountHolds (fold plus sum amounts)
sum-holds sum [] holds = holds
sum-holds sum (amount ∷ amounts) holds = sum-holds (plus sum amount) amounts (plus-holds sum amount)

-- ---- the sign of a role

with_sign-holds : (sign : Bool) (x : ℤ) → InRange x → InRange (with_sign sign x)
with_sign-holds true x holds = holds
with_sign-holds false x holds = neg-holds x holds

pub signed-holds : (role : ContractRole) (x : ℤ) → InRange x → InRange (signed role x)
signed-holds role x holds = with_sign-holds (is_receiver role) x holds

pub opposite-holds : (role : ContractRole) (x : ℤ) → InRange x → InRange (opposite role x)
opposite-holds role x holds = neg-holds (signed role x) (signed-holds role x holds)

-- ---- the payment of an annuity

payment-holds : (owed : ℤ) (products : List ℤ) → InRange owed → AmountHolds (payment_by owed products)
payment-holds owed [] holds = holds
payment-holds owed (q ∷ qs) holds =
    and_then-holds InRange InRange _ (number_in_range (owed *ℤ q)) (range-holds (owed *ℤ q)) (λ p product.
    mapped-holds InRange (rnd p) (divisor_of (q ∷ qs)) (λ d. rnd-holds p d product))

pub annuity-holds : (notional accrued rate : ℤ) (periods : List Fraction) → AmountHolds (annuity_payment notional accrued rate periods)
unfolding annuity_payment
annuity-holds notional accrued rate periods =
    and_then-holds InRange InRange _ (add_of notional accrued) (add-holds notional accrued) (λ owed holds.
    whatever-holds InRange (payment_by owed) (products_at rate periods) (λ products. payment-holds owed products holds))
