-- Products and ratios, step by step.
use Rattle.std.proofs.Common.{◌≡◌, ℕ, ◌*◌, ◌≤◌, ℤ, ◌*ℤ◌, Some, suc, ◌+◌, option_map, option_and_then, pos, negsuc, neg_ℤ, ◌<ℤ◌, unsigned_abs, refl, sym, ap, ap₂, ◌∙◌, arith}
use Rattle.std.proofs.lemmas.Bool.Decides.{nat_tests}
use Rattle.std.proofs.lemmas.Int.{ints}
use Rattle.std.proofs.lemmas.Nat.{mul-le}
use Rattle.act_num.proofs.Nearest.{nearest_split}
use Rattle.act_num.specs.Number.{InRange, largest, number_in_range, rnd, nearest_number, one, mul_of, mul_frac_of, nearest_quotient, ratio_of}

-- numbers of so many bits at most have a product in range
pub small-product : (a b m n : ℕ) → a ≤ m → b ≤ n → m * n ≤ largest → a * b ≤ largest
small-product a b m n le ge fits = omega (arith, mul-le a b m n le ge, fits)

-- a number in range is kept
pub kept_in_range : (z : ℤ) → InRange z → Some z ≡ number_in_range z
kept_in_range z h = grind (arith, nat_tests)

-- the product of two words
pub word-product : (a b : ℕ) → a ≤ 9223372036854775808 → b ≤ 9223372036854775808 → a * b ≤ largest
word-product a b le ge = small-product a b 9223372036854775808 9223372036854775808 le ge (omega arith)

-- the product of two numbers that words hold
pub in_words : (a b x y r s : ℤ) → Some r ≡ number_in_range (x *ℤ y) → x ≡ a → y ≡ b → s ≡ r → Some s ≡ number_in_range (a *ℤ b)
in_words a b x y r s value e f g = ap Some g ∙ value ∙ ap₂ (λ (u v : ℤ). number_in_range (u *ℤ v)) e f

-- a number of ones is rounded to that number
rnd_ones : (z b : ℤ) → z ≡ pos one *ℤ b → rnd z one ≡ b
rnd_ones (pos m) (pos n) e =
    let s : m ≡ n * one + 0 = omega (arith, ints) in
    ap (λ (k : ℕ). pos (nearest_number k one)) s ∙ ap pos (nearest_split n 0 one (omega arith))
rnd_ones (negsuc m) (negsuc n) e =
    let s : suc m ≡ suc n * one + 0 = omega (arith, ints) in
    ap (λ (k : ℕ). neg_ℤ (pos (nearest_number k one))) s ∙ ap (λ (k : ℕ). neg_ℤ (pos k)) (nearest_split (suc n) 0 one (omega arith))
rnd_ones (pos m) (negsuc n) e = absurd (omega (arith, ints))
rnd_ones (negsuc m) (pos n) e = absurd (omega (arith, ints))

-- a number times one is that number
pub one_times : (a b : ℤ) → a ≡ pos one → unsigned_abs b ≤ 9223372036854775808 → Some b ≡ mul_of a b
one_times a b e h =
    let same : a *ℤ b ≡ pos one *ℤ b = ap (λ (x : ℤ). x *ℤ b) e in
    let room : InRange (a *ℤ b) = rw same (omega (arith, ints)) in
    ap Some (sym (rnd_ones (a *ℤ b) b same)) ∙ ap (option_map (λ (x : ℤ). rnd x one)) (kept_in_range (a *ℤ b) room)

-- both products are in range, and the second one is rounded
pub mul_frac_of_steps : (a b num : ℤ) (den : ℕ) (p q r : ℤ) → Some p ≡ number_in_range (a *ℤ b) → Some q ≡ number_in_range (p *ℤ num) → r ≡ rnd q (den * one) → Some r ≡ mul_frac_of a b num den
mul_frac_of_steps a b num den p q r first second rounded =
    ap Some rounded
    ∙ ap (option_map (λ (x : ℤ). rnd x (den * one))) (second ∙ ap (option_and_then (λ (x : ℤ). number_in_range (x *ℤ num))) first)

nearest_quotient_below : (p b : ℤ) → b <ℤ pos 0 → Some (rnd (neg_ℤ p) (unsigned_abs b)) ≡ nearest_quotient p b
nearest_quotient_below p (pos n) h = absurd (omega (arith, ints))
nearest_quotient_below p (negsuc n) h = refl

-- by a divisor below 0: both numbers change their sign
pub ratio_of_below : (a b p m n r : ℤ) → Some p ≡ number_in_range (a *ℤ pos one) → b <ℤ pos 0 → m ≡ neg_ℤ p → n ≡ neg_ℤ b → r ≡ rnd m (unsigned_abs n) → Some r ≡ ratio_of a b
ratio_of_below a b p m n r first h e f rounded =
    let same : unsigned_abs n ≡ unsigned_abs b = omega (arith, ints) in
    ap Some (rounded ∙ ap₂ rnd e same)
    ∙ nearest_quotient_below p b h
    ∙ ap (option_and_then (λ (x : ℤ). nearest_quotient x b)) first
