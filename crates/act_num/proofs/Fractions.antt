-- The product of two words with a fraction, by its sign and its magnitude.
use Rattle.std.proofs.Common.{◌≡◌, ℕ, zero, suc, ◌*◌, ◌<◌, ◌≤◌, Some, Bool, true, false, ℤ, pos, negsuc, neg_ℤ, ◌*ℤ◌, ◌≤ℤ◌, unsigned_abs, refl, sym, ◌∙◌, ap, ap₂, arith}
use Rattle.std.proofs.lemmas.Int.{ints, unsigned_abs-mul}
use mathlib.Core.Bool.{beq}
use lib.Signed.{lt_z}
use Rattle.act_num.specs.Number.{InRange, largest, mul_frac_of, nearest_number, one, rnd}
use Rattle.act_num.proofs.Estimates.{nearest_number-le}
use Rattle.act_num.proofs.Nearest.{neg-mul}
use Rattle.act_num.proofs.Products.{kept_in_range, mul_frac_of_steps, word-product}

-- whether two numbers have one sign
abbrev pub have_one_sign : ℤ → ℤ → Bool
have_one_sign a b = beq (lt_z a (pos 0)) (lt_z b (pos 0))

from_zero : (m : ℕ) → lt_z (pos m) (pos 0) ≡ false
from_zero m = grind (arith, ints)

of_one_sign : (a b : ℤ) → have_one_sign a b ≡ true → a *ℤ b ≡ pos (unsigned_abs a * unsigned_abs b)
of_one_sign (pos m) (pos n) e = refl
of_one_sign (pos m) (negsuc n) e = let fails : false ≡ true = rw (from_zero m) at e in cc
of_one_sign (negsuc m) (pos n) e = let fails : false ≡ true = rw (from_zero n) at e in cc
of_one_sign (negsuc m) (negsuc n) e = refl

of_two_signs : (a b : ℤ) → have_one_sign a b ≡ false → a *ℤ b ≡ neg_ℤ (pos (unsigned_abs a * unsigned_abs b))
of_two_signs (pos m) (pos n) e = let fails : true ≡ false = rw (from_zero m, from_zero n) at e in cc
of_two_signs (pos m) (negsuc n) e = refl
of_two_signs (negsuc m) (pos n) e = refl
of_two_signs (negsuc m) (negsuc n) e = cc

rnd_below : (m d : ℕ) → 0 < d → rnd (neg_ℤ (pos m)) d ≡ neg_ℤ (pos (nearest_number m d))
rnd_below zero d h =
    let none : nearest_number 0 d ≡ 0 = omega (arith, nearest_number-le 0 d h) in
    rw none refl
rnd_below (suc m) d h = refl

not_below : (num : ℤ) → pos 0 ≤ℤ num → num ≡ pos (unsigned_abs num)
not_below num h = omega (arith, ints)

module _ (a b num : ℤ) (den m n : ℕ) (low : unsigned_abs a ≤ 9223372036854775808) (high : unsigned_abs b ≤ 9223372036854775808) (above : pos 0 ≤ℤ num) (some : 1 ≤ den) (are : m ≡ unsigned_abs a * unsigned_abs b * unsigned_abs num) (fits : m ≤ largest) (nearest : n ≡ nearest_number m (den * one)) where
  by_steps : (r : ℤ) → r ≡ rnd (a *ℤ b *ℤ num) (den * one) → Some r ≡ mul_frac_of a b num den
  by_steps r rounded =
      let first : InRange (a *ℤ b) = rw (unsigned_abs-mul a b) (word-product _ _ low high) in
      let both : InRange (a *ℤ b *ℤ num) = rw (unsigned_abs-mul (a *ℤ b) num, unsigned_abs-mul a b, ← are) fits in
      mul_frac_of_steps a b num den (a *ℤ b) (a *ℤ b *ℤ num) r (kept_in_range _ first) (kept_in_range _ both) rounded

  pub frac_of_one_sign : (r : ℤ) → have_one_sign a b ≡ true → r ≡ pos n → Some r ≡ mul_frac_of a b num den
  frac_of_one_sign r e is =
      let product : a *ℤ b *ℤ num ≡ pos m = ap₂ (λ (x y : ℤ). x *ℤ y) (of_one_sign a b e) (not_below num above) ∙ ap pos (sym are) in
      by_steps r (is ∙ ap pos nearest ∙ sym (ap (λ (z : ℤ). rnd z (den * one)) product))

  pub frac_of_two_signs : (r : ℤ) → have_one_sign a b ≡ false → r ≡ neg_ℤ (pos n) → Some r ≡ mul_frac_of a b num den
  frac_of_two_signs r e is =
      let product : a *ℤ b *ℤ num ≡ neg_ℤ (pos m) =
      ap₂ (λ (x y : ℤ). x *ℤ y) (of_two_signs a b e) (not_below num above) ∙ neg-mul _ _ ∙ ap (λ (k : ℕ). neg_ℤ (pos k)) (sym are) in
      by_steps r (is ∙ ap (λ (k : ℕ). neg_ℤ (pos k)) nearest ∙ sym (ap (λ (z : ℤ). rnd z (den * one)) product ∙ rnd_below m (den * one) (omega (arith, some))))
