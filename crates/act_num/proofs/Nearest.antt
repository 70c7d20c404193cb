-- What rounding gives.
use Rattle.std.proofs.Common.{◌≡◌, ℕ, zero, suc, ◌+◌, ◌*◌, ◌/◌, ◌%◌, ◌<◌, ◌≤◌, Bool, true, false, ℤ, pos, negsuc, neg_ℤ, ◌-ℤ◌, ◌*ℤ◌, unsigned_abs, refl, sym, ◌∙◌, ap, ⊎_elim, cond, arith}
use Rattle.std.proofs.lemmas.Bool.{cases_lt}
use Rattle.std.proofs.lemmas.Int.{ints}
use Rattle.std.proofs.lemmas.Nat.{div-mul-add, mod-mul-add}
use mir.Val.{bool_byte}
use Rattle.act_num.specs.Number.{nearest_number, rnd, rounds_up, IsNearest}

-- n and a multiple m of d are at most half of d apart, and m is even where they are just that
pub record IsWithinHalf (n d m : ℕ) : Type 0 where
  pub above : 2 * n ≤ 2 * (m * d) + d
  pub below : 2 * (m * d) ≤ 2 * n + d
  pub even_above : 2 * n ≡ 2 * (m * d) + d → m % 2 ≡ 0
  pub even_below : 2 * (m * d) ≡ 2 * n + d → m % 2 ≡ 0

next_multiple : (m d : ℕ) → (m + 1) * d ≡ m * d + d
next_multiple m d = omega arith

quotient : (n d : ℕ) → n / d * d + n % d ≡ n
quotient n d = omega arith

pub more_is : (b : Bool) (n : ℕ) → n + bool_byte b ≡ cond b (n + 1) n
more_is true n = refl
more_is false n = omega arith

-- a whole part k and a rest m of d
pub nearest_split : (k m d : ℕ) → m < d → nearest_number (k * d + m) d ≡ cond (rounds_up k m d) (k + 1) k
unfolding nearest_number
nearest_split k m d h = rw (div-mul-add k d m h, mod-mul-add k d m h) refl

pub nearest_number-within_half : (n d : ℕ) → 0 < d → IsWithinHalf n d (nearest_number n d)
unfolding nearest_number
nearest_number-within_half n d h =
    let q = quotient n d in
    let k = next_multiple (n / d) d in
    record { above = grind arith; below = grind arith; even_above = grind arith; even_below = grind arith }

at_tie : (n k d r : ℕ) → (2 * n ≡ 2 * k + d → r ≡ 0) → (2 * k ≡ 2 * n + d → r ≡ 0) → 2 * unsigned_abs (pos n -ℤ pos k) ≡ d → r ≡ 0
at_tie n k d r above below e =
    ⊎_elim (λ under. below (omega (arith, ints))) (λ over. above (omega (arith, ints))) (cases_lt n k)

rnd_pos : (n d m : ℕ) → IsWithinHalf n d m → IsNearest (pos n) d (pos m)
rnd_pos n d m h = record {
  near = omega (arith, ints, h.above, h.below);
  even_at_tie = at_tie n (m * d) d (m % 2) h.even_above h.even_below;
}

pub neg-mul : (m d : ℕ) → neg_ℤ (pos m) *ℤ pos d ≡ neg_ℤ (pos (m * d))
neg-mul zero d = let none : 0 * d ≡ 0 = omega arith in ap pos none ∙ sym (ap (λ (k : ℕ). neg_ℤ (pos k)) none)
neg-mul (suc m) d = refl

-- rounding is the same on either side of zero
other_side : (n d m : ℕ) → IsNearest (pos n) d (pos m) → IsNearest (neg_ℤ (pos n)) d (neg_ℤ (pos m))
other_side n d m h =
    let e : unsigned_abs (neg_ℤ (pos n) -ℤ neg_ℤ (pos m) *ℤ pos d) ≡ unsigned_abs (pos n -ℤ pos m *ℤ pos d) = rw (neg-mul m d) (omega (arith, ints)) in
    record {
      near = rw e h.near;
      even_at_tie = λ tie. (omega (arith, ints)) ∙ h.even_at_tie (rw e at tie);
    }

pub rnd-nearest : (p : ℤ) (d : ℕ) → 0 < d → IsNearest p d (rnd p d)
rnd-nearest (pos n) d h = rnd_pos n d _ (nearest_number-within_half n d h)
rnd-nearest (negsuc n) d h = other_side (suc n) d _ (rnd_pos (suc n) d _ (nearest_number-within_half (suc n) d h))
