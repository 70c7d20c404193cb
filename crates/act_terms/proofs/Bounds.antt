-- The tests of bounds in the code, as those of the definitions.
use Rattle.std.proofs.Common.{◌≡◌, ℤ, int_cmp, int_le, int_lt, is_le, is_lt, true, false, inl, inr, arith}
use Rattle.std.proofs.lemmas.Bool.{cases_Bool}
use Rattle.std.proofs.lemmas.Int.{ints}

-- a number that isn't above a bound, and one that is
pub not_above : (a b : ℤ) → is_le (int_cmp a b) ≡ true → int_lt b a ≡ false
not_above a b test = elim (cases_Bool (int_lt b a)) [ inl holds ↦ absurd (grind (arith, ints)) | inr fails ↦ fails ]

pub above : (a b : ℤ) → is_le (int_cmp a b) ≡ false → int_lt b a ≡ true
above a b test = elim (cases_Bool (int_lt b a)) [ inl holds ↦ holds | inr fails ↦ absurd (grind (arith, ints)) ]

-- a number below a bound, and one that isn't
pub below : (a b : ℤ) → is_lt (int_cmp a b) ≡ true → int_le b a ≡ false
below a b test = elim (cases_Bool (int_le b a)) [ inl holds ↦ absurd (grind (arith, ints)) | inr fails ↦ fails ]

pub not_below : (a b : ℤ) → is_lt (int_cmp a b) ≡ false → int_le b a ≡ true
not_below a b test = elim (cases_Bool (int_le b a)) [ inl holds ↦ holds | inr fails ↦ absurd (grind (arith, ints)) ]
