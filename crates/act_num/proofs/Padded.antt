-- Digits with leading zeros, and texts put together from pieces.
use Rattle.std.proofs.Common.{◌≡◌, ℕ, zero, suc, ◌+◌, ◌-◌, ◌/◌, ◌≤◌, List, [], ◌++◌, length, drop, decimal, codes, ℤ, pos, int_lt, unsigned_abs, refl, sym, ◌∙◌, ap, length-append, arith}
use Rattle.std.proofs.lemmas.Bool.{cond_both}
use Rattle.std.proofs.lemmas.Fmt.{decimal_digit, length-decimal-le_wide}
use Rattle.std.proofs.lemmas.List.{drop-drop}
use Rattle.act_num.specs.Decimal.{fraction_text, printed, sign_text}
use Rattle.act_num.specs.Digits.{padded_digits}
use Rattle.act_num.specs.Number.{InRange, one}

length-padded_digits : (k n : ℕ) → length (padded_digits k n) ≡ k
length-padded_digits zero n = refl
length-padded_digits (suc k) n = length-append (padded_digits k (n / 10)) _ ∙ ap (λ m. m + 1) (length-padded_digits k (n / 10)) ∙ omega arith

pub length-fraction_text : (units : ℕ) → length (fraction_text units) ≡ 9
unfolding fraction_text
length-fraction_text units = length-padded_digits 9 units

-- the whole part of a number in range has at most thirty digits
pub whole_short : (z : ℤ) → InRange z → length (decimal (unsigned_abs z / one)) ≤ 30
whole_short z h = length-decimal-le_wide 30 (unsigned_abs z / one) (omega arith) (omega arith) (omega arith)

pub sign_short : (z : ℤ) → length (sign_text z) ≤ 1
sign_short z = cond_both (int_lt z (pos 0)) (codes "-") [] (λ xs. length xs ≤ 1) (λ _. omega arith) (λ _. omega arith)

pub printed_zero : printed (pos 0) ≡ codes "0.000000000"
unfolding printed fraction_text
printed_zero = ap (λ (xs : List ℕ). xs ++ codes "." ++ padded_digits 9 0) (decimal_digit 0 (omega arith))

-- what stands behind one place stands behind a later one
pub drop_later : (xs ys : List ℕ) (m n : ℕ) → drop m xs ≡ drop m ys → m ≤ n → drop n xs ≡ drop n ys
drop_later xs ys m n e h =
    let far : m + (n - m) ≡ n = omega arith in
    let from = drop-drop (n - m) m xs ∙ ap (λ k. drop k xs) far in
    let to = drop-drop (n - m) m ys ∙ ap (λ k. drop k ys) far in
    sym from ∙ ap (drop (n - m)) e ∙ to

pub ruleset writing_steps = (whole_short, sign_short)
