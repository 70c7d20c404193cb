-- Factors that are kept with their periods.
use Rattle.std.proofs.Common.{◌≡◌, ◌<◌, ◌&&◌, ℕ, ℤ, pos, int_eq, true, List, length, slice_index_or, Option, Some, sym, arith}
use Rattle.std.proofs.lemmas.Bool.Decides.{nat_tests}
use Rattle.act_date.specs.Fraction.{Fraction}
use Rattle.act_annuity.specs.Kept.{AreKept}
use Rattle.act_annuity.specs.Payment.{factor_of}

-- the factor of a slot whose period is found to be the same
pub kept_is : (rate : ℤ) (slots : List (Option (Fraction × ℤ))) (k : ℕ) (d : Option (Fraction × ℤ)) (known period : Fraction) (factor : ℤ) → AreKept rate slots → k < length slots → slice_index_or slots k d ≡ Some (known, factor) → (int_eq (pos known.num) (pos period.num) && int_eq (pos known.den) (pos period.den)) ≡ true → Some factor ≡ factor_of rate period
kept_is rate slots k d known period factor are within at same =
    let num : known.num ≡ period.num = grind (arith, nat_tests) in
    let den : known.den ≡ period.den = grind (arith, nat_tests) in
    let of_known : factor_of rate known ≡ Some factor = rw at at (are k d within) in
    sym (rw (num, den) at of_known)
