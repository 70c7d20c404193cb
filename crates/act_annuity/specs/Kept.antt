-- Factors that are kept with their periods.
use Rattle.std.specs.Prelude.{◌≡◌, ℤ, List, Option, Some, IfSome, All}
use Rattle.act_date.specs.Fraction.{Fraction}
use Rattle.act_annuity.specs.Payment.{factor_of}

-- where a slot keeps a factor, it is the one of the period beside it at the rate
abbrev pub IsKept : ℤ → Option (Fraction × ℤ) → Type 0
IsKept rate slot = IfSome slot (λ kept. factor_of rate kept.0 ≡ Some kept.1)

-- the same of each slot
abbrev pub AreKept : ℤ → List (Option (Fraction × ℤ)) → Type 0
AreKept rate slots = All (IsKept rate) slots
