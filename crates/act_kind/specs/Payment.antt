-- What the code of a table of steps says of a payoff.
use Rattle.std.specs.Prelude.{ℕ, Option, Some, None}
use Rattle.act_kind.specs.declared.table.Payment.{Payment}
use Rattle.act_kind.specs.declared.table.Payment.TheVariants.{Nothing, Amount, AmountBy}
use Rattle.act_profile.specs.Step.{Payoff, nothing, pays, pays_by}

-- what a payoff is by: nothing, an amount, or an amount by the value of a code
abbrev pub payment_of : Payoff → Payment
payment_of nothing = Nothing
payment_of (pays amount) = Amount
payment_of (pays_by code amount) = AmountBy code

-- the code that it reads
abbrev pub read_code : Payment → Option ℕ
read_code Nothing = None
read_code Amount = None
read_code (AmountBy code) = Some code

-- the code of the settlement factor, which isn't read where nothing is paid
abbrev pub factor_code : Option ℕ → Payment → Option ℕ
factor_code factor Nothing = None
factor_code factor Amount = factor
factor_code factor (AmountBy code) = factor
