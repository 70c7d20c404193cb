-- What a portfolio has to have so that its runs can be printed: days, numbers of the range, and codes and currencies that have names. This
-- profile's own.
use Rattle.std.specs.Prelude.{◌≡◌, ℕ, ◌<◌, Option, map, Ok, IfSome}
use Rattle.std.specs.List.{All}
use Rattle.act_model.specs.Bounds.{AreBounded, IsDated}
use Rattle.act_model.specs.declared.terms.Kind.{Kind}
use Rattle.act_model.specs.declared.terms.Kind.TheVariants as kind
use Rattle.act_model.specs.declared.terms.Terms.{Terms}
use Rattle.act_profile.specs.Plan.{plan_of}
use Rattle.act_profile.specs.Reads.{codes_of}
use Rattle.act_profile.specs.Run.{Contracts}

-- a number that is given is one of so many
abbrev pub IsBelow : ℕ → Option ℕ → Type 0
IsBelow count number = IfSome number (λ n. n < count)

-- the other currency of an outright is one of so many
abbrev pub OtherIsNamed : ℕ → Kind → Type 0
OtherIsNamed currencies (kind.FXOUT fxout) = fxout.currency2 < currencies
OtherIsNamed currencies other = Unit {0}

-- the codes that a contract reads and its currencies are among so many
pub record AreNamed (codes currencies : ℕ) (terms : Terms) : Type 0 where
  pub codes_read : All (λ code. code < codes) (codes_of terms)
  pub currency : terms.common.currency < currencies
  pub settlement : IsBelow currencies terms.common.settlement_currency
  pub other : OtherIsNamed currencies terms.kind

-- the contracts of a portfolio that can be printed by so many names: each has the plan of its terms, its days are days and its amounts numbers
-- of the range, and what it names is named
pub record ArePrintable (codes currencies : ℕ) (contracts : Contracts) : Type 0 where
  pub planned : map plan_of contracts.terms ≡ map Ok contracts.plans
  pub bounded : All AreBounded contracts.terms
  pub dated : All IsDated contracts.plans
  pub named : All (AreNamed codes currencies) contracts.terms
