-- A loan, whatever its kind: PAM, LAM, NAM and ANN have these terms in common.
use Rattle.std.specs.Prelude.{List, ℤ, Option, Some, None, option_map, option_and_then, Result, Ok}
use Rattle.std.specs.Result.{result_ok}
use Rattle.act_profile.specs.Outcomes.{map_ok}
use Rattle.act_date.specs.DayCount.{year_fraction}
use Rattle.act_date.specs.Fraction.{Fraction}
use Rattle.act_model.specs.declared.choice.ContractType.{ContractType}
use Rattle.act_model.specs.declared.choice.ContractType.TheVariants as type
use Rattle.act_model.specs.declared.choice.InterestCalculationBase.{InterestCalculationBase}
use Rattle.act_model.specs.declared.choice.InterestCalculationBase.TheVariants.{NT}
use Rattle.act_model.specs.declared.run.PlanFault.{PlanFault}
use Rattle.act_model.specs.declared.terms.Common.{Common}
use Rattle.act_model.specs.declared.terms.Kind.{Kind}
use Rattle.act_model.specs.declared.terms.Kind.TheVariants as kind
use Rattle.act_model.specs.declared.terms.Loan.{Loan}
use Rattle.act_model.specs.declared.terms.Redemption.{Redemption}
use Rattle.act_profile.specs.Dates.{maturity_of_lam, recurring, without}
use Rattle.act_profile.specs.Formula.{signed}
use Rattle.act_date.specs.declared.cycle.Cycle.{Cycle}

-- a loan's terms: of a PAM without those of redemption; the payment is the given one; the maturity T is the given or the derived one
pub record LoanTerms : Type 0 where
  pub type : ContractType
  pub common : Common
  pub loan : Loan
  pub redemption : Option Redemption
  pub payment : Option ℤ
  pub maturity : ℤ

-- a loan's terms, or why it has no maturity; none of another kind
abbrev pub loan_terms_or_fault : Common → Kind → Option (Result LoanTerms PlanFault)
loan_terms_or_fault common (kind.PAM pam) =
    Some (Ok (record { type = type.PAM; common = common; loan = pam.loan; redemption = None; payment = None; maturity = pam.maturity_date }))
loan_terms_or_fault common (kind.LAM lam) =
    Some (map_ok (λ maturity. record { type = type.LAM; common = common; loan = lam.loan; redemption = Some lam.redemption; payment = lam.next_principal_redemption_payment; maturity = maturity }) (maturity_of_lam lam))
loan_terms_or_fault common (kind.NAM nam) =
    Some (Ok (record { type = type.NAM; common = common; loan = nam.loan; redemption = Some nam.redemption; payment = Some nam.next_principal_redemption_payment; maturity = nam.maturity_date }))
loan_terms_or_fault common (kind.ANN ann) =
    Some (Ok (record { type = type.ANN; common = common; loan = ann.loan; redemption = Some ann.redemption; payment = ann.next_principal_redemption_payment; maturity = ann.maturity_date }))
loan_terms_or_fault common other = None

-- the terms of a loan that has a plan
abbrev pub loan_terms_of : Common → Kind → Option LoanTerms
loan_terms_of common kind = option_and_then result_ok (loan_terms_or_fault common kind)

-- Y(s, t): the part of a year between two days
abbrev pub part_of_year : LoanTerms → ℤ → ℤ → Fraction
part_of_year l s t = year_fraction l.loan.day_count_convention l.common.calendar s t (Some l.maturity)

-- what interest is computed on; a PAM, which hasn't the term, counts as NT
abbrev pub base_or_notional : Option Redemption → InterestCalculationBase
base_or_notional None = NT
base_or_notional (Some redemption) = redemption.interest_calculation_base

-- the same of a loan's terms
abbrev pub interest_calculation_base_of : LoanTerms → InterestCalculationBase
interest_calculation_base_of l = base_or_notional l.redemption

-- the amount of the base, where one is given
abbrev pub base_amount_of : Option Redemption → Option ℤ
base_amount_of None = None
base_amount_of (Some redemption) = redemption.interest_calculation_base_amount

-- R*x, by the contract's role
abbrev pub own_sign : LoanTerms → ℤ → ℤ
own_sign l x = signed l.common.contract_role x

-- the dates of an anchor and a cycle up to maturity, and the same without maturity
abbrev pub dates_to_maturity : LoanTerms → Option ℤ → Option Cycle → Option (List ℤ)
dates_to_maturity l anchor cycle =
    recurring l.common.end_of_month_convention l.loan.initial_exchange_date l.maturity anchor cycle

abbrev pub dates_before_maturity : LoanTerms → Option ℤ → Option Cycle → Option (List ℤ)
dates_before_maturity l anchor cycle = option_map (without l.maturity) (dates_to_maturity l anchor cycle)
