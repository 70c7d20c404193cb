-- What is asked of the terms of a contract, kind by kind: each cycle that they give leads on, so its period has at least one unit, and a LAM without a
-- maturity has what it is derived from. This profile's own.
use Rattle.std.specs.Prelude.{◌≡◌, int_lt, ℤ, pos, true, IsTrue, is_some, Option, Some, None}
use Rattle.std.specs.Option.{ForSome}
use Rattle.act_model.specs.declared.terms.Kind.{Kind}
use Rattle.act_model.specs.declared.terms.Kind.TheVariants.{PAM, LAM, NAM, ANN, STK, FXOUT, SWPPV, SWAPS, CAPFL, OPTNS, FUTUR, CEG, CEC}
use Rattle.act_model.specs.declared.terms.Lam.{Lam}
use Rattle.act_model.specs.declared.terms.Loan.{Loan}
use Rattle.act_model.specs.declared.terms.Redemption.{Redemption}
use Rattle.act_model.specs.declared.terms.Swppv.{Swppv}
use Rattle.act_profile.specs.LoanTerms.{LoanTerms}
pub use Rattle.act_sched.specs.Schedule.{LeadsOn}

-- each cycle of the terms that all loans have does
pub record LoanLeadsOn (l : Loan) : Type 0 where
  pub interest : LeadsOn l.cycle_of_interest_payment
  pub reset : LeadsOn l.rate_reset.cycle_of_rate_reset
  pub fee : LeadsOn l.fee.cycle_of_fee
  pub scaling : LeadsOn l.scaling.cycle_of_scaling_index

-- each cycle of the terms of redemption does
pub record RedemptionLeadsOn (r : Redemption) : Type 0 where
  pub redemption : LeadsOn r.cycle_of_principal_redemption
  pub base : LeadsOn r.cycle_of_interest_calculation_base

-- each cycle of a loan's terms does
pub record CyclesLeadOn (l : LoanTerms) : Type 0 where
  pub loan : LoanLeadsOn l.loan
  pub redemption : ForSome l.redemption RedemptionLeadsOn

-- what is asked of a loan whose principal is redeemed: its cycles lead on
pub record AmortizingLeadsOn (l : Loan) (r : Redemption) : Type 0 where
  pub loan : LoanLeadsOn l
  pub redemption : RedemptionLeadsOn r

-- what is asked of a LAM besides: without a maturity its payment is above 0, and there is a cycle
abbrev pub DerivesMaturity : Lam → Option ℤ → Type 0
DerivesMaturity lam (Some maturity) = Unit {0}
DerivesMaturity lam None = ForSome lam.next_principal_redemption_payment (λ payment. int_lt (pos 0) payment ≡ true) × (IsTrue (is_some lam.next_principal_redemption_payment)) × (IsTrue (is_some lam.redemption.cycle_of_principal_redemption))

-- what is asked of a LAM
pub record LamIsBuilt (lam : Lam) : Type 0 where
  pub cycles : AmortizingLeadsOn lam.loan lam.redemption
  pub maturity : DerivesMaturity lam lam.maturity_date

-- what is asked of a plain swap: its cycles lead on
pub record PlainSwapLeadsOn (swap : Swppv) : Type 0 where
  pub interest : LeadsOn swap.cycle_of_interest_payment
  pub reset : LeadsOn swap.rate_reset.cycle_of_rate_reset

-- what is asked of the terms of a kind
abbrev pub IsBuilt : Kind → Type 0
IsBuilt (PAM pam) = LoanLeadsOn pam.loan
IsBuilt (LAM lam) = LamIsBuilt lam
IsBuilt (NAM nam) = AmortizingLeadsOn nam.loan nam.redemption
IsBuilt (ANN ann) = AmortizingLeadsOn ann.loan ann.redemption
IsBuilt (STK stk) = Unit {0}
IsBuilt (FXOUT fxout) = Unit {0}
IsBuilt (SWPPV swppv) = PlainSwapLeadsOn swppv
IsBuilt (SWAPS swaps) = Unit {0}
IsBuilt (CAPFL capfl) = Unit {0}
IsBuilt (OPTNS optns) = Unit {0}
IsBuilt (FUTUR futur) = Unit {0}
IsBuilt (CEG ceg) = Unit {0}
IsBuilt (CEC cec) = Unit {0}
