-- What days and amounts are that the program holds: days from 1900 to 2299, and numbers of the range. This profile's own.
use Rattle.std.specs.Prelude.{ℤ, Option, Some, IfSome}
use Rattle.std.specs.List.{All}
use Rattle.act_num.specs.Number.{InRange}
use Rattle.act_date.specs.Civil.{IsDay}
use Rattle.act_model.specs.Run.{EventPlan}
use Rattle.act_model.specs.declared.event.Event.{Event}
use Rattle.act_model.specs.declared.journal.Step.{Step}
use Rattle.act_model.specs.declared.journal.Step.TheVariants.{Append, Ask}
use Rattle.act_model.specs.declared.observed.Obs.{Obs}
use Rattle.act_model.specs.declared.observed.Obs.TheVariants as obs
use Rattle.act_model.specs.declared.terms.Fxout.{Fxout}
use Rattle.act_model.specs.declared.terms.Kind.{Kind}
use Rattle.act_model.specs.declared.terms.Kind.TheVariants as kind
use Rattle.act_model.specs.declared.terms.Loan.{Loan}
use Rattle.act_model.specs.declared.terms.RateReset.{RateReset}
use Rattle.act_model.specs.declared.terms.Redemption.{Redemption}
use Rattle.act_model.specs.declared.terms.Swppv.{Swppv}
use Rattle.act_model.specs.declared.terms.Terms.{Terms}

-- ---- entries

-- the day of an entry is a day, and its value a number of the range
abbrev pub EntryIsBounded : Obs → Type 0
EntryIsBounded (obs.Rate code day value) = IsDay day × InRange value
EntryIsBounded (obs.Event contract kind day value) = IsDay day × InRange value

-- so is what a step appends
abbrev pub StepIsBounded : Step → Type 0
StepIsBounded (Append entry) = EntryIsBounded entry
StepIsBounded (Ask asked) = Unit {0}

-- ---- terms

-- the rates that a reset may bring about without a sum
pub record ResetIsBounded (reset : RateReset) : Type 0 where
  pub next : IfSome reset.next_reset_rate InRange
  pub cap : IfSome reset.life_cap InRange
  pub floor : IfSome reset.life_floor InRange

-- the amounts of a loan that a step takes as they are
pub record LoanIsBounded (loan : Loan) : Type 0 where
  pub notional : InRange loan.notional_principal
  pub rate : IfSome loan.nominal_interest_rate InRange
  pub interest : IfSome loan.accrued_interest InRange
  pub reset : ResetIsBounded loan.rate_reset
  pub fee : IfSome loan.fee.fee_rate InRange
  pub fee_accrued : InRange loan.fee.fee_accrued
  pub penalty : InRange loan.penalty_rate

-- those of a loan that redeems, with its payment
pub record RedemptionIsBounded (loan : Loan) (redemption : Redemption) (payment : Option ℤ) : Type 0 where
  pub own : LoanIsBounded loan
  pub base : IfSome redemption.interest_calculation_base_amount InRange
  pub paid : IfSome payment InRange

-- those of an outright
pub record OutrightIsBounded (fxout : Fxout) : Type 0 where
  pub notional : InRange fxout.notional_principal
  pub notional2 : InRange fxout.notional_principal2

-- those of a plain swap
pub record PlainSwapIsBounded (swppv : Swppv) : Type 0 where
  pub notional : InRange swppv.notional_principal
  pub rate : InRange swppv.nominal_interest_rate
  pub rate2 : InRange swppv.nominal_interest_rate2
  pub reset : ResetIsBounded swppv.rate_reset

-- those of any kind; of an option the last day of exercise. What other kinds have is part of a sum, a difference or a product
abbrev pub KindIsBounded : Kind → Type 0
KindIsBounded (kind.PAM pam) = LoanIsBounded pam.loan
KindIsBounded (kind.LAM lam) = RedemptionIsBounded lam.loan lam.redemption lam.next_principal_redemption_payment
KindIsBounded (kind.NAM nam) = RedemptionIsBounded nam.loan nam.redemption (Some nam.next_principal_redemption_payment)
KindIsBounded (kind.ANN ann) = RedemptionIsBounded ann.loan ann.redemption ann.next_principal_redemption_payment
KindIsBounded (kind.FXOUT fxout) = OutrightIsBounded fxout
KindIsBounded (kind.SWPPV swppv) = PlainSwapIsBounded swppv
KindIsBounded (kind.OPTNS optns) = IsDay optns.maturity_date
KindIsBounded other = Unit {0}

-- the days on which events stand that a plan doesn't hold, and the amounts that a step takes as they are
pub record AreBounded (terms : Terms) : Type 0 where
  pub status : IsDay terms.common.status_date
  pub purchase : IfSome terms.common.purchase_date IsDay
  pub price_at_purchase : InRange terms.common.price_at_purchase_date
  pub termination : IfSome terms.common.termination_date IsDay
  pub price_at_termination : InRange terms.common.price_at_termination_date
  pub kind : KindIsBounded terms.kind

-- ---- plans

-- the events of a plan stand on days
abbrev pub IsDated : EventPlan → Type 0
IsDated plan = All (λ (event : Event). IsDay event.day) plan.events
