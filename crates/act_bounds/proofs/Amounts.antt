-- The amounts of a contract's run are in range: what it begins with, what each event pays, and the state after it.
pub use Rattle.act_bounds.proofs.States.{StateHolds, TakenHolds}
use Rattle.std.proofs.Common.{List}
use Rattle.std.specs.Result.{IfOk}
use Rattle.act_model.specs.Bounds.{AreBounded, KindIsBounded}
use Rattle.act_model.specs.Run.{EventPlan, Stream}
use Rattle.act_model.specs.declared.event.Event.{Event}
use Rattle.act_model.specs.declared.event.EventType.{EventType}
use Rattle.act_model.specs.declared.event.EventType.TheVariants as type
use Rattle.act_model.specs.declared.observed.Obs.{Obs}
use Rattle.act_model.specs.declared.run.Stop.TheVariants.{Overflow}
use Rattle.act_model.specs.declared.state.State.{State}
use Rattle.act_model.specs.declared.terms.Common.{Common}
use Rattle.act_model.specs.declared.terms.Kind.{Kind}
use Rattle.act_model.specs.declared.terms.Kind.TheVariants as kind
use Rattle.act_model.specs.declared.terms.Terms.{Terms}
use Rattle.act_num.specs.Number.{InRange}
use Rattle.act_profile.specs.Order.{is_own}
use Rattle.act_profile.specs.Step.{unpaid}
use Rattle.act_profile.specs.Steps.{accrual_by, factor_for, guarantee_step_by, is_unpaid, line_by, start_of, state_by, step_by_line, step_of}
use Rattle.act_bounds.proofs.KindAmounts.{PaidHolds, capfl-holds, collateral-holds, credit-holds, future-holds, guarantee-holds, option-holds, outright-holds, passed-holds, stock-holds, swap-holds, swap_before-holds, swap_state-holds, swaps-holds}
use Rattle.act_bounds.proofs.LoanAmounts.{PricesHold, first_loan-holds, loan_accrual-holds, loan_line-holds}
use Rattle.act_bounds.proofs.States.{LineHolds, NextHolds, first_state-holds, ok_or-holds, step_by-holds, unpaid-holds}

prices-hold : (terms : Terms) → AreBounded terms → PricesHold terms.common
prices-hold terms bounded = record { purchase = bounded.price_at_purchase; termination = bounded.price_at_termination }

-- ---- by kind

state-holds : (common : Common) (contract : Kind) (plan : EventPlan) → PricesHold common → KindIsBounded contract → NextHolds (state_by common contract plan)
state-holds common (kind.PAM pam) plan prices bounded = first_loan-holds common (kind.PAM pam) prices bounded plan
state-holds common (kind.LAM lam) plan prices bounded = first_loan-holds common (kind.LAM lam) prices bounded plan
state-holds common (kind.NAM nam) plan prices bounded = first_loan-holds common (kind.NAM nam) prices bounded plan
state-holds common (kind.ANN ann) plan prices bounded = first_loan-holds common (kind.ANN ann) prices bounded plan
state-holds common (kind.SWPPV swppv) plan prices bounded = swap_state-holds common swppv bounded
state-holds common other plan prices bounded = first_state-holds common.status_date

accrual-holds : (common : Common) (contract : Kind) (e : Event) (s : State) → PricesHold common → KindIsBounded contract → StateHolds s → NextHolds (accrual_by common contract e s)
accrual-holds common (kind.PAM pam) e s prices bounded state = loan_accrual-holds common (kind.PAM pam) prices bounded e s state
accrual-holds common (kind.LAM lam) e s prices bounded state = loan_accrual-holds common (kind.LAM lam) prices bounded e s state
accrual-holds common (kind.NAM nam) e s prices bounded state = loan_accrual-holds common (kind.NAM nam) prices bounded e s state
accrual-holds common (kind.ANN ann) e s prices bounded state = loan_accrual-holds common (kind.ANN ann) prices bounded e s state
accrual-holds common (kind.SWPPV swppv) e s prices bounded state = swap_before-holds common swppv e.kind e.calc s state
accrual-holds common other e s prices bounded state = passed-holds e.kind e.calc s state

line-holds : (common : Common) (contract : Kind) (plan : EventPlan) (children : List Stream) (e : Event) → PricesHold common → KindIsBounded contract → InRange e.value → PaidHolds children →
    LineHolds (line_by common contract plan children e)
line-holds common (kind.PAM pam) plan children e prices bounded value rows = loan_line-holds common (kind.PAM pam) prices bounded plan e value
line-holds common (kind.LAM lam) plan children e prices bounded value rows = loan_line-holds common (kind.LAM lam) prices bounded plan e value
line-holds common (kind.NAM nam) plan children e prices bounded value rows = loan_line-holds common (kind.NAM nam) prices bounded plan e value
line-holds common (kind.ANN ann) plan children e prices bounded value rows = loan_line-holds common (kind.ANN ann) prices bounded plan e value
line-holds common (kind.STK stk) plan children e prices bounded value rows = stock-holds common e e.kind prices value
line-holds common (kind.FXOUT fxout) plan children e prices bounded value rows = outright-holds common fxout e e.kind prices bounded
line-holds common (kind.SWPPV swppv) plan children e prices bounded value rows = swap-holds common swppv e e.kind prices bounded
line-holds common (kind.SWAPS swaps) plan children e prices bounded value rows = swaps-holds (is_own e.source) common swaps children e prices rows
line-holds common (kind.CAPFL capfl) plan children e prices bounded value rows = capfl-holds (is_own e.source) common children e prices
line-holds common (kind.OPTNS optns) plan children e prices bounded value rows = option-holds common optns e e.kind prices
line-holds common (kind.FUTUR futur) plan children e prices bounded value rows = future-holds common futur e e.kind prices
line-holds common (kind.CEG ceg) plan children e prices bounded value rows = credit-holds common e.kind
line-holds common (kind.CEC cec) plan children e prices bounded value rows = credit-holds common e.kind

-- ---- any contract

-- what a contract begins with
pub start-holds : (terms : Terms) (plan : EventPlan) → AreBounded terms → IfOk (start_of terms plan) StateHolds
unfolding start_of
start-holds terms plan bounded =
    ok_or-holds StateHolds (state_by terms.common terms.kind plan) (Overflow terms.common.status_date type.IED) (state-holds terms.common terms.kind plan (prices-hold terms bounded) bounded.kind)

-- what an event pays, and the state after it
module _ (terms : Terms) (plan : EventPlan) (entries : List Obs) (children : List Stream) (s : State) (event : Event) where
  line_step-holds : AreBounded terms → InRange event.value → PaidHolds children → StateHolds s → IfOk (step_by_line terms plan entries children s event) TakenHolds
  line_step-holds bounded value rows state =
      step_by-holds entries (factor_for terms (is_own event.source)) event (accrual_by terms.common terms.kind event)
      (unpaid (is_unpaid terms plan event) (line_by terms.common terms.kind plan children event)) s
      (unpaid-holds (is_unpaid terms plan event) _ (line-holds terms.common terms.kind plan children event (prices-hold terms bounded) bounded.kind value rows))
      (accrual-holds terms.common terms.kind event s (prices-hold terms bounded) bounded.kind state)

  by_kind-holds : (what : EventType) (contract : Kind) → StateHolds s → IfOk (step_by_line terms plan entries children s event) TakenHolds → IfOk (guarantee_step_by what terms plan entries children s event contract) TakenHolds
  by_kind-holds type.XD (kind.CEG ceg) state line = guarantee-holds entries ceg children event.day s state
  by_kind-holds type.XD (kind.CEC cec) state line = collateral-holds entries cec children event.day s state
  by_kind-holds what contract state line = line

  pub step-holds : AreBounded terms → InRange event.value → PaidHolds children → StateHolds s → IfOk (step_of terms plan entries children s event) TakenHolds
  unfolding step_of
  step-holds bounded value rows state = by_kind-holds event.kind terms.kind state (line_step-holds bounded value rows state)
