-- The starting state of any contract, and the step of any event. ACTUS has one state transition and one payoff function for each type of
-- event of each kind of contract; their formulas are this profile's.
use Rattle.std.specs.Prelude.{ℕ, Bool, true, false, ℤ, List, Option, Some, None, option_and_then, Result}
use Rattle.std.specs.Option.{ok_or, unwrap_or}
use Rattle.act_model.specs.Run.{EventPlan, Stream}
use Rattle.act_model.specs.declared.event.Event.{Event}
use Rattle.act_model.specs.declared.event.EventType.{EventType}
use Rattle.act_model.specs.declared.event.EventType.TheVariants.{IED, PRD, XD}
use Rattle.act_model.specs.declared.observed.Obs.{Obs}
use Rattle.act_model.specs.declared.run.Row.{Row}
use Rattle.act_model.specs.declared.run.Stop.{Stop}
use Rattle.act_model.specs.declared.run.Stop.TheVariants.{Overflow}
use Rattle.act_model.specs.declared.state.State.{State}
use Rattle.act_model.specs.declared.terms.Common.{Common}
use Rattle.act_model.specs.declared.terms.Kind.{Kind}
use Rattle.act_model.specs.declared.terms.Kind.TheVariants as kind
use Rattle.act_model.specs.declared.terms.Terms.{Terms}
use Rattle.act_profile.specs.Contract.{factor_of, purchase_of}
use Rattle.act_profile.specs.Credit.{collateral_step, credit_line, guarantee_step}
use Rattle.act_profile.specs.Equity.{outright_currency, outright_line, stock_line}
use Rattle.act_profile.specs.Exercise.{future_line, option_line}
use Rattle.act_profile.specs.Legs.{capfl_line, capfl_row, swaps_line, swaps_row}
use Rattle.act_profile.specs.Loan.{before_event, loan_line, loan_state}
use Rattle.act_profile.specs.LoanTerms.{LoanTerms, loan_terms_of}
use Rattle.act_profile.specs.Order.{is_before_purchase, is_own}
use Rattle.act_profile.specs.Planning.{as_scheduled, event_on}
use Rattle.act_profile.specs.States.{first_state}
use Rattle.act_profile.specs.Step.{StepLine, idle_line, step_by, unpaid}
use Rattle.act_profile.specs.Swap.{plain_swap_before_event, plain_swap_line, plain_swap_state}
use Rattle.act_profile.specs.Trade.{passed, trade_line}

-- ---- the starting state

-- the state of a loan at first, where it has a plan
abbrev pub loan_state_of : EventPlan → Option LoanTerms → Option State
loan_state_of plan terms = option_and_then (λ l. loan_state l plan) terms

-- the state at first by kind, where it is defined
abbrev pub state_by : Common → Kind → EventPlan → Option State
state_by common (kind.PAM pam) plan = loan_state_of plan (loan_terms_of common (kind.PAM pam))
state_by common (kind.LAM lam) plan = loan_state_of plan (loan_terms_of common (kind.LAM lam))
state_by common (kind.NAM nam) plan = loan_state_of plan (loan_terms_of common (kind.NAM nam))
state_by common (kind.ANN ann) plan = loan_state_of plan (loan_terms_of common (kind.ANN ann))
state_by common (kind.SWPPV swppv) plan = plain_swap_state common swppv
state_by common other plan = Some (first_state common.status_date)

-- the state that a contract begins with, or an overflow at its initial exchange on the status date
unfoldable pub start_of : Terms → EventPlan → Result State Stop
start_of terms plan = ok_or (state_by terms.common terms.kind plan) (Overflow terms.common.status_date IED)

-- ---- the line of an event

-- the line of a loan's event; a loan that has a plan has these terms
abbrev pub loan_line_by : EventPlan → Event → Option LoanTerms → StepLine
loan_line_by plan event None = idle_line
loan_line_by plan event (Some l) = loan_line l plan event

-- the line of a contract's own event, or of a child's row
abbrev pub own_or_row_line : Bool → StepLine → StepLine → StepLine
own_or_row_line true own row = own
own_or_row_line false own row = row

-- the line of an event by kind
abbrev pub line_by : Common → Kind → EventPlan → List Stream → Event → StepLine
line_by common (kind.STK stk) plan children event = stock_line common event event.kind
line_by common (kind.FXOUT fxout) plan children event = outright_line common fxout event event.kind
line_by common (kind.SWPPV swppv) plan children event = plain_swap_line common swppv event event.kind
line_by common (kind.SWAPS swaps) plan children event =
    own_or_row_line (is_own event.source) (trade_line common event.kind) (swaps_line common swaps children event)
line_by common (kind.CAPFL capfl) plan children event =
    own_or_row_line (is_own event.source) (trade_line common event.kind) (capfl_line common children event)
line_by common (kind.OPTNS optns) plan children event = option_line common optns event event.kind
line_by common (kind.FUTUR futur) plan children event = future_line common futur event event.kind
line_by common (kind.CEG ceg) plan children event = credit_line common event.kind
line_by common (kind.CEC cec) plan children event = credit_line common event.kind
line_by common loan plan children event = loan_line_by plan event (loan_terms_of common loan)

-- the state before a loan's event
abbrev pub loan_accrual_by : Event → Option LoanTerms → State → Option State
loan_accrual_by event None s = None
loan_accrual_by event (Some l) s = before_event l event.kind event.calc s

-- the state that has accrued up to an event, by kind
abbrev pub accrual_by : Common → Kind → Event → State → Option State
accrual_by common (kind.PAM pam) event s = loan_accrual_by event (loan_terms_of common (kind.PAM pam)) s
accrual_by common (kind.LAM lam) event s = loan_accrual_by event (loan_terms_of common (kind.LAM lam)) s
accrual_by common (kind.NAM nam) event s = loan_accrual_by event (loan_terms_of common (kind.NAM nam)) s
accrual_by common (kind.ANN ann) event s = loan_accrual_by event (loan_terms_of common (kind.ANN ann)) s
accrual_by common (kind.SWPPV swppv) event s = plain_swap_before_event common swppv event.kind event.calc s
accrual_by common other event s = passed event.kind event.calc s

-- the code of the settlement factor of an event; a child's row has none
abbrev pub factor_for : Terms → Bool → Option ℕ
factor_for terms true = factor_of terms.common terms.kind
factor_for terms false = None

-- ---- the step of an event

-- the event comes before a purchase that counts
abbrev pub is_before : Terms → EventPlan → Option ℤ → Event → Bool
is_before terms plan None event = false
is_before terms plan (Some date) event =
    is_before_purchase terms.common.status_date terms.kind plan.events (event_on 0 PRD (as_scheduled date)) event

abbrev pub is_unpaid : Terms → EventPlan → Event → Bool
is_unpaid terms plan event = is_before terms plan (purchase_of terms.common terms.kind) event

-- the step of an event by its line
abbrev pub step_by_line : Terms → EventPlan → List Obs → List Stream → State → Event → Result (ℤ × State) Stop
step_by_line terms plan entries children s event =
    step_by entries (factor_for terms (is_own event.source)) event (accrual_by terms.common terms.kind event)
    (unpaid (is_unpaid terms plan event) (line_by terms.common terms.kind plan children event)) s

-- the step of a guarantee's event: a credit event has no line, since it reads many codes
abbrev pub guarantee_step_by : EventType → Terms → EventPlan → List Obs → List Stream → State → Event → Kind → Result (ℤ × State) Stop
guarantee_step_by XD terms plan entries children s event (kind.CEG ceg) = guarantee_step entries ceg children event.day s
guarantee_step_by XD terms plan entries children s event (kind.CEC cec) = collateral_step entries cec children event.day s
guarantee_step_by type terms plan entries children s event contract = step_by_line terms plan entries children s event

-- the payoff of an event and the state after it, or a stop
unfoldable pub step_of : Terms → EventPlan → List Obs → List Stream → State → Event → Result (ℤ × State) Stop
step_of terms plan entries children s event = guarantee_step_by event.kind terms plan entries children s event terms.kind

-- ---- the currency of a payoff

-- the settlement currency where it is given, and else the contract's
abbrev pub own_currency : Common → ℕ
own_currency common = unwrap_or common.settlement_currency common.currency

-- the currency of a child's row, and of an event of the contract itself
abbrev pub currency_of_row : Common → Option Row → ℕ
currency_of_row common None = own_currency common
currency_of_row common (Some row) = row.currency

-- the currency of an event's payoff by kind
abbrev pub currency_by : Kind → Common → List Stream → Event → ℕ
currency_by (kind.FXOUT fxout) common children event = outright_currency common fxout event event.kind
currency_by (kind.SWAPS swaps) common children event = currency_of_row common (swaps_row swaps children event.source)
currency_by (kind.CAPFL capfl) common children event = currency_of_row common (capfl_row children event.source)
currency_by other common children event = own_currency common

-- the currency of an event's payoff
abbrev pub currency_of : Terms → List Stream → Event → ℕ
currency_of terms children event = currency_by terms.kind terms.common children event
