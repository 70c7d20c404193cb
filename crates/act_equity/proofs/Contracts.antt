-- The plan, the starting state and the steps of a stock or an outright as those of a contract.
use Rattle.std.proofs.Common.{◌≡◌, List, [], true, Some, Ok, refl, sym, ap}
use Rattle.std.specs.Option.{ok_or}
use Rattle.act_equity.specs.Kinds.{is_stock_or_outright}
use Rattle.act_equity.specs.Outright.{OutrightTerms}
use Rattle.act_model.specs.Kind.{type_of}
use Rattle.act_model.specs.Run.{EventPlan, Stream}
use Rattle.act_model.specs.declared.event.Event.{Event}
use Rattle.act_model.specs.declared.event.EventType.{EventType}
use Rattle.act_model.specs.declared.event.EventType.TheVariants.{IED, XD}
use Rattle.act_model.specs.declared.observed.Obs.{Obs}
use Rattle.act_model.specs.declared.run.Stop.TheVariants.{Overflow}
use Rattle.act_model.specs.declared.state.State.{State}
use Rattle.act_model.specs.declared.terms.Common.{Common}
use Rattle.act_model.specs.declared.terms.Fxout.{Fxout}
use Rattle.act_model.specs.declared.terms.Kind.{Kind}
use Rattle.act_model.specs.declared.terms.Kind.TheVariants as kind
use Rattle.act_model.specs.declared.terms.Stk.{Stk}
use Rattle.act_model.specs.declared.terms.Terms.{Terms}
use Rattle.act_profile.specs.Equity.{outright_line, stock_line}
use Rattle.act_profile.specs.States.{first_state}
use Rattle.act_profile.specs.Steps.{accrual_by, guarantee_step_by, line_by, start_of, state_by, step_by_line, step_of}
use Rattle.act_profile.specs.Trade.{passed}

-- ---- the starting state

state_by_either : (common : Common) (contract : Kind) (plan : EventPlan) → is_stock_or_outright (type_of contract) ≡ true → state_by common contract plan ≡ Some (first_state common.status_date)
state_by_either common (kind.STK stk) plan is = refl
state_by_either common (kind.FXOUT fxout) plan is = refl
state_by_either common other plan is = absurd (cc)

pub start_of_either : (terms : Terms) (plan : EventPlan) → is_stock_or_outright (type_of terms.kind) ≡ true → start_of terms plan ≡ Ok (first_state terms.common.status_date)
unfolding start_of
start_of_either terms plan is = ap (λ state. ok_or state (Overflow terms.common.status_date IED)) (state_by_either terms.common terms.kind plan is)

-- ---- the steps

accrual_by_either : (common : Common) (contract : Kind) (event : Event) → is_stock_or_outright (type_of contract) ≡ true → accrual_by common contract event ≡ passed event.kind event.calc
accrual_by_either common (kind.STK stk) event is = refl
accrual_by_either common (kind.FXOUT fxout) event is = refl
accrual_by_either common other event is = absurd (cc)

no_guarantee : (event_type : EventType) (terms : Terms) (plan : EventPlan) (entries : List Obs) (children : List Stream) (s : State) (event : Event) (contract : Kind) → is_stock_or_outright (type_of contract) ≡ true →
    guarantee_step_by event_type terms plan entries children s event contract ≡ step_by_line terms plan entries children s event
no_guarantee XD terms plan entries children s event (kind.CEG ceg) is = absurd (cc)
no_guarantee XD terms plan entries children s event (kind.CEC cec) is = absurd (cc)
no_guarantee XD terms plan entries children s event contract is = refl
no_guarantee event_type terms plan entries children s event contract is = refl

pub step_of_either : (terms : Terms) (plan : EventPlan) (entries : List Obs) (s : State) (event : Event) → is_stock_or_outright (type_of terms.kind) ≡ true →
    step_by_line terms plan entries [] s event ≡ step_of terms plan entries [] s event
unfolding step_of
step_of_either terms plan entries s event is = sym (no_guarantee event.kind terms plan entries [] s event terms.kind is)

-- ---- the tables

pub accrual_of_table : (terms : Terms) (event : Event) → is_stock_or_outright (type_of terms.kind) ≡ true → (λ state. passed event.kind event.calc state) ≡ accrual_by terms.common terms.kind event
accrual_of_table terms event is = sym (accrual_by_either terms.common terms.kind event is)

module _ (terms : Terms) (plan : EventPlan) (event : Event) where
  pub line_of_stock : (stk : Stk) (stock : Common) → terms.kind ≡ kind.STK stk → stock ≡ terms.common → stock_line stock event event.kind ≡ line_by terms.common terms.kind plan [] event
  line_of_stock stk stock is same = rw (is, same) refl

  pub line_of_outright : (fxout : Fxout) (outright : OutrightTerms) → terms.kind ≡ kind.FXOUT fxout → outright ≡ record { common = terms.common; fxout = fxout } →
      outright_line outright.common outright.fxout event event.kind ≡ line_by terms.common terms.kind plan [] event
  line_of_outright fxout outright is same = rw (is, same) refl
