-- The starting state and the steps of a guarantee as those of a contract.
use Rattle.std.proofs.Common.{◌≡◌, ◌≢◌, true, List, Some, Ok, refl, sym, ap}
use Rattle.std.specs.Option.{ok_or}
use Rattle.act_credit.specs.Kinds.{is_guarantee}
use Rattle.act_model.specs.Kind.{type_of}
use Rattle.act_model.specs.Run.{EventPlan, Stream}
use Rattle.act_model.specs.declared.event.Event.{Event}
use Rattle.act_model.specs.declared.event.EventType.{EventType}
use Rattle.act_model.specs.declared.event.EventType.TheVariants.{IED, XD}
use Rattle.act_model.specs.declared.observed.Obs.{Obs}
use Rattle.act_model.specs.declared.run.Stop.TheVariants.{Overflow}
use Rattle.act_model.specs.declared.state.State.{State}
use Rattle.act_model.specs.declared.terms.Common.{Common}
use Rattle.act_model.specs.declared.terms.Kind.{Kind}
use Rattle.act_model.specs.declared.terms.Kind.TheVariants as kind
use Rattle.act_model.specs.declared.terms.Terms.{Terms}
use Rattle.act_profile.specs.Credit.{credit_line}
use Rattle.act_profile.specs.States.{first_state}
use Rattle.act_profile.specs.Steps.{accrual_by, guarantee_step_by, line_by, start_of, state_by, step_by_line, step_of}
use Rattle.act_profile.specs.Trade.{passed}

-- ---- the starting state

state_by_guarantee : (common : Common) (contract : Kind) (plan : EventPlan) → is_guarantee (type_of contract) ≡ true → state_by common contract plan ≡ Some (first_state common.status_date)
state_by_guarantee common (kind.CEG ceg) plan is = refl
state_by_guarantee common (kind.CEC cec) plan is = refl
state_by_guarantee common other plan is = absurd (cc)

pub start_of_guarantee : (terms : Terms) (plan : EventPlan) → is_guarantee (type_of terms.kind) ≡ true → start_of terms plan ≡ Ok (first_state terms.common.status_date)
unfolding start_of
start_of_guarantee terms plan is = ap (λ state. ok_or state (Overflow terms.common.status_date IED)) (state_by_guarantee terms.common terms.kind plan is)

-- ---- the steps but for a credit event

by_line : (event_type : EventType) (terms : Terms) (plan : EventPlan) (entries : List Obs) (children : List Stream) (s : State) (event : Event) (contract : Kind) → event_type ≢ XD →
    guarantee_step_by event_type terms plan entries children s event contract ≡ step_by_line terms plan entries children s event
by_line XD terms plan entries children s event contract other = absurd (other refl)
by_line event_type terms plan entries children s event contract other = refl

pub step_of_other : (terms : Terms) (plan : EventPlan) (entries : List Obs) (children : List Stream) (s : State) (event : Event) → event.kind ≢ XD →
    step_by_line terms plan entries children s event ≡ step_of terms plan entries children s event
unfolding step_of
step_of_other terms plan entries children s event other = sym (by_line event.kind terms plan entries children s event terms.kind other)

line_by_guarantee : (common : Common) (contract : Kind) (plan : EventPlan) (children : List Stream) (event : Event) → is_guarantee (type_of contract) ≡ true →
    credit_line common event.kind ≡ line_by common contract plan children event
line_by_guarantee common (kind.CEG ceg) plan children event is = refl
line_by_guarantee common (kind.CEC cec) plan children event is = refl
line_by_guarantee common other plan children event is = absurd (cc)

pub line_of_table : (terms : Terms) (plan : EventPlan) (children : List Stream) (event : Event) (table : Common) → is_guarantee (type_of terms.kind) ≡ true → table ≡ terms.common →
    credit_line table event.kind ≡ line_by terms.common terms.kind plan children event
line_of_table terms plan children event table is same = rw same (line_by_guarantee terms.common terms.kind plan children event is)

accrual_by_guarantee : (common : Common) (contract : Kind) (event : Event) → is_guarantee (type_of contract) ≡ true → (λ state. passed event.kind event.calc state) ≡ accrual_by common contract event
accrual_by_guarantee common (kind.CEG ceg) event is = refl
accrual_by_guarantee common (kind.CEC cec) event is = refl
accrual_by_guarantee common other event is = absurd (cc)

pub accrual_of_table : (terms : Terms) (event : Event) → is_guarantee (type_of terms.kind) ≡ true → (λ state. passed event.kind event.calc state) ≡ accrual_by terms.common terms.kind event
accrual_of_table terms event is = accrual_by_guarantee terms.common terms.kind event is
