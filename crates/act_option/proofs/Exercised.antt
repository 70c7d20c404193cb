-- The starting state and the steps of an option or a future as those of a contract.
use Rattle.std.proofs.Common.{◌≡◌, true, List, [], Some, Ok, refl, sym, ap}
use Rattle.std.specs.Option.{ok_or}
use Rattle.act_model.specs.Kind.{type_of}
use Rattle.act_model.specs.Run.{EventPlan, Stream}
use Rattle.act_model.specs.declared.event.Event.{Event}
use Rattle.act_model.specs.declared.event.EventType.{EventType}
use Rattle.act_model.specs.declared.event.EventType.TheVariants.{IED, XD}
use Rattle.act_model.specs.declared.observed.Obs.{Obs}
use Rattle.act_model.specs.declared.run.Stop.TheVariants.{Overflow}
use Rattle.act_model.specs.declared.state.State.{State}
use Rattle.act_model.specs.declared.terms.Common.{Common}
use Rattle.act_model.specs.declared.terms.Futur.{Futur}
use Rattle.act_model.specs.declared.terms.Kind.{Kind}
use Rattle.act_model.specs.declared.terms.Kind.TheVariants as kind
use Rattle.act_model.specs.declared.terms.Optns.{Optns}
use Rattle.act_model.specs.declared.terms.Terms.{Terms}
use Rattle.act_option.specs.Kinds.{is_exercised}
use Rattle.act_profile.specs.Exercise.{future_line, option_line}
use Rattle.act_profile.specs.States.{first_state}
use Rattle.act_profile.specs.Steps.{accrual_by, guarantee_step_by, line_by, start_of, state_by, step_by_line, step_of}
use Rattle.act_profile.specs.Trade.{passed}

-- ---- the starting state

state_by_exercised : (common : Common) (contract : Kind) (plan : EventPlan) → is_exercised (type_of contract) ≡ true → state_by common contract plan ≡ Some (first_state common.status_date)
state_by_exercised common (kind.OPTNS optns) plan is = refl
state_by_exercised common (kind.FUTUR futur) plan is = refl
state_by_exercised common other plan is = absurd (cc)

pub start_of_exercised : (terms : Terms) (plan : EventPlan) → is_exercised (type_of terms.kind) ≡ true → start_of terms plan ≡ Ok (first_state terms.common.status_date)
unfolding start_of
start_of_exercised terms plan is = ap (λ state. ok_or state (Overflow terms.common.status_date IED)) (state_by_exercised terms.common terms.kind plan is)

-- ---- the steps

no_guarantee : (event_type : EventType) (terms : Terms) (plan : EventPlan) (entries : List Obs) (children : List Stream) (s : State) (event : Event) (contract : Kind) → is_exercised (type_of contract) ≡ true →
    guarantee_step_by event_type terms plan entries children s event contract ≡ step_by_line terms plan entries children s event
no_guarantee XD terms plan entries children s event (kind.CEG ceg) is = absurd (cc)
no_guarantee XD terms plan entries children s event (kind.CEC cec) is = absurd (cc)
no_guarantee XD terms plan entries children s event contract is = refl
no_guarantee event_type terms plan entries children s event contract is = refl

pub step_of_exercised : (terms : Terms) (plan : EventPlan) (entries : List Obs) (s : State) (event : Event) → is_exercised (type_of terms.kind) ≡ true →
    step_by_line terms plan entries [] s event ≡ step_of terms plan entries [] s event
unfolding step_of
step_of_exercised terms plan entries s event is = sym (no_guarantee event.kind terms plan entries [] s event terms.kind is)

-- ---- the tables

module _ (terms : Terms) (plan : EventPlan) (event : Event) (optns : Optns) (table : Common × Optns) (is : terms.kind ≡ kind.OPTNS optns) (same : table ≡ (terms.common, optns)) where
  pub line_of_option : option_line table.0 table.1 event event.kind ≡ line_by terms.common terms.kind plan [] event
  line_of_option = rw (same, is) refl

  pub accrual_of_option : (λ state. passed event.kind event.calc state) ≡ accrual_by terms.common terms.kind event
  accrual_of_option = rw is refl

module _ (terms : Terms) (plan : EventPlan) (event : Event) (futur : Futur) (table : Common × Futur) (is : terms.kind ≡ kind.FUTUR futur) (same : table ≡ (terms.common, futur)) where
  pub line_of_future : future_line table.0 table.1 event event.kind ≡ line_by terms.common terms.kind plan [] event
  line_of_future = rw (same, is) refl

  pub accrual_of_future : (λ state. passed event.kind event.calc state) ≡ accrual_by terms.common terms.kind event
  accrual_of_future = rw is refl
