-- The starting state and the steps of a swap or a cap and floor as those of a contract.
use Rattle.std.proofs.Common.{◌≡◌, true, List, Ok, refl, sym}
use Rattle.std.specs.Option.{ok_or}
use Rattle.act_model.specs.Kind.{type_of}
use Rattle.act_model.specs.Run.{EventPlan, Stream}
use Rattle.act_model.specs.declared.event.Event.{Event}
use Rattle.act_model.specs.declared.event.EventType.{EventType}
use Rattle.act_model.specs.declared.event.EventType.TheVariants.{IED, XD}
use Rattle.act_model.specs.declared.observed.Obs.{Obs}
use Rattle.act_model.specs.declared.run.Stop.TheVariants.{Overflow}
use Rattle.act_model.specs.declared.state.State.{State}
use Rattle.act_model.specs.declared.terms.Capfl.{Capfl}
use Rattle.act_model.specs.declared.terms.Common.{Common}
use Rattle.act_model.specs.declared.terms.Kind.{Kind}
use Rattle.act_model.specs.declared.terms.Kind.TheVariants as kind
use Rattle.act_model.specs.declared.terms.Swaps.{Swaps}
use Rattle.act_model.specs.declared.terms.Swppv.{Swppv}
use Rattle.act_model.specs.declared.terms.Terms.{Terms}
use Rattle.act_profile.specs.Legs.{capfl_line, swaps_line}
use Rattle.act_profile.specs.Order.{is_own}
use Rattle.act_profile.specs.States.{first_state}
use Rattle.act_profile.specs.Steps.{accrual_by, guarantee_step_by, line_by, own_or_row_line, start_of, step_by_line, step_of}
use Rattle.act_profile.specs.Swap.{plain_swap_before_event, plain_swap_line, plain_swap_state}
use Rattle.act_profile.specs.Trade.{passed, trade_line}
use Rattle.act_swap.specs.Kinds.{is_swap_or_cap}
use Rattle.act_swap.specs.PlainSwap.{PlainSwapTerms}

-- ---- the starting state

pub start_of_plain : (terms : Terms) (plan : EventPlan) (swap : Swppv) → terms.kind ≡ kind.SWPPV swap →
    start_of terms plan ≡ ok_or (plain_swap_state terms.common swap) (Overflow terms.common.status_date IED)
unfolding start_of
start_of_plain terms plan swap is = rw is refl

pub start_of_swaps : (terms : Terms) (plan : EventPlan) (swaps : Swaps) → terms.kind ≡ kind.SWAPS swaps → start_of terms plan ≡ Ok (first_state terms.common.status_date)
unfolding start_of
start_of_swaps terms plan swaps is = rw is refl

pub start_of_cap : (terms : Terms) (plan : EventPlan) (capfl : Capfl) → terms.kind ≡ kind.CAPFL capfl → start_of terms plan ≡ Ok (first_state terms.common.status_date)
unfolding start_of
start_of_cap terms plan capfl is = rw is refl

-- ---- the steps

no_guarantee : (event_type : EventType) (terms : Terms) (plan : EventPlan) (entries : List Obs) (children : List Stream) (s : State) (event : Event) (contract : Kind) → is_swap_or_cap (type_of contract) ≡ true →
    guarantee_step_by event_type terms plan entries children s event contract ≡ step_by_line terms plan entries children s event
no_guarantee XD terms plan entries children s event (kind.CEG ceg) is = absurd (cc)
no_guarantee XD terms plan entries children s event (kind.CEC cec) is = absurd (cc)
no_guarantee XD terms plan entries children s event contract is = refl
no_guarantee event_type terms plan entries children s event contract is = refl

pub step_of_swap : (terms : Terms) (plan : EventPlan) (entries : List Obs) (children : List Stream) (s : State) (event : Event) → is_swap_or_cap (type_of terms.kind) ≡ true →
    step_by_line terms plan entries children s event ≡ step_of terms plan entries children s event
unfolding step_of
step_of_swap terms plan entries children s event is = sym (no_guarantee event.kind terms plan entries children s event terms.kind is)

-- ---- the tables

module _ (terms : Terms) (plan : EventPlan) (children : List Stream) (event : Event) where
  module _ (swap : Swppv) (table : PlainSwapTerms) (is : terms.kind ≡ kind.SWPPV swap) (same : table ≡ record { common = terms.common; swap = swap }) where
    pub line_of_plain : plain_swap_line table.common table.swap event event.kind ≡ line_by terms.common terms.kind plan children event
    line_of_plain = rw (same, is) refl

    pub accrual_of_plain : (λ state. plain_swap_before_event table.common table.swap event.kind event.calc state) ≡ accrual_by terms.common terms.kind event
    accrual_of_plain = rw (same, is) refl

  module _ (swaps : Swaps) (table : Common × Swaps × List Stream) (is : terms.kind ≡ kind.SWAPS swaps) (same : table ≡ (terms.common, swaps, children)) where
    pub line_of_swaps : own_or_row_line (is_own event.source) (trade_line table.0 event.kind) (swaps_line table.0 table.1 table.2 event) ≡ line_by terms.common terms.kind plan children event
    line_of_swaps = rw (same, is) refl

    pub accrual_of_swaps : (λ state. passed event.kind event.calc state) ≡ accrual_by terms.common terms.kind event
    accrual_of_swaps = rw is refl

  module _ (capfl : Capfl) (table : Common × List Stream) (is : terms.kind ≡ kind.CAPFL capfl) (same : table ≡ (terms.common, children)) where
    pub line_of_cap : own_or_row_line (is_own event.source) (trade_line table.0 event.kind) (capfl_line table.0 table.1 event) ≡ line_by terms.common terms.kind plan children event
    line_of_cap = rw (same, is) refl

    pub accrual_of_cap : (λ state. passed event.kind event.calc state) ≡ accrual_by terms.common terms.kind event
    accrual_of_cap = rw is refl
