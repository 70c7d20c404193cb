-- Contracts whose events are those of their plans: what counts of a plan in order, where nothing is observed.
use Rattle.std.proofs.Common.{◌≡◌, true, List, [], ◌∷◌, ◌++◌, length, append-nil, Option, Some, None, Result, Ok, Err, refl, sym, ap, ◌∙◌, arith}
use Rattle.act_kind.proofs.InOrder.{in_order-again}
use Rattle.act_model.specs.Observed.{observed_events}
use Rattle.act_model.specs.Run.{EventPlan, Stream}
use Rattle.act_model.specs.declared.event.Event.{Event}
use Rattle.act_model.specs.declared.observed.Obs.{Obs}
use Rattle.act_model.specs.declared.run.PlanFault.{PlanFault}
use Rattle.act_model.specs.declared.terms.Common.{Common}
use Rattle.act_model.specs.declared.terms.Kind.{Kind}
use Rattle.act_model.specs.declared.terms.Kind.TheVariants as kind
use Rattle.act_model.specs.declared.terms.Terms.{Terms}
use Rattle.act_profile.specs.Contract.{observed_as}
use Rattle.act_profile.specs.Equity.{outright_plan}
use Rattle.act_profile.specs.Events.{events_observed, events_of}
use Rattle.act_profile.specs.LoanPlan.{loan_plan, with_redemptions}
use Rattle.act_profile.specs.LoanTerms.{LoanTerms, loan_terms_or_fault}
use Rattle.act_profile.specs.Order.{counting, in_order}
use Rattle.act_profile.specs.Outcomes.{map_ok}
use Rattle.act_profile.specs.Plan.{loan_terms_plan, plan_by, plan_of}
use Rattle.act_profile.specs.Swap.{plain_swap_plan}
use Rattle.act_profile.specs.Trade.{plain_plan, trade_events}
use Rattle.act_run.proofs.Observations.{observed_are}
use Rattle.act_run.specs.Planned.{is_planned}

-- ---- plans are in order

made-in_order : (made : List Event → EventPlan) → ((events : List Event) → (made events).events ≡ events) → (planned : Result (List Event) PlanFault) (plan : EventPlan)
    → map_ok (λ events. made (in_order events)) planned ≡ Ok plan → in_order plan.events ≡ plan.events
made-in_order made same (Err fault) plan is = absurd (cc)
made-in_order made same (Ok events) plan is =
    let here : made (in_order events) ≡ plan = cc in
    rw (← here) (rw (same (in_order events)) (in_order-again events))

lending-in_order : (lending : Option (Result LoanTerms PlanFault)) (plan : EventPlan) → loan_terms_plan lending ≡ Ok plan → in_order plan.events ≡ plan.events
unfolding loan_plan
lending-in_order None plan is = absurd (cc)
lending-in_order (Some (Err fault)) plan is = absurd (cc)
lending-in_order (Some (Ok l)) plan is = made-in_order (with_redemptions l) (λ events. refl) _ plan is

plain-in_order : (planned : Result (List Event) PlanFault) (plan : EventPlan) → map_ok (λ events. plain_plan (in_order events)) planned ≡ Ok plan → in_order plan.events ≡ plan.events
plain-in_order planned plan is = made-in_order plain_plan (λ events. refl) planned plan is

planned-in_order : (common : Common) (contract : Kind) (plan : EventPlan) → is_planned contract ≡ true → plan_by common contract ≡ Ok plan → in_order plan.events ≡ plan.events
unfolding outright_plan plain_swap_plan
planned-in_order common (kind.PAM pam) plan one is = lending-in_order (loan_terms_or_fault common (kind.PAM pam)) plan is
planned-in_order common (kind.LAM lam) plan one is = lending-in_order (loan_terms_or_fault common (kind.LAM lam)) plan is
planned-in_order common (kind.NAM nam) plan one is = lending-in_order (loan_terms_or_fault common (kind.NAM nam)) plan is
planned-in_order common (kind.ANN ann) plan one is = lending-in_order (loan_terms_or_fault common (kind.ANN ann)) plan is
planned-in_order common (kind.STK stk) plan one is = plain-in_order (Ok (trade_events common)) plan is
planned-in_order common (kind.FXOUT fxout) plan one is = plain-in_order _ plan is
planned-in_order common (kind.SWPPV swppv) plan one is = plain-in_order _ plan is
planned-in_order common (kind.SWAPS swaps) plan one is = absurd (cc)
planned-in_order common (kind.CAPFL capfl) plan one is = absurd (cc)
planned-in_order common (kind.OPTNS optns) plan one is = absurd (cc)
planned-in_order common (kind.FUTUR futur) plan one is = absurd (cc)
planned-in_order common (kind.CEG ceg) plan one is = absurd (cc)
planned-in_order common (kind.CEC cec) plan one is = absurd (cc)

-- the same of terms
pub plan-in_order : (terms : Terms) (plan : EventPlan) → is_planned terms.kind ≡ true → plan_of terms ≡ Ok plan → in_order plan.events ≡ plan.events
plan-in_order terms plan one is = planned-in_order terms.common terms.kind plan one is

-- ---- and so are the events

abbrev of_kind : Common → Kind → Terms
of_kind common contract = record { common = common; kind = contract }

by-kind : (common : Common) (contract : Kind) (plan : EventPlan) (entries : List Obs) (children : List Stream) → is_planned contract ≡ true
    → events_of (of_kind common contract) plan entries children ≡ counting common.status_date contract (in_order (plan.events ++ events_observed (of_kind common contract) entries ++ []))
unfolding events_of
by-kind common (kind.PAM pam) plan entries children one = refl
by-kind common (kind.LAM lam) plan entries children one = refl
by-kind common (kind.NAM nam) plan entries children one = refl
by-kind common (kind.ANN ann) plan entries children one = refl
by-kind common (kind.STK stk) plan entries children one = refl
by-kind common (kind.FXOUT fxout) plan entries children one = refl
by-kind common (kind.SWPPV swppv) plan entries children one = refl
by-kind common (kind.SWAPS swaps) plan entries children one = absurd (cc)
by-kind common (kind.CAPFL capfl) plan entries children one = absurd (cc)
by-kind common (kind.OPTNS optns) plan entries children one = absurd (cc)
by-kind common (kind.FUTUR futur) plan entries children one = absurd (cc)
by-kind common (kind.CEG ceg) plan entries children one = absurd (cc)
by-kind common (kind.CEC cec) plan entries children one = absurd (cc)

none-observed : (terms : Terms) (entries own : List Obs) → length own ≡ 0 → own ≡ observed_events entries (observed_as terms.common) → events_observed terms entries ≡ []
none-observed terms entries [] none are = sym (observed_are terms entries [] are)
none-observed terms entries (entry ∷ own) none are = absurd (omega arith)

pub planned-events : (terms : Terms) (plan : EventPlan) (own : List Obs) → is_planned terms.kind ≡ true → plan_of terms ≡ Ok plan → length own ≡ 0
    → (entries : List Obs) (children : List Stream) → own ≡ observed_events entries (observed_as terms.common)
    → counting terms.common.status_date terms.kind plan.events ≡ events_of terms plan entries children
planned-events terms plan own one is none entries children are =
    let alone : plan.events ++ events_observed terms entries ++ [] ≡ plan.events = rw (none-observed terms entries own none are) (append-nil (plan.events ++ []) ∙ append-nil plan.events) in
    sym (by-kind terms.common terms.kind plan entries children one
    ∙ ap (λ (events : List Event). counting terms.common.status_date terms.kind (in_order events)) alone
    ∙ ap (counting terms.common.status_date terms.kind) (plan-in_order terms plan one is))
