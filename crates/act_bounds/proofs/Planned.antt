-- The events of a plan are made from scheduled days, and their value is 0.
use Rattle.std.proofs.Common.{◌≡◌, ◌+◌, ℕ, length, nat_lt, ℤ, List, [], ◌∷◌, ◌++◌, map, Option, Some, None, IfSome, Result, Ok, Err, IfOk, inl, inr}
use Rattle.std.specs.List.{AllByRecursion, enumerate_from}
use Rattle.std.specs.Prelude.{option_and_then, option_map}
use Rattle.std.proofs.lemmas.Bool.{cases_Bool}
use Rattle.std.proofs.lemmas.Result.{IfOk-at_ok}
use Rattle.act_calendar.specs.Shift.{shift_of}
use Rattle.act_calendar.specs.declared.shifting.Shifted.{Shifted}
use Rattle.act_date.specs.declared.cycle.Cycle.{Cycle}
use Rattle.act_model.specs.Limits.{most_dates}
use Rattle.act_model.specs.Run.{EventPlan}
use Rattle.act_model.specs.Terms.{Guarantee}
use Rattle.act_model.specs.declared.event.Event.{Event}
use Rattle.act_model.specs.declared.event.EventType.{EventType}
use Rattle.act_model.specs.declared.event.EventType.TheVariants as type
use Rattle.act_model.specs.declared.run.PlanFault.{PlanFault}
use Rattle.act_model.specs.declared.run.PlanFault.TheVariants.{DateRange}
use Rattle.act_model.specs.declared.terms.Common.{Common}
use Rattle.act_model.specs.declared.terms.Fxout.{Fxout}
use Rattle.act_model.specs.declared.terms.Kind.{Kind}
use Rattle.act_model.specs.declared.terms.Kind.TheVariants as kind
use Rattle.act_model.specs.declared.terms.Swppv.{Swppv}
use Rattle.act_num.specs.Number.{InRange}
use Rattle.act_profile.specs.Credit.{guarantee_plan, maturity_plan, maturity_plan_by}
use Rattle.act_profile.specs.Equity.{exchange_dates, outright_plan}
use Rattle.act_profile.specs.Exercise.{events_exercised_on, exercise_events, exercise_plan, not_before, settlement_day}
use Rattle.act_profile.specs.Lists.{all_of}
use Rattle.act_profile.specs.LoanPlan.{loan_dates, loan_plan, with_redemptions}
use Rattle.act_profile.specs.LoanTerms.{LoanTerms, loan_terms_or_fault}
use Rattle.act_profile.specs.Order.{in_order}
use Rattle.act_profile.specs.Outcomes.{map_ok, then_ok}
use Rattle.act_profile.specs.Plan.{loan_terms_plan, plan_by}
use Rattle.act_profile.specs.Planning.{Planned, as_scheduled, event_on, events_by_type, planned_event, planned_events, shifted_by, type_events, unshifted_where_given}
use Rattle.act_profile.specs.Swap.{plain_swap_dates, plain_swap_plan}
use Rattle.act_profile.specs.Trade.{event_where_given, plain_plan, trade_events}
use Rattle.act_bounds.proofs.Parts.{ok-or}
use Rattle.act_causality.proofs.EventFacts.{all-append, all-in_order}
use Rattle.act_bounds.proofs.Operations.{zero-in_range}

-- what is true of each event that is made from a scheduled day
module _ (P : Event → Type 0) (made : (place : ℕ) (what : EventType) (shifted : Shifted) → P (event_on place what shifted)) where
  one-more : (place : ℕ) (what : EventType) (shifted : Option Shifted) (rest : Option (List Event)) → IfSome rest (AllByRecursion P) →
      IfSome (option_and_then (λ v. option_map (λ vs. v ∷ vs) rest) (option_map (event_on place what) shifted)) (AllByRecursion P)
  one-more place what None rest all = tt
  one-more place what (Some shifted) None all = tt
  one-more place what (Some shifted) (Some more) all = (made place what shifted, all)

  dates-made : (common : Common) (place : ℕ) (dates : List Planned) → IfSome (all_of (map (planned_event common) (enumerate_from place dates))) (AllByRecursion P)
  unfolding all_of
  dates-made common place [] = tt
  dates-made common place (p ∷ dates) =
      one-more place p.kind (shifted_by common p.shifts p.date) (all_of (map (planned_event common) (enumerate_from (place + 1) dates))) (dates-made common (place + 1) dates)

  type-made : (common : Common) (n : ℕ) (dates : List Planned) → IfOk (type_events common n dates) (AllByRecursion P)
  type-made common n dates =
      elim (cases_Bool (nat_lt most_dates (n + length dates))) [
        | inl many ↦ rw many tt
        | inr few ↦ rw few (ok-or (AllByRecursion P) DateRange (planned_events common dates) (dates-made common 0 dates))
      ]

  both-made : (first later : Result (List Event) PlanFault) → IfOk first (AllByRecursion P) → IfOk later (AllByRecursion P) → IfOk (then_ok (λ some. map_ok (λ more. some ++ more) later) first) (AllByRecursion P)
  both-made (Err fault) later all all2 = tt
  both-made (Ok some) (Err fault) all all2 = tt
  both-made (Ok some) (Ok more) all all2 = all-append P some more all all2

  types-made : (common : Common) (n : ℕ) (types : List (Option (List Planned))) → IfOk (events_by_type common n types) (AllByRecursion P)
  unfolding events_by_type
  types-made common n [] = tt
  types-made common n (None ∷ types) = tt
  types-made common n (Some dates ∷ types) =
      both-made (type_events common n dates) (events_by_type common (n + length dates) types) (type-made common n dates) (types-made common (n + length dates) types)

  -- ---- plans

  -- it is true of each event of the plan
  abbrev AreMade : EventPlan → Type 0
  AreMade plan = AllByRecursion P plan.events

  plan-made : (make : List Event → EventPlan) (events : Result (List Event) PlanFault) → ((xs : List Event) → AllByRecursion P xs → AreMade (make xs)) → IfOk events (AllByRecursion P) → IfOk (map_ok make events) AreMade
  plan-made make (Err fault) makes all = tt
  plan-made make (Ok xs) makes all = makes xs all

  loan-made : (l : LoanTerms) → IfOk (loan_plan l) AreMade
  unfolding loan_plan
  loan-made l = plan-made (λ events. with_redemptions l (in_order events)) (events_by_type l.common 0 (loan_dates l)) (all-in_order P) (types-made l.common 0 (loan_dates l))

  lending-made : (lending : Option (Result LoanTerms PlanFault)) → IfOk (loan_terms_plan lending) AreMade
  lending-made None = tt
  lending-made (Some (Err fault)) = tt
  lending-made (Some (Ok l)) = loan-made l

  outright-made : (common : Common) (fxout : Fxout) → IfOk (outright_plan common fxout) AreMade
  unfolding outright_plan
  outright-made common fxout =
      plan-made (λ events. plain_plan (in_order events)) (events_by_type common 0
      (Some (unshifted_where_given type.PRD common.purchase_date) ∷ Some (unshifted_where_given type.TD common.termination_date)
      ∷ Some (exchange_dates fxout.maturity_date fxout.delivery_settlement) ∷ [])) (all-in_order P) (types-made common 0 _)

  plain_swap-made : (common : Common) (swap : Swppv) → IfOk (plain_swap_plan common swap) AreMade
  unfolding plain_swap_plan
  plain_swap-made common swap =
      plan-made (λ events. plain_plan (in_order events)) (events_by_type common 0 (plain_swap_dates common swap)) (all-in_order P) (types-made common 0 (plain_swap_dates common swap))

  given-made : (what : EventType) (date : Option ℤ) → AllByRecursion P (event_where_given what date)
  given-made what None = tt
  given-made what (Some date) = (made 0 what (as_scheduled date), tt)

  trade-made : (common : Common) → AllByRecursion P (trade_events common)
  trade-made common =
      all-append P (event_where_given type.PRD common.purchase_date) (event_where_given type.TD common.termination_date)
      (given-made type.PRD common.purchase_date) (given-made type.TD common.termination_date)

  exercise-made : (common : Common) (period : Cycle) (maturity : ℤ) → AreMade (exercise_plan common period maturity)
  exercise-made common period maturity =
      all-in_order P (events_exercised_on common period maturity)
      (all-append P (trade_events common) (exercise_events common period maturity) (trade-made common)
      (made 0 type.XD (as_scheduled maturity), (made 0 type.STD (settlement_day common period maturity), tt)))

  maturity-made : (maturity : ℤ) (shifted : Option Shifted) → IfOk (maturity_plan_by maturity shifted) AreMade
  maturity-made maturity None = tt
  maturity-made maturity (Some shifted) = (made 0 type.MD (not_before maturity shifted), tt)

  given-maturity : (common : Common) (maturity : Option ℤ) → IfOk (maturity_plan common maturity) AreMade
  given-maturity common None = tt
  given-maturity common (Some maturity) = maturity-made maturity (shift_of common.business_day_convention common.calendar maturity)

  guarantee-made : (common : Common) (guarantee : Guarantee) → IfOk (guarantee_plan common guarantee) AreMade
  unfolding guarantee_plan
  guarantee-made common guarantee = given-maturity common guarantee.maturity_date

  kind-made : (common : Common) (contract : Kind) → IfOk (plan_by common contract) AreMade
  kind-made common (kind.STK stk) = all-in_order P (trade_events common) (trade-made common)
  kind-made common (kind.FXOUT fxout) = outright-made common fxout
  kind-made common (kind.SWPPV swppv) = plain_swap-made common swppv
  kind-made common (kind.SWAPS swaps) = all-in_order P (trade_events common) (trade-made common)
  kind-made common (kind.CAPFL capfl) = all-in_order P (trade_events common) (trade-made common)
  kind-made common (kind.OPTNS optns) = exercise-made common optns.settlement_period optns.maturity_date
  kind-made common (kind.FUTUR futur) = exercise-made common futur.settlement_period futur.maturity_date
  kind-made common (kind.CEG ceg) = guarantee-made common ceg
  kind-made common (kind.CEC cec) = guarantee-made common cec.guarantee
  kind-made common loan = lending-made (loan_terms_or_fault common loan)

-- the values of a plan's events are numbers of the range: they are 0
pub plan-values : (common : Common) (contract : Kind) (plan : EventPlan) → plan_by common contract ≡ Ok plan → AllByRecursion (λ (e : Event). InRange e.value) plan.events
plan-values common contract plan planned =
    IfOk-at_ok (λ (p : EventPlan). AllByRecursion (λ (e : Event). InRange e.value) p.events) planned (kind-made (λ (e : Event). InRange e.value) (λ place what shifted. zero-in_range) common contract)
