-- A plan counts no more events than there may be dates.
use Rattle.std.proofs.Common.{◌≡◌, ℕ, ◌+◌, ◌≤◌, ℤ, nat_lt, if◌then◌else◌, Bool, true, false, List, [], ◌∷◌, ◌++◌, length, length-append, map, Option, Some, None, option_map, Result, Ok, Err, refl, ap, ◌∙◌, arith}
use Rattle.std.proofs.lemmas.Bool.Decides.{nat_tests}
use Rattle.std.proofs.lemmas.List.{length-map}
use Rattle.std.proofs.lemmas.List.FromFn.{length-enumerate_from}
use Rattle.std.specs.List.{enumerate_from}
use Rattle.std.specs.Option.{ok_or}
use Rattle.act_date.specs.declared.cycle.Cycle.{Cycle}
use Rattle.act_model.specs.Limits.{most_dates}
use Rattle.act_model.specs.Run.{EventPlan}
use Rattle.act_model.specs.declared.event.Event.{Event}
use Rattle.act_model.specs.declared.event.EventType.{EventType}
use Rattle.act_model.specs.declared.event.EventType.TheVariants.{PRD, TD}
use Rattle.act_model.specs.declared.run.PlanFault.{PlanFault}
use Rattle.act_model.specs.declared.run.PlanFault.TheVariants.{DateRange, TooManyDates}
use Rattle.act_model.specs.declared.terms.Common.{Common}
use Rattle.act_model.specs.declared.terms.Fxout.{Fxout}
use Rattle.act_model.specs.declared.terms.Kind.{Kind}
use Rattle.act_model.specs.declared.terms.Kind.TheVariants as kind
use Rattle.act_model.specs.declared.terms.Swppv.{Swppv}
use Rattle.act_model.specs.declared.terms.Terms.{Terms}
use Rattle.act_profile.specs.Equity.{outright_plan}
use Rattle.act_profile.specs.Exercise.{events_exercised_on, exercise_events, exercise_plan}
use Rattle.act_profile.specs.Lists.{all_of, insert_by}
use Rattle.act_profile.specs.LoanPlan.{loan_dates, loan_plan, with_redemptions}
use Rattle.act_profile.specs.LoanTerms.{LoanTerms, loan_terms_or_fault}
use Rattle.act_profile.specs.Order.{in_order, precedes}
use Rattle.act_profile.specs.Outcomes.{map_ok, then_ok}
use Rattle.act_profile.specs.Plan.{loan_terms_plan, own_count, plan_by, plan_of, trade_plan}
use Rattle.act_profile.specs.Planning.{Planned, events_by_type, planned_event, planned_events}
use Rattle.act_profile.specs.Swap.{plain_swap_plan}
use Rattle.act_profile.specs.Trade.{event_where_given, plain_plan, trade_events}

-- ---- events in order are as many

length-insert : {A : Type 0} (before : A → A → Bool) (x : A) (ys : List A) → length (insert_by before x ys) ≡ length ys + 1
unfolding insert_by
length-insert before x [] = omega arith
length-insert before x (y ∷ ys) = by (before y x) (length-insert before x ys)
  where
    by : (b : Bool) → length (insert_by before x ys) ≡ length ys + 1 → length (if b then y ∷ insert_by before x ys else x ∷ y ∷ ys) ≡ length (y ∷ ys) + 1
    by true more = omega arith
    by false more = omega arith

length-in_order : (events : List Event) → length (in_order events) ≡ length events
unfolding in_order
length-in_order [] = refl
length-in_order (event ∷ events) = let more = length-insert precedes event (in_order events) in let rest = length-in_order events in omega arith

-- ---- the events of dates are as many

length-all_of : {A : Type 0} (xs : List (Option A)) (ys : List A) → all_of xs ≡ Some ys → length ys ≡ length xs
unfolding all_of
length-all_of [] ys is = let same : ys ≡ [] = cc in ap length same
length-all_of (None ∷ xs) ys is = absurd (cc)
length-all_of {A} (Some x ∷ xs) ys is = by (all_of xs) (λ vs at. length-all_of xs vs at) is
  where
    by : (rest : Option (List A)) → ((vs : List A) → rest ≡ Some vs → length vs ≡ length xs) → option_map (λ vs. x ∷ vs) rest ≡ Some ys → length ys ≡ length (Some x ∷ xs)
    by None more none = absurd (cc)
    by (Some vs) more some = let same : ys ≡ x ∷ vs = cc in omega (arith, ap length same, more vs refl)

length-planned : (common : Common) (dates : List Planned) (events : List Event) → planned_events common dates ≡ Some events → length events ≡ length dates
length-planned common dates events is =
    length-all_of (map (planned_event common) (enumerate_from 0 dates)) events is ∙ length-map (enumerate_from 0 dates) (planned_event common) ∙ length-enumerate_from 0 dates

-- ---- the events of all types

module _ (common : Common) (n : ℕ) (dates : List Planned) (events : List Event) where
  -- the events of the first type's dates, and those of later types
  few_with : (early : Option (List Event)) (later : Result (List Event) PlanFault) → ((es : List Event) → early ≡ Some es → length es ≡ length dates) → ((more : List Event) → later ≡ Ok more → n + length dates + length more ≤ most_dates) →
      then_ok (λ es. map_ok (λ more. es ++ more) later) (ok_or early DateRange) ≡ Ok events → n + length events ≤ most_dates
  few_with None later count few is = absurd (cc)
  few_with (Some es) (Err fault) count few is = absurd (cc)
  few_with (Some es) (Ok more) count few is =
      let same : events ≡ es ++ more = cc in
      omega (arith, ap length same, length-append es more, count es refl, few more refl)

few_by_type : (common : Common) (n : ℕ) (types : List (Option (List Planned))) (events : List Event) → n ≤ most_dates → events_by_type common n types ≡ Ok events → n + length events ≤ most_dates
unfolding events_by_type
few_by_type common n [] events low is = let same : events ≡ [] = cc in omega (arith, ap length same)
few_by_type common n (None ∷ types) events low is = absurd (cc)
few_by_type common n (Some dates ∷ types) events low is = by (nat_lt most_dates (n + length dates)) refl (λ more within at. few_by_type common (n + length dates) types more within at) is
  where
    later : Result (List Event) PlanFault
    later = events_by_type common (n + length dates) types

    by : (many : Bool) → nat_lt most_dates (n + length dates) ≡ many → ((more : List Event) → n + length dates ≤ most_dates → later ≡ Ok more → n + length dates + length more ≤ most_dates) → then_ok (λ es. map_ok (λ more. es ++ more) later) (if many then Err TooManyDates else ok_or (planned_events common dates) DateRange) ≡ Ok events → n + length events ≤ most_dates
    by true at rest all = absurd (cc)
    by false at rest all =
        let within : n + length dates ≤ most_dates = grind (arith, nat_tests) in
        few_with common n dates events (planned_events common dates) later (length-planned common dates) (λ more. rest more within) all

few_types : (common : Common) (types : List (Option (List Planned))) (plan_with : List Event → EventPlan) (plan : EventPlan) → ((events : List Event) → length (plan_with events).events ≡ length events) → map_ok plan_with (events_by_type common 0 types) ≡ Ok plan → length plan.events ≤ most_dates
few_types common types plan_with plan same is = by (events_by_type common 0 types) refl is
  where
    by : (events : Result (List Event) PlanFault) → events_by_type common 0 types ≡ events → map_ok plan_with events ≡ Ok plan → length plan.events ≤ most_dates
    by (Err fault) at none = absurd (cc)
    by (Ok events) at some =
        let made : plan ≡ plan_with events = cc in
        let few = few_by_type common 0 types events (omega arith) at in
        omega (arith, ap (λ (p : EventPlan). length p.events) made, same events)

-- ---- the plan of each kind

few_where_given : (type : EventType) (date : Option ℤ) → length (event_where_given type date) ≤ 1
few_where_given type None = omega arith
few_where_given type (Some date) = omega arith

few_trades : (common : Common) → length (trade_events common) ≤ 2
few_trades common =
    omega (arith, length-append (event_where_given PRD common.purchase_date) (event_where_given TD common.termination_date), few_where_given PRD common.purchase_date, few_where_given TD common.termination_date)

few_trade : (common : Common) (plan : EventPlan) → trade_plan common ≡ Ok plan → length plan.events ≤ most_dates
few_trade common plan is =
    let made : plan ≡ plain_plan (in_order (trade_events common)) = cc in
    omega (arith, ap (λ (p : EventPlan). length p.events) made, length-in_order (trade_events common), few_trades common)

few_exercise : (common : Common) (period : Cycle) (maturity : ℤ) (plan : EventPlan) → plan ≡ exercise_plan common period maturity → length plan.events ≤ most_dates
few_exercise common period maturity plan is =
    omega (arith, ap (λ (p : EventPlan). length p.events) is, length-in_order (events_exercised_on common period maturity), length-append (trade_events common) (exercise_events common period maturity), few_trades common)

few_outright : (common : Common) (fxout : Fxout) (plan : EventPlan) → outright_plan common fxout ≡ Ok plan → length plan.events ≤ most_dates
unfolding outright_plan
few_outright common fxout plan is = few_types common _ (λ events. plain_plan (in_order events)) plan length-in_order is

few_plain_swap : (common : Common) (swap : Swppv) (plan : EventPlan) → plain_swap_plan common swap ≡ Ok plan → length plan.events ≤ most_dates
unfolding plain_swap_plan
few_plain_swap common swap plan is = few_types common _ (λ events. plain_plan (in_order events)) plan length-in_order is

few_loan : (l : LoanTerms) (plan : EventPlan) → loan_plan l ≡ Ok plan → length plan.events ≤ most_dates
unfolding loan_plan
few_loan l plan is = few_types l.common (loan_dates l) (λ events. with_redemptions l (in_order events)) plan length-in_order is

few_loan_by : (terms : Option (Result LoanTerms PlanFault)) (plan : EventPlan) → loan_terms_plan terms ≡ Ok plan → length plan.events ≤ most_dates
few_loan_by None plan is = absurd (cc)
few_loan_by (Some (Err fault)) plan is = absurd (cc)
few_loan_by (Some (Ok l)) plan is = few_loan l plan is

-- of a guarantee two events count, of any other kind those of its plan
few_by : (common : Common) (k : Kind) (plan : EventPlan) → plan_by common k ≡ Ok plan → own_count k plan ≤ most_dates
few_by common (kind.STK stk) plan is = few_trade common plan is
few_by common (kind.FXOUT fxout) plan is = few_outright common fxout plan is
few_by common (kind.SWPPV swap) plan is = few_plain_swap common swap plan is
few_by common (kind.SWAPS swaps) plan is = few_trade common plan is
few_by common (kind.CAPFL capfl) plan is = few_trade common plan is
few_by common (kind.OPTNS optns) plan is = few_exercise common optns.settlement_period optns.maturity_date plan (cc)
few_by common (kind.FUTUR futur) plan is = few_exercise common futur.settlement_period futur.maturity_date plan (cc)
few_by common (kind.CEG ceg) plan is = omega arith
few_by common (kind.CEC cec) plan is = omega arith
few_by common (kind.PAM pam) plan is = few_loan_by (loan_terms_or_fault common (kind.PAM pam)) plan is
few_by common (kind.LAM lam) plan is = few_loan_by (loan_terms_or_fault common (kind.LAM lam)) plan is
few_by common (kind.NAM nam) plan is = few_loan_by (loan_terms_or_fault common (kind.NAM nam)) plan is
few_by common (kind.ANN ann) plan is = few_loan_by (loan_terms_or_fault common (kind.ANN ann)) plan is

pub few_counted : (terms : Terms) (plan : EventPlan) → plan_of terms ≡ Ok plan → own_count terms.kind plan ≤ most_dates
few_counted terms plan is = few_by terms.common terms.kind plan is
