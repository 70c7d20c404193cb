-- The scheduled events of a contract over books that agree before a day.
pub use Rattle.act_causality.specs.Causality.{CoveredIn}
use Rattle.std.proofs.Common.{◌≡◌, ℕ, true, false, ℤ, int_lt, int_le, List, [], ◌∷◌, ◌++◌, Option, Some, None, Ok, inl, inr, refl, sym, ◌∙◌, ap, arith}
use Rattle.std.specs.List.{AllByRecursion}
use Rattle.std.specs.Option.{unwrap_or}
use Rattle.std.specs.Prelude.{option_and_then, option_map}
use Rattle.std.proofs.lemmas.Bool.{cases_Bool}
use Rattle.std.proofs.lemmas.Int.{ints}
use Rattle.act_calendar.specs.Shift.{shift_of}
use Rattle.act_calendar.specs.declared.shifting.Shifted.{Shifted}
use Rattle.act_date.specs.Civil.{last_day}
use Rattle.act_date.specs.Cycle.{plus_cycles}
use Rattle.act_date.specs.declared.cycle.Cycle.{Cycle}
use Rattle.act_model.specs.Run.{EventPlan}
use Rattle.act_model.specs.Terms.{Guarantee}
use Rattle.act_model.specs.declared.event.Event.{Event}
use Rattle.act_model.specs.declared.event.EventType.TheVariants as type
use Rattle.act_model.specs.declared.observed.Obs.{Obs}
use Rattle.act_model.specs.declared.terms.Common.{Common}
use Rattle.act_model.specs.declared.terms.Covered.{Covered}
use Rattle.act_model.specs.declared.terms.Kind.{Kind}
use Rattle.act_model.specs.declared.terms.Kind.TheVariants as kind
use Rattle.act_profile.specs.Contract.{observed_as}
use Rattle.act_profile.specs.Credit.{credit_day, guarantee_events, guarantee_events_by, guarantee_plan, maturity_plan, maturity_plan_by}
use Rattle.act_profile.specs.Exercise.{events_exercised_on, exercise_day, exercise_events, not_before, settlement_day}
use Rattle.act_profile.specs.Events.{events_scheduled}
use Rattle.act_profile.specs.Plan.{plan_by}
use Rattle.act_profile.specs.Planning.{as_scheduled, event_on}
use Rattle.act_profile.specs.Reads.{is_in}
use Rattle.act_profile.specs.Trade.{plain_plan, trade_events}
use Rattle.act_causality.specs.Causality.{AgreeBefore, events_before}
use Rattle.act_causality.proofs.Days.{DaysAgree, MaybeAgree, credit_day-agree, credit_day-until, exercise_day-agree}
use Rattle.act_causality.proofs.Observations.{events_before-append}

-- ---- exercise and settlement

behind : (day d x : ℤ) → int_lt d day ≡ false → int_lt x d ≡ false → int_lt x day ≡ false
behind day d x late later = grind (arith, ints)

past_day : (day maturity d : ℤ) → int_le d maturity ≡ true → int_lt d day ≡ false → int_lt maturity day ≡ false
past_day day maturity d until late = grind (arith, ints)

pub not_before-late : (day d : ℤ) (shifted : Shifted) → int_lt d day ≡ false → int_lt (not_before d shifted).day day ≡ false
not_before-late day d shifted late =
    elim (cases_Bool (int_lt shifted.day d)) [
      | inl earlier ↦ rw earlier late
      | inr later ↦ rw later (behind day d shifted.day late later)
    ]

late-settlement : (day d : ℤ) (shifted : Option Shifted) → int_lt last_day day ≡ false → int_lt d day ≡ false → int_lt (unwrap_or (option_map (not_before d) shifted) (as_scheduled last_day)).day day ≡ false
late-settlement day d None last late = last
late-settlement day d (Some shifted) last late = not_before-late day d shifted late

pub settlement_day-late : (day : ℤ) (common : Common) (period : Cycle) (d : ℤ) → int_lt last_day day ≡ false → int_lt d day ≡ false → int_lt (settlement_day common period d).day day ≡ false
unfolding settlement_day
settlement_day-late day common period d last late =
    late-settlement day d (option_and_then (shift_of common.business_day_convention common.calendar) (plus_cycles d period 1)) last late

pub exercise-late : (day : ℤ) (common : Common) (period : Cycle) (d : ℤ) → int_lt last_day day ≡ false → int_lt d day ≡ false → events_before day (exercise_events common period d) ≡ []
exercise-late day common period d last late = rw late (rw (settlement_day-late day common period d last late) refl)

exercise-agree : (day : ℤ) (common : Common) (period : Cycle) (a b : ℤ) → int_lt last_day day ≡ false → DaysAgree day a b →
    events_before day (exercise_events common period a) ≡ events_before day (exercise_events common period b)
exercise-agree day common period a b last (inl same) = ap (λ (d : ℤ). events_before day (exercise_events common period d)) same.0
exercise-agree day common period a b last (inr late) = exercise-late day common period a last late.0 ∙ sym (exercise-late day common period b last late.1)

pub exercised_on-agree : (day : ℤ) (common : Common) (period : Cycle) (a b : ℤ) → int_lt last_day day ≡ false → DaysAgree day a b →
    events_before day (events_exercised_on common period a) ≡ events_before day (events_exercised_on common period b)
exercised_on-agree day common period a b last agree =
    events_before-append day (trade_events common) (exercise_events common period a)
    ∙ ap (λ (events : List Event). events_before day (trade_events common) ++ events) (exercise-agree day common period a b last agree)
    ∙ sym (events_before-append day (trade_events common) (exercise_events common period b))

-- ---- guarantees

maturity-late : (day maturity d : ℤ) (shifted : Option Shifted) (plan : EventPlan) → maturity_plan_by maturity shifted ≡ Ok plan → int_le d maturity ≡ true → int_lt d day ≡ false → events_before day plan.events ≡ []
maturity-late day maturity d None plan is until late = absurd (cc)
maturity-late day maturity d (Some shifted) plan is until late =
    let same : plain_plan (event_on 0 type.MD (not_before maturity shifted) ∷ []) ≡ plan = cc in
    rw (← same) (rw (not_before-late day maturity shifted (past_day day maturity d until late)) refl)

-- where a credit event is late, so is maturity
plan-late : (day : ℤ) (common : Common) (maturity : Option ℤ) (plan : EventPlan) (d : ℤ) → maturity_plan common maturity ≡ Ok plan → ((last : ℤ) → maturity ≡ Some last → int_le d last ≡ true) → int_lt d day ≡ false →
    events_before day plan.events ≡ []
plan-late day common None plan d is until late = let same : plain_plan [] ≡ plan = cc in rw (← same) refl
plan-late day common (Some maturity) plan d is until late =
    maturity-late day maturity d (shift_of common.business_day_convention common.calendar maturity) plan is (until maturity refl) late

credit-agree : (day : ℤ) (common : Common) (guarantee : Guarantee) (plan : EventPlan) (a b : Option ℤ) → int_lt last_day day ≡ false → maturity_plan common guarantee.maturity_date ≡ Ok plan →
    ((d : ℤ) → a ≡ Some d → (last : ℤ) → guarantee.maturity_date ≡ Some last → int_le d last ≡ true) → ((d : ℤ) → b ≡ Some d → (last : ℤ) → guarantee.maturity_date ≡ Some last → int_le d last ≡ true) →
    MaybeAgree day a b → events_before day (guarantee_events_by common guarantee plan a) ≡ events_before day (guarantee_events_by common guarantee plan b)
credit-agree day common guarantee plan a b last planned until until2 (inl same) = ap (λ (d : Option ℤ). events_before day (guarantee_events_by common guarantee plan d)) same.0
credit-agree day common guarantee plan None None last planned until until2 (inr late) = refl
credit-agree day common guarantee plan None (Some b) last planned until until2 (inr late) =
    plan-late day common guarantee.maturity_date plan b planned (until2 b refl) late.1 ∙ sym (exercise-late day common guarantee.settlement_period b last late.1)
credit-agree day common guarantee plan (Some a) None last planned until until2 (inr late) =
    exercise-late day common guarantee.settlement_period a last late.0 ∙ sym (plan-late day common guarantee.maturity_date plan a planned (until a refl) late.0)
credit-agree day common guarantee plan (Some a) (Some b) last planned until until2 (inr late) =
    exercise-late day common guarantee.settlement_period a last late.0 ∙ sym (exercise-late day common guarantee.settlement_period b last late.1)

-- ---- any kind

module _ (day : ℤ) (codes contracts : List ℕ) (one other : List Obs) (agree : AgreeBefore day codes contracts one other) (last : int_lt last_day day ≡ false) where
  guarantee-agree : (common : Common) (guarantee : Guarantee) (plan : EventPlan) → guarantee_plan common guarantee ≡ Ok plan → AllByRecursion (λ (c : Covered). is_in contracts c.contract ≡ true) guarantee.covered →
      events_before day (guarantee_events one common guarantee plan) ≡ events_before day (guarantee_events other common guarantee plan)
  unfolding guarantee_plan
  guarantee-agree common guarantee plan planned covered =
      credit-agree day common guarantee plan (credit_day one common guarantee) (credit_day other common guarantee) last planned
      (λ d is maturity given. credit_day-until one common guarantee maturity d given is) (λ d is maturity given. credit_day-until other common guarantee maturity d given is)
      (credit_day-agree day codes contracts one other agree common guarantee covered)

  -- the same scheduled events dated before the day
  pub scheduled-agree : (common : Common) (contract : Kind) (plan : EventPlan) → plan_by common contract ≡ Ok plan → is_in contracts (observed_as common) ≡ true → CoveredIn contracts contract →
      events_before day (events_scheduled common contract plan one) ≡ events_before day (events_scheduled common contract plan other)
  scheduled-agree common (kind.OPTNS optns) plan planned within covered =
      exercised_on-agree day common optns.settlement_period (exercise_day one common optns) (exercise_day other common optns) last (exercise_day-agree day codes contracts one other agree common optns within)
  scheduled-agree common (kind.CEG ceg) plan planned within covered = guarantee-agree common ceg plan planned covered
  scheduled-agree common (kind.CEC cec) plan planned within covered = guarantee-agree common cec.guarantee plan planned covered
  scheduled-agree common contract plan planned within covered = refl
