-- Plain vanilla interest rate swaps: SWPPV. The names are those of ACTUS; every rule and formula is this profile's.
use Rattle.std.specs.Option.{unwrap_or}
use Rattle.std.specs.Prelude.{if◌then◌else◌, ℤ, pos, int_lt, List, [], ◌∷◌, Option, Some, option_map, option_and_then, Result}
use Rattle.act_date.specs.DayCount.{year_fraction}
use Rattle.act_date.specs.Fraction.{Fraction}
use Rattle.act_num.specs.Number.{sub_of}
use Rattle.act_model.specs.Run.{EventPlan}
use Rattle.act_model.specs.declared.event.Event.{Event}
use Rattle.act_model.specs.declared.event.EventType.{EventType}
use Rattle.act_model.specs.declared.event.EventType.TheVariants.{IED, PRD, TD, IP, RRF, RR, MD, CE}
use Rattle.act_model.specs.declared.run.PlanFault.{PlanFault}
use Rattle.act_model.specs.declared.state.State.{State}
use Rattle.act_model.specs.declared.terms.Common.{Common}
use Rattle.act_model.specs.declared.terms.Swppv.{Swppv}
use Rattle.act_profile.specs.Dates.{latest_until, recurring_before, recurring_or_end}
use Rattle.act_profile.specs.Formula.{interest_on, plus, signed}
use Rattle.act_profile.specs.Loan.{becomes_by_given, reset_rate}
use Rattle.act_profile.specs.LoanPlan.{resets_on}
use Rattle.act_profile.specs.Order.{in_order}
use Rattle.act_profile.specs.Outcomes.{map_ok}
use Rattle.act_profile.specs.Planning.{Planned, events_by_type, shifting, unshifted, unshifted_where_given}
use Rattle.act_profile.specs.States.{first_state, later_day, with_ipac, with_ipac2, with_ipnr, with_ipnr2, with_nt, with_sd}
use Rattle.act_profile.specs.Step.{StepLine, becomes, changed, nothing, pays}
use Rattle.act_profile.specs.Trade.{plain_plan, trade_line}

-- ---- the plan

-- the interest dates up to maturity, or maturity alone where they have no anchor
abbrev pub plain_swap_interest_dates : Common → Swppv → Option (List ℤ)
plain_swap_interest_dates common swap =
    recurring_or_end common.end_of_month_convention swap.initial_exchange_date swap.maturity_date swap.cycle_anchor_date_of_interest_payment swap.cycle_of_interest_payment

-- the reset dates before maturity
abbrev pub plain_swap_reset_dates : Common → Swppv → Option (List ℤ)
plain_swap_reset_dates common swap =
    recurring_before common.end_of_month_convention swap.initial_exchange_date swap.maturity_date swap.rate_reset.cycle_anchor_date_of_rate_reset swap.rate_reset.cycle_of_rate_reset

-- the dates of each type of event, in the order in which faults are found
abbrev pub plain_swap_dates : Common → Swppv → List (Option (List Planned))
plain_swap_dates common swap =
    Some (unshifted IED swap.initial_exchange_date)
    ∷ Some (unshifted_where_given PRD common.purchase_date)
    ∷ Some (unshifted_where_given TD common.termination_date)
    ∷ option_map (shifting IP) (plain_swap_interest_dates common swap)
    ∷ option_map (resets_on common.status_date swap.rate_reset.next_reset_rate) (plain_swap_reset_dates common swap)
    ∷ Some (shifting MD (swap.maturity_date ∷ []))
    ∷ []

-- the plan of a plain swap
unfoldable pub plain_swap_plan : Common → Swppv → Result EventPlan PlanFault
plain_swap_plan common swap = map_ok (λ events. plain_plan (in_order events)) (events_by_type common 0 (plain_swap_dates common swap))

-- ---- states

-- Y(s, t)
abbrev pub plain_swap_part : Common → Swppv → ℤ → ℤ → Fraction
plain_swap_part common swap s t = year_fraction swap.day_count_convention common.calendar s t (Some swap.maturity_date)

-- the state that has accrued at both rates up to a day
abbrev pub plain_swap_accrued : Common → Swppv → ℤ → State → Option State
plain_swap_accrued common swap calc s =
    let part = plain_swap_part common swap (unwrap_or s.sd calc) calc in
    option_and_then (λ first. option_map (λ second. with_sd (later_day s.sd calc) (with_ipac2 second (with_ipac first s)))
    (plus (Some s.ipac2) (interest_on s.nt s.ipnr2 part))) (plus (Some s.ipac) (interest_on s.nt s.ipnr part))

-- the state before an event: nothing accrues before IED and CE
abbrev pub plain_swap_before_event : Common → Swppv → EventType → ℤ → State → Option State
plain_swap_before_event common swap IED calc s = Some s
plain_swap_before_event common swap CE calc s = Some s
plain_swap_before_event common swap other calc s = plain_swap_accrued common swap calc s

-- the state with the notional and the rates that the swap begins with
abbrev pub plain_swap_begun : Common → Swppv → State → State
plain_swap_begun common swap s =
    with_ipnr2 swap.nominal_interest_rate2 (with_ipnr swap.nominal_interest_rate (with_nt (signed common.contract_role swap.notional_principal) s))

-- the state of a started swap: interest has accrued since the latest interest date
abbrev pub plain_swap_started : Common → Swppv → State → Option State
plain_swap_started common swap s =
    option_and_then (λ dates.
    let part = plain_swap_part common swap (latest_until common.status_date swap.initial_exchange_date dates) common.status_date in
    option_and_then (λ first. option_map (λ second. with_ipac2 second (with_ipac first s))
    (interest_on s.nt s.ipnr2 part)) (interest_on s.nt s.ipnr part))
    (plain_swap_interest_dates common swap)

-- the state that a plain swap begins with, where it is defined
abbrev pub plain_swap_state : Common → Swppv → Option State
plain_swap_state common swap =
    let s = first_state common.status_date in
    if int_lt common.status_date swap.initial_exchange_date then Some s else plain_swap_started common swap (plain_swap_begun common swap s)

-- ---- steps

-- the line of an event
abbrev pub plain_swap_line : Common → Swppv → Event → EventType → StepLine
plain_swap_line common swap e IED = record {
  payoff = nothing;
  change = becomes (λ s. Some (with_sd e.calc (plain_swap_begun common swap s)));
}
plain_swap_line common swap e TD = record {
  payoff = pays (λ s. Some (signed common.contract_role common.price_at_termination_date));
  change = becomes (λ s. Some (with_nt (pos 0) (with_ipac (pos 0) (with_ipac2 (pos 0) s))));
}
plain_swap_line common swap e IP = record {
  payoff = pays (λ s. sub_of s.ipac s.ipac2);
  change = becomes (λ s. Some (with_ipac (pos 0) (with_ipac2 (pos 0) s)));
}
plain_swap_line common swap e RRF = record {
  payoff = nothing;
  change = becomes (changed with_ipnr2 swap.rate_reset.next_reset_rate);
}
plain_swap_line common swap e RR = record {
  payoff = nothing;
  change = becomes_by_given swap.rate_reset.market_object_code_of_rate_reset (λ o s. changed with_ipnr2 (reset_rate swap.rate_reset o s.ipnr2) s);
}
plain_swap_line common swap e MD = record {
  payoff = nothing;
  change = becomes (λ s. Some (with_nt (pos 0) s));
}
plain_swap_line common swap e other = trade_line common other
