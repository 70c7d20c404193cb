-- Purchase and termination, and how time passes for contracts on which nothing accrues. The payoffs are this profile's own.
use Rattle.std.specs.Prelude.{ℤ, List, [], ◌∷◌, ◌++◌, Option, Some, None}
use Rattle.act_model.specs.declared.event.Event.{Event}
use Rattle.act_model.specs.declared.event.EventType.{EventType}
use Rattle.act_model.specs.declared.event.EventType.TheVariants.{PRD, TD, CE}
use Rattle.act_model.specs.declared.state.State.{State}
use Rattle.act_model.specs.declared.terms.Common.{Common}
use Rattle.act_model.specs.Run.{EventPlan}
use Rattle.act_profile.specs.Formula.{opposite, signed}
use Rattle.act_profile.specs.Planning.{event_on, as_scheduled}
use Rattle.act_profile.specs.States.{later_day, with_sd}
use Rattle.act_profile.specs.Step.{StepLine, idle_line, keeps, pays}

-- the event of a date that isn't shifted, where it is given
abbrev pub event_where_given : EventType → Option ℤ → List Event
event_where_given kind None = []
event_where_given kind (Some date) = event_on 0 kind (as_scheduled date) ∷ []

-- the purchase and the termination
abbrev pub trade_events : Common → List Event
trade_events common = event_where_given PRD common.purchase_date ++ event_where_given TD common.termination_date

-- a plan without redemptions
abbrev pub plain_plan : List Event → EventPlan
plain_plan events = record { events = events; redemptions = []; periods = [] }

-- the state as time passes up to an event: Sd never goes back, and a credit event doesn't move it
abbrev pub passed : EventType → ℤ → State → Option State
passed CE calc s = Some s
passed other calc s = Some (with_sd (later_day s.sd calc) s)

-- the line of a purchase or a termination; any other event pays and changes nothing
abbrev pub trade_line : Common → EventType → StepLine
trade_line common PRD = record {
  payoff = pays (λ s. Some (opposite common.contract_role common.price_at_purchase_date));
  change = keeps;
}
trade_line common TD = record {
  payoff = pays (λ s. Some (signed common.contract_role common.price_at_termination_date));
  change = keeps;
}
trade_line common other = idle_line
