-- What a contract's run is a function of. This profile's own.
use Rattle.std.specs.Prelude.{◌≡◌, List, Option, Ok}
use Rattle.act_model.specs.Run.{EventPlan, Stream}
use Rattle.act_model.specs.declared.event.Event.{Event}
use Rattle.act_model.specs.declared.observed.Obs.{Obs}
use Rattle.act_model.specs.declared.terms.Terms.{Terms}
use Rattle.act_profile.specs.Built.{IsBuilt}
use Rattle.act_profile.specs.DayOrder.{RunsAreInDayOrder}
use Rattle.act_profile.specs.Events.{events_of}
use Rattle.act_profile.specs.Plan.{plan_of}
use Rattle.act_profile.specs.Run.{run_over}
use Rattle.act_profile.specs.Stops.{chosen_close}
use Rattle.act_run.specs.Limits.{limit_of}
use Rattle.act_run.specs.declared.limit.Limit.{Limit}

-- a contract's terms and plan, its children's runs, and the entries of a book
pub record Inputs : Type 0 where
  pub terms : Terms
  pub plan : EventPlan
  pub children : List Stream
  pub entries : List Obs

-- what is asked of them: a plan can be made of the terms, the plan is theirs, and the rows of each child stand by their days
pub record ArePossible (terms : Terms) (plan : EventPlan) (children : List Stream) : Type 0 where
  pub built : IsBuilt terms.kind
  pub planned : plan_of terms ≡ Ok plan
  pub in_day_order : RunsAreInDayOrder children

-- ---- what they give

-- the run of the contract
abbrev pub run_given : Inputs → Stream
run_given inputs = run_over inputs.terms inputs.plan inputs.entries inputs.children

-- its events that count
abbrev pub events_given : Inputs → List Event
events_given inputs = events_of inputs.terms inputs.plan inputs.entries inputs.children

-- where its children's runs stop it
abbrev pub limit_given : Inputs → Option Limit
limit_given inputs = limit_of inputs.terms.common inputs.terms.kind inputs.entries (chosen_close inputs.children)
