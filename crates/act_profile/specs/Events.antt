-- The events of a contract over a book: those of its plan, observed ones, and rows of its children, as far as they count. ACTUS has event
-- sequences; the rules are this profile's.
use Rattle.std.specs.Prelude.{ℕ, ℤ, List, [], ◌∷◌, ◌++◌, Option, Some, None}
use Rattle.std.specs.List.{enumerate_from, flat_map}
use Rattle.act_model.specs.Observed.{observed_events}
use Rattle.act_model.specs.Run.{EventPlan, Stream}
use Rattle.act_model.specs.declared.choice.PenaltyType.{PenaltyType}
use Rattle.act_model.specs.declared.choice.PenaltyType.TheVariants as penalty
use Rattle.act_model.specs.declared.event.Event.{Event}
use Rattle.act_model.specs.declared.event.EventType.{EventType}
use Rattle.act_model.specs.declared.event.EventType.TheVariants.{PP, PY, DV, CE}
use Rattle.act_model.specs.declared.event.Source.TheVariants.{Observed}
use Rattle.act_model.specs.declared.observed.Obs.{Obs}
use Rattle.act_model.specs.declared.observed.Obs.TheVariants as obs
use Rattle.act_model.specs.declared.observed.ObsKind.{ObsKind}
use Rattle.act_model.specs.declared.observed.ObsKind.TheVariants as observed
use Rattle.act_model.specs.declared.terms.Common.{Common}
use Rattle.act_model.specs.declared.terms.Kind.{Kind}
use Rattle.act_model.specs.declared.terms.Kind.TheVariants as kind
use Rattle.act_model.specs.declared.terms.Loan.{Loan}
use Rattle.act_model.specs.declared.terms.Terms.{Terms}
use Rattle.act_profile.specs.Contract.{observed_as}
use Rattle.act_model.specs.Kind.{loan_of}
use Rattle.act_profile.specs.Credit.{guarantee_events}
use Rattle.act_profile.specs.Exercise.{events_exercised_on, exercise_day, settled_events}
use Rattle.act_profile.specs.Legs.{capfl_events, swaps_events}
use Rattle.act_profile.specs.Order.{counting, in_order}

-- ---- observed events

-- an event on the day of an observation, with the observation's place among those of the contract
abbrev pub event_observed : ℕ → EventType → ℤ → ℤ → Event
event_observed place kind day value = record { day = day; calc = day; kind = kind; value = value; source = Observed place }

-- a prepayment, and its penalty where there is one
abbrev pub prepayment_events : ℕ → ℤ → ℤ → PenaltyType → List Event
prepayment_events place day value penalty.O = event_observed place PP day value ∷ []
prepayment_events place day value other = event_observed place PP day value ∷ event_observed place PY day value ∷ []

-- only a loan has prepayments, and only a stock dividends
abbrev pub loan_prepayment : ℕ → ℤ → ℤ → Option Loan → List Event
loan_prepayment place day value None = []
loan_prepayment place day value (Some loan) = prepayment_events place day value loan.penalty_type

abbrev pub stock_dividend : ℕ → ℤ → ℤ → Kind → List Event
stock_dividend place day value (kind.STK stk) = event_observed place DV day value ∷ []
stock_dividend place day value other = []

-- the events that an observation of a kind makes: an exercise makes none, it moves the scheduled one
abbrev pub events_by : Kind → ℕ → ObsKind → ℤ → ℤ → List Event
events_by terms place observed.PP day value = loan_prepayment place day value (loan_of terms)
events_by terms place observed.DV day value = stock_dividend place day value terms
events_by terms place observed.XD day value = []
events_by terms place credit day value = event_observed place CE day value ∷ []

abbrev pub events_of_entry : Kind → ℕ × Obs → List Event
events_of_entry terms (place, obs.Rate code day value) = []
events_of_entry terms (place, obs.Event contract kind day value) = events_by terms place kind day value

-- the observed events of a contract, in the order of the book
unfoldable pub events_observed : Terms → List Obs → List Event
events_observed terms entries =
    flat_map (events_of_entry terms.kind) (enumerate_from 0 (observed_events entries (observed_as terms.common)))

-- ---- scheduled events over a book

-- those of the plan; of an option with the day of its exercise, and of a guarantee with that of the credit event
abbrev pub events_scheduled : Common → Kind → EventPlan → List Obs → List Event
events_scheduled common (kind.OPTNS optns) plan entries =
    events_exercised_on common optns.settlement_period (exercise_day entries common optns)
events_scheduled common (kind.CEG ceg) plan entries = guarantee_events entries common ceg plan
events_scheduled common (kind.CEC cec) plan entries = guarantee_events entries common cec.guarantee plan
events_scheduled common other plan entries = plan.events

-- ---- rows of children

abbrev pub events_of_children : Common → Kind → List Stream → List Event
events_of_children common (kind.SWAPS swaps) children = swaps_events common swaps children
events_of_children common (kind.CAPFL capfl) children = capfl_events common capfl children
events_of_children common other children = []

-- ---- all events

-- without an exercise there is no settlement of it
abbrev pub with_exercise : Kind → List Event → List Event
with_exercise (kind.OPTNS optns) events = settled_events events
with_exercise (kind.FUTUR futur) events = settled_events events
with_exercise other events = events

-- the events of a contract over the entries of a book and its children's runs, in order. Of one day and type scheduled events come before
-- observed ones, and these before rows of children
unfoldable pub events_of : Terms → EventPlan → List Obs → List Stream → List Event
events_of terms plan entries children =
    with_exercise terms.kind (counting terms.common.status_date terms.kind (in_order
    (events_scheduled terms.common terms.kind plan entries ++ events_observed terms entries ++ events_of_children terms.common terms.kind children)))
