-- Runs: the evaluation of a contract from inception, children first. ACTUS: the stream is the fold over the events in time order.
use Rattle.std.specs.Prelude.{ℕ, zero, suc, ℤ, List, [], ◌∷◌, map, Option, Some, Result, Ok, Err}
use Rattle.std.specs.List.{slice_get}
use Rattle.std.specs.Option.{unwrap_or}
use Rattle.act_model.specs.Run.{EventPlan, Stream}
use Rattle.act_model.specs.declared.event.Event.{Event}
use Rattle.act_model.specs.declared.observed.Obs.{Obs}
use Rattle.act_model.specs.declared.run.Close.{Close}
use Rattle.act_model.specs.declared.run.Close.TheVariants as close
use Rattle.act_model.specs.declared.run.Row.{Row}
use Rattle.act_model.specs.declared.run.Stop.{Stop}
use Rattle.act_model.specs.declared.run.Stop.TheVariants.{Missing, Overflow}
use Rattle.act_model.specs.declared.state.State.{State}
use Rattle.act_model.specs.declared.terms.Terms.{Terms}
use Rattle.act_profile.specs.Events.{events_of}
use Rattle.act_profile.specs.Legs.{no_rows}
use Rattle.act_profile.specs.Steps.{currency_of, start_of, step_of}
use Rattle.act_profile.specs.Stops.{chosen_close, under_stop}

-- ---- the run of a contract over its children's runs

-- the row of an event with its payoff and the state after it
abbrev pub row_of : Event → ℕ → ℤ × State → Row
row_of event currency taken = record { day = event.day; kind = event.kind; currency = currency; payoff = taken.0; state = taken.1 }

-- the close of a stop
abbrev pub close_of : Stop → Close
close_of (Missing code day) = close.Missing code day
close_of (Overflow day kind) = close.Overflow day kind

-- no rows, and a stop
abbrev pub stopped_at_once : Stop → Stream
stopped_at_once stop = record { rows = []; close = close_of stop }

-- a row before those of a run
abbrev pub with_row : Row → Stream → Stream
with_row row run = record { rows = row ∷ run.rows; close = run.close }

-- the rows of events, one for each, from a state on, up to the first stop
unfoldable pub rows_from : (State → Event → Result (ℤ × State) Stop) → (Event → ℕ) → State → List Event → Stream
rows_from step currency s [] = no_rows
rows_from step currency s (event ∷ events) = elim (step s event) [
  | Ok taken ↦ with_row (row_of event (currency event) taken) (rows_from step currency taken.1 events)
  | Err stop ↦ stopped_at_once stop
]

-- the rows from a starting state on, where there is one
abbrev pub run_from : (State → List Event → Stream) → List Event → Result State Stop → Stream
run_from rows events (Ok s) = rows s events
run_from rows events (Err stop) = stopped_at_once stop

-- the run of a contract by itself: a row for each of its events from its starting state on, up to the first stop
unfoldable pub own_run : Terms → EventPlan → List Obs → List Stream → Stream
own_run terms plan entries children =
    run_from (rows_from (step_of terms plan entries children) (currency_of terms children)) (events_of terms plan entries children) (start_of terms plan)

-- the run of a contract under the rule on its children's stops
unfoldable pub run_over : Terms → EventPlan → List Obs → List Stream → Stream
run_over terms plan entries children =
    under_stop terms.common terms.kind entries (chosen_close children) (own_run terms plan entries children)

-- ---- the runs of a portfolio

-- the contracts of a portfolio by their numbers, the shadows last: terms, plans, and the children of each in structure order. What terms hold
-- of other contracts (the shadow of a cap and floor, what a guarantee knows of those it covers) is the portfolio's to say
pub record Contracts : Type 0 where
  pub terms : List Terms
  pub plans : List EventPlan
  pub children : List (List ℕ)

-- the run of a contract with these terms, plan and children, where they are there
abbrev pub run_where_given : Option Terms → Option EventPlan → List Obs → List Stream → Stream
run_where_given (Some terms) (Some plan) entries children = run_over terms plan entries children
run_where_given terms plan entries children = no_rows

-- the run of a contract over its children's, of a chain of at most so many contracts
unfoldable pub run_to : ℕ → Contracts → List Obs → ℕ → Stream
run_to zero contracts entries c = no_rows
run_to (suc n) contracts entries c =
    run_where_given (slice_get contracts.terms c) (slice_get contracts.plans c) entries
    (map (run_to n contracts entries) (unwrap_or (slice_get contracts.children c) []))

-- the most contracts of a chain of references
abbrev pub deepest : ℕ
deepest = 16

-- the run of a contract of a portfolio over the entries of a book, from inception, children first
abbrev pub run_of : Contracts → List Obs → ℕ → Stream
run_of contracts entries c = run_to deepest contracts entries c
