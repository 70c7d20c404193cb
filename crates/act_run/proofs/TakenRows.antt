-- The rows of events, event by event.
use Rattle.std.proofs.Common.{◌≡◌, ℕ, ◌+◌, ◌<◌, ◌≤◌, ℤ, List, [], ◌∷◌, ◌++◌, length, drop, get_or, Result, Ok, Err, refl, sym, ◌∙◌, ap, append_assoc, append-nil}
use Rattle.std.proofs.lemmas.List.{drop_all}
use Rattle.act_model.specs.Run.{Stream}
use Rattle.act_model.specs.declared.event.Event.{Event}
use Rattle.act_model.specs.declared.run.Close.{Close}
use Rattle.act_model.specs.declared.run.Close.TheVariants.{End}
use Rattle.act_model.specs.declared.run.Row.{Row}
use Rattle.act_model.specs.declared.run.Stop.{Stop}
use Rattle.act_model.specs.declared.state.State.{State}
use Rattle.act_kind.specs.Takes.{with_state}
use Rattle.act_profile.specs.Outcomes.{map_ok}
use Rattle.act_profile.specs.Run.{close_of, row_of, rows_from, stopped_at_once, with_row}
use Rattle.act_model.proofs.Lists.{next_of}
use Rattle.act_run.specs.Resuming.{with_rows}

abbrev pub Step : Type 0
Step = State → Event → Result (ℤ × State) Stop

-- the row that a step makes, before the rows of the rest; or its stop
abbrev pub taken_rows : Event → ℕ → (State → Stream) → Result (ℤ × State) Stop → Stream
taken_rows event currency rest (Ok taken) = with_row (row_of event currency taken) (rest taken.1)
taken_rows event currency rest (Err stop) = stopped_at_once stop

-- behind those that stand already, the first k of the events have these rows, and leave this state
pub record HasTaken (step : Step) (currency : Event → ℕ) (before : List Row) (first : State) (events : List Event) (rows : List Row) (s : State) (k : ℕ) : Type 0 where
  pub is : with_rows before (rows_from step currency first events) ≡ with_rows rows (rows_from step currency s (drop k events))

-- the row of an event, or its stop
abbrev pub row_on : Step → (Event → ℕ) → State → Event → Result Row Stop
row_on step currency s event = map_ok (row_of event (currency event)) (step s event)

-- what a step in place answers makes the row of the event, with the state that is left; or its stop
pub made_row : (step : Step) (currency : Event → ℕ) (s : State) (event : Event) (next : State) (taken : Result ℤ Stop) (payoff : ℤ) →
    with_state next taken ≡ step s event → taken ≡ Ok payoff → row_on step currency s event ≡ Ok (row_of event (currency event) (payoff, next))
made_row step currency s event next taken payoff is paid = ap (map_ok (row_of event (currency event))) (sym is ∙ ap (with_state next) paid)

pub made_stop : (step : Step) (currency : Event → ℕ) (s : State) (event : Event) (next : State) (taken : Result ℤ Stop) (stop : Stop) →
    with_state next taken ≡ step s event → taken ≡ Err stop → row_on step currency s event ≡ Err stop
made_stop step currency s event next taken stop is stopped = ap (map_ok (row_of event (currency event))) (sym is ∙ ap (with_state next) stopped)

pub rows_of_cons : (step : Step) (currency : Event → ℕ) (s : State) (event : Event) (events : List Event) →
    rows_from step currency s (event ∷ events) ≡ taken_rows event (currency event) (λ next. rows_from step currency next events) (step s event)
unfolding rows_from
rows_of_cons step currency s event events = refl

-- a row stands before those of the state that it holds, and nothing behind a stop
row_first : (event : Event) (currency : ℕ) (rest : State → Stream) (taken : Result (ℤ × State) Stop) (row : Row) → map_ok (row_of event currency) taken ≡ Ok row →
    taken_rows event currency rest taken ≡ with_row row (rest row.state)
row_first event currency rest (Ok taken) row is =
    let same : row_of event currency taken ≡ row = cc in
    ap (λ (r : Row). with_row r (rest r.state)) same
row_first event currency rest (Err stop) row is = absurd (cc)

stop_alone : (event : Event) (currency : ℕ) (rest : State → Stream) (taken : Result (ℤ × State) Stop) (stop : Stop) → map_ok (row_of event currency) taken ≡ Err stop →
    taken_rows event currency rest taken ≡ stopped_at_once stop
stop_alone event currency rest (Ok taken) stop is = absurd (cc)
stop_alone event currency rest (Err own) stop is =
    let same : own ≡ stop = cc in
    ap stopped_at_once same

rows_of_none : (step : Step) (currency : Event → ℕ) (s : State) → rows_from step currency s [] ≡ record { rows = []; close = End }
unfolding rows_from
rows_of_none step currency s = refl

pub taken_none : (step : Step) (currency : Event → ℕ) (before : List Row) (first : State) (events : List Event) → HasTaken step currency before first events before first 0
taken_none step currency before first events = record { is = refl }

one_more : (rows : List Row) (row : Row) (run : Stream) → with_rows rows (with_row row run) ≡ with_rows (rows ++ row ∷ []) run
one_more rows row run = ap (λ all. record { rows = all; close = run.close }) (sym (append_assoc rows (row ∷ []) run.rows))

pub taken_one : (step : Step) (currency : Event → ℕ) (before : List Row) (first : State) (events : List Event) (rows : List Row) (s : State) (k : ℕ) (event : Event) (row : Row) →
    HasTaken step currency before first events rows s k → k < length events → event ≡ get_or events k event → row_on step currency s event ≡ Ok row →
    HasTaken step currency before first events (rows ++ row ∷ []) row.state (k + 1)
taken_one step currency before first events rows s k event row so_far lt here is =
    let left = drop (k + 1) events in
    let next = ap (rows_from step currency s) (next_of events k event lt here) ∙ rows_of_cons step currency s event left
    ∙ row_first event (currency event) (λ state. rows_from step currency state left) (step s event) row is in
    record { is = so_far.is ∙ ap (with_rows rows) next ∙ one_more rows row (rows_from step currency row.state left) }

-- a run that ends with these rows, for whatever reason
closed : (rows : List Row) (close : Close) → with_rows rows (record { rows = []; close = close }) ≡ record { rows = rows; close = close }
closed rows close = ap (λ all. record { rows = all; close = close }) (append-nil rows)

pub taken_stop : (step : Step) (currency : Event → ℕ) (before : List Row) (first : State) (events : List Event) (rows : List Row) (s : State) (k : ℕ) (event : Event) (stop : Stop) →
    HasTaken step currency before first events rows s k → k < length events → event ≡ get_or events k event → row_on step currency s event ≡ Err stop →
    with_rows before (rows_from step currency first events) ≡ record { rows = rows; close = close_of stop }
taken_stop step currency before first events rows s k event stop so_far lt here is =
    let left = drop (k + 1) events in
    let next = ap (rows_from step currency s) (next_of events k event lt here) ∙ rows_of_cons step currency s event left
    ∙ stop_alone event (currency event) (λ state. rows_from step currency state left) (step s event) stop is in
    so_far.is ∙ ap (with_rows rows) next ∙ closed rows (close_of stop)

pub taken_all : (step : Step) (currency : Event → ℕ) (before : List Row) (first : State) (events : List Event) (rows : List Row) (s : State) (k : ℕ) →
    HasTaken step currency before first events rows s k → length events ≤ k → with_rows before (rows_from step currency first events) ≡ record { rows = rows; close = End }
taken_all step currency before first events rows s k so_far le =
    so_far.is ∙ ap (λ left. with_rows rows (rows_from step currency s left)) (drop_all k events le) ∙ ap (with_rows rows) (rows_of_none step currency s) ∙ closed rows End
