-- A run that goes on from its first rows.
use Rattle.std.proofs.Common.{◌≡◌, ℕ, zero, suc, ◌≤◌, ℤ, List, [], ◌∷◌, ◌++◌, length, take, drop, slice_get, Option, Some, None, Result, Ok, Err, refl, sym, ap, subst, ◌∙◌, append-nil, take_all, arith}
use Rattle.act_model.specs.declared.event.Event.{Event}
use Rattle.act_model.specs.declared.run.Close.{Close}
use Rattle.act_model.specs.declared.run.Close.TheVariants.{End}
use Rattle.act_model.specs.declared.run.Row.{Row}
use Rattle.act_model.specs.declared.run.Stop.{Stop}
use Rattle.act_model.specs.declared.state.State.{State}
use Rattle.std.proofs.lemmas.List.{drop_all, length-take-le}
use Rattle.act_model.specs.Run.{Stream}
use Rattle.act_profile.specs.Run.{row_of, rows_from, with_row}
use Rattle.act_profile.specs.Steps.{currency_of, start_of, step_of}
use Rattle.act_run.specs.Inputs.{Inputs, events_given, limit_given, run_given}
use Rattle.act_run.specs.Limits.{before_limit, closed_by}
use Rattle.act_run.specs.Resuming.{BeginsWith, NeedsNoMore, state_behind, state_or_start, with_rows}
use Rattle.act_run.specs.declared.limit.Limit.{Limit}
use Rattle.act_run.proofs.Limited.{closed_by_rows, rows_over, run_by_rows, run_stopped}
use Rattle.act_run.proofs.TakenRows.{Step, rows_of_cons, taken_rows}

-- ---- the state behind rows

-- from a state on it is the state behind them
from_state : (s : State) (rows : List Row) → state_or_start (Ok s) rows ≡ Ok (state_behind s rows)
unfolding state_behind
from_state s [] = refl
from_state s (row ∷ rows) = refl

pub behind_last : (start : Result State Stop) (rows : List Row) (last : ℕ) (row : Row) → slice_get rows last ≡ Some row → Ok row.state ≡ state_or_start start (take (suc last) rows)
unfolding state_behind
behind_last start [] last row here = absurd (cc)
behind_last start (r ∷ rows) zero row here =
    let same : r ≡ row = cc in
    ap (λ (x : Row). Ok x.state) (sym same)
behind_last start (r ∷ rows) (suc last) row here = behind_last (Ok r.state) rows last row here ∙ from_state r.state (take (suc last) rows)

-- where there is none, there are no rows and no starting state
pub no_state : (start : Result State Stop) (rows : List Row) (stop : Stop) → state_or_start start rows ≡ Err stop → start ≡ Err stop
no_state start [] stop is = is
no_state start (row ∷ rows) stop is = absurd (cc)

-- ---- going on

-- a row that a run begins with is that of its first event, and the rows behind it go on from its state
record IsTaken (event : Event) (currency : ℕ) (rest : State → Stream) (taken : Result (ℤ × State) Stop) (row : Row) (rows : List Row) : Type 0 where
  is : with_row row (rest row.state) ≡ taken_rows event currency rest taken
  left : take (length rows) (rest row.state).rows ≡ rows

is_taken : (event : Event) (currency : ℕ) (rest : State → Stream) (taken : Result (ℤ × State) Stop) (row : Row) (rows : List Row) →
    take (length (row ∷ rows)) (taken_rows event currency rest taken).rows ≡ row ∷ rows → IsTaken event currency rest taken row rows
is_taken event currency rest (Ok taken) row rows begins =
    let same : row_of event currency taken ≡ row = cc in
    let left : take (length rows) (rest taken.1).rows ≡ rows = cc in
    record {
      is = sym (ap (λ (r : Row). with_row r (rest r.state)) same);
      left = subst (λ (r : Row). take (length rows) (rest r.state).rows ≡ rows) same left;
    }
is_taken event currency rest (Err stop) row rows begins = absurd (cc)

-- a run goes on from these rows: there is an event for each, and the run is these rows and then those of the other events
pub record GoesOn (step : Step) (currency : Event → ℕ) (first : State) (events : List Event) (rows : List Row) : Type 0 where
  pub within : length rows ≤ length events
  pub is : with_rows rows (rows_from step currency (state_behind first rows) (drop (length rows) events)) ≡ rows_from step currency first events

no_events : (step : Step) (currency : Event → ℕ) (first : State) (row : Row) (rows : List Row) → take (length (row ∷ rows)) (rows_from step currency first []).rows ≡ row ∷ rows → ⊥
unfolding rows_from
no_events step currency first row rows begins = cc

go_on : (step : Step) (currency : Event → ℕ) (first : State) (events : List Event) (rows : List Row) → take (length rows) (rows_from step currency first events).rows ≡ rows →
    GoesOn step currency first events rows
unfolding state_behind
go_on step currency first events [] begins = record { within = omega arith; is = refl }
go_on step currency first [] (row ∷ rows) begins = absurd (no_events step currency first row rows begins)
go_on step currency first (event ∷ events) (row ∷ rows) begins =
    let rest = λ (next : State). rows_from step currency next events in
    let one = is_taken event (currency event) rest (step first event) row rows (subst (λ (run : Stream). take (length (row ∷ rows)) run.rows ≡ row ∷ rows) (rows_of_cons step currency first event events) begins) in
    let more = go_on step currency row.state events rows one.left in
    record {
      within = omega (arith, more.within);
      is = ap (with_row row) more.is ∙ one.is ∙ sym (rows_of_cons step currency first event events);
    }

-- ---- a state behind rows

take-none : (n : ℕ) (rows : List Row) → rows ≡ [] → take n rows ≡ []
take-none zero rows none = refl
take-none (suc n) [] none = refl
take-none (suc n) (row ∷ rows) none = absurd (cc)

-- it comes of a starting state
pub record IsBegun (start : Result State Stop) (rows : List Row) (state : State) : Type 0 where
  pub first : State
  pub starts : start ≡ Ok first
  pub behind : state ≡ state_behind first rows

begun_by : (start : Result State Stop) (rows : List Row) (state : State) → ((stop : Stop) → start ≡ Err stop → rows ≡ []) → state_or_start start rows ≡ Ok state → IsBegun start rows state
begun_by (Ok first) rows state none is =
    let same : Ok (state_behind first rows) ≡ Ok state = sym (from_state first rows) ∙ is in
    record { first = first; starts = refl; behind = cc }
begun_by (Err stop) [] state none is = absurd (cc)
begun_by (Err stop) (row ∷ rows) state none is =
    let no : row ∷ rows ≡ [] = none stop refl in
    absurd (cc)

-- ---- the run of a contract

-- what it begins with
abbrev start_given : Inputs → Result State Stop
start_given inputs = start_of inputs.terms inputs.plan

-- what is taken of events from a state on
abbrev rows_given : Inputs → State → List Event → Stream
rows_given inputs = rows_over inputs.terms inputs.plan inputs.entries inputs.children

module _ (inputs : Inputs) where
  by_rows : (first : State) (limit : Option Limit) (events : List Event) → start_given inputs ≡ Ok first → limit ≡ limit_given inputs → events ≡ events_given inputs
      → closed_by limit (rows_given inputs first (before_limit limit events)) ≡ run_given inputs
  by_rows = run_by_rows inputs.terms inputs.plan inputs.entries inputs.children

  -- where it begins with these rows, its events before the limit go on from them
  goes_on_before : (first : State) (limit : Option Limit) (events : List Event) (rows : List Row) → start_given inputs ≡ Ok first → limit ≡ limit_given inputs → events ≡ events_given inputs
      → BeginsWith (run_given inputs) rows → GoesOn (step_of inputs.terms inputs.plan inputs.entries inputs.children) (currency_of inputs.terms inputs.children) first (before_limit limit events) rows
  goes_on_before first limit events rows starts is are begins =
      let before = rows_given inputs first (before_limit limit events) in
      let same : before.rows ≡ (run_given inputs).rows = sym (closed_by_rows limit before) ∙ ap (λ (run : Stream). run.rows) (by_rows first limit events starts is are) in
      go_on (step_of inputs.terms inputs.plan inputs.entries inputs.children) (currency_of inputs.terms inputs.children) first (before_limit limit events) rows (ap (take (length rows)) same ∙ begins.first)

  -- and what is made from there is the run
  pub resumed_run : (first : State) (limit : Option Limit) (events : List Event) (rows : List Row) (count : ℕ) (kept : List Row) (state : State) (before left : List Event) (run : Stream)
      → start_given inputs ≡ Ok first → limit ≡ limit_given inputs → events ≡ events_given inputs → BeginsWith (run_given inputs) (take count rows)
      → count ≤ length rows → kept ≡ take count rows → state ≡ state_behind first (take count rows) → before ≡ before_limit limit events → left ≡ drop count before
      → run ≡ with_rows kept (rows_given inputs state left) → closed_by limit run ≡ run_given inputs
  resumed_run first limit events rows count kept state before left run starts is are begins within keeps behind ends leaves makes =
      let goes = goes_on_before first limit events (take count rows) starts is are begins in
      let over = rows_given inputs in
      let size : length (take count rows) ≡ count = length-take-le count rows within in
      let all : run ≡ over first (before_limit limit events) =
      makes ∙ ap (λ (k : List Row). with_rows k (over state left)) keeps
      ∙ ap (λ (s : State). with_rows (take count rows) (over s left)) behind
      ∙ ap (λ (es : List Event). with_rows (take count rows) (over (state_behind first (take count rows)) es)) (leaves ∙ ap (drop count) ends ∙ ap (λ (n : ℕ). drop n (before_limit limit events)) (sym size))
      ∙ goes.is in
      ap (closed_by limit) all ∙ by_rows first limit events starts is are

  -- there is an event for each of its first rows
  pub enough_events : (first : State) (limit : Option Limit) (events : List Event) (rows : List Row) (count : ℕ) (before : List Event) → start_given inputs ≡ Ok first → limit ≡ limit_given inputs
      → events ≡ events_given inputs → BeginsWith (run_given inputs) (take count rows) → count ≤ length rows → before ≡ before_limit limit events → count ≤ length before
  enough_events first limit events rows count before starts is are begins within ends =
      let goes = goes_on_before first limit events (take count rows) starts is are begins in
      let size : length (take count rows) ≡ count = length-take-le count rows within in
      subst (λ (es : List Event). count ≤ length es) (sym ends) (subst (λ (n : ℕ). n ≤ length (before_limit limit events)) size goes.within)

  -- without a starting state it begins with no rows
  no_first : (stop : Stop) (rows : List Row) → start_given inputs ≡ Err stop → BeginsWith (run_given inputs) rows → rows ≡ []
  no_first stop rows stops begins =
      let run = run_given inputs in
      let none : run.rows ≡ [] = ap (λ (r : Stream). r.rows) (sym (run_stopped inputs.terms inputs.plan inputs.entries inputs.children stop stops)) in
      sym begins.first ∙ take-none (length rows) run.rows none

  pub none_first : (stop : Stop) (rows : List Row) (count : ℕ) → start_given inputs ≡ Err stop → BeginsWith (run_given inputs) (take count rows) → count ≤ length rows → count ≡ 0
  none_first stop rows count stops begins within = sym (length-take-le count rows within) ∙ ap length (no_first stop (take count rows) stops begins)

  -- so a state behind its first rows comes of a starting state
  pub begun : (rows : List Row) (state : State) → BeginsWith (run_given inputs) rows → state_or_start (start_given inputs) rows ≡ Ok state → IsBegun (start_given inputs) rows state
  begun rows state begins is = begun_by (start_given inputs) rows state (λ stop stops. no_first stop rows stops begins) is

  -- ---- a run that needs no more

  no_more_by : (run : Stream) (count : ℕ) (limit : Option Limit) (events : List Event) (start : Result State Stop) → start_given inputs ≡ start → limit ≡ limit_given inputs → events ≡ events_given inputs
      → BeginsWith (run_given inputs) (take count run.rows) → NeedsNoMore run count limit events → run ≡ run_given inputs
  unfolding rows_from
  no_more_by run count limit events (Ok first) starts is are begins ended =
      let left_by = λ (state : State) (rows : List Row) (l : Option Limit) (left : List Event). closed_by l (with_rows rows (rows_given inputs state left)) in
      let rows = take count run.rows in
      let all : rows ≡ run.rows = take_all count run.rows (omega (arith, ended.all)) in
      let state = state_behind first rows in
      let none : drop count (before_limit None events) ≡ [] = drop_all count events (omega (arith, ended.each)) in
      let same : left_by state rows limit (drop count (before_limit limit events)) ≡ run_given inputs =
      resumed_run first limit events run.rows count rows state (before_limit limit events) (drop count (before_limit limit events)) _ starts is are begins (omega (arith, ended.all)) refl refl refl refl refl in
      let alone : run ≡ left_by state rows None [] =
      ap (λ (c : Close). record { rows = run.rows; close = c }) ended.ended
      ∙ ap (λ (r : List Row). record { rows = r; close = End }) (sym (append-nil run.rows) ∙ ap (λ (r : List Row). r ++ []) (sym all)) in
      alone ∙ ap (left_by state rows None) (sym none) ∙ ap (λ (l : Option Limit). left_by state rows l (drop count (before_limit l events))) (sym ended.unstopped) ∙ same
  no_more_by run count limit events (Err stop) starts is are begins ended =
      let zero_of : count ≡ 0 = none_first stop run.rows count starts begins (omega (arith, ended.all)) in
      absurd (omega (arith, ended.some, zero_of))

  -- where the run wanted begins with all of its rows, it is the run wanted
  pub no_more_is : (run : Stream) (count : ℕ) (limit : Option Limit) (events : List Event) → limit ≡ limit_given inputs → events ≡ events_given inputs → BeginsWith (run_given inputs) (take count run.rows)
      → NeedsNoMore run count limit events → run ≡ run_given inputs
  no_more_is run count limit events is are begins ended = no_more_by run count limit events (start_given inputs) refl is are begins ended
