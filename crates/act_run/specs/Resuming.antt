-- A run that goes on from rows that are kept of another. This profile's own.
use Rattle.std.specs.Prelude.{◌≡◌, ◌<◌, ◌≤ℤ◌, ℕ, ℤ, List, [], ◌∷◌, ◌++◌, length, max, min, take, Option, Some, None, Result, Ok}
use Rattle.std.specs.List.{filter}
use Rattle.act_date.specs.Civil.{last_day}
use Rattle.act_model.specs.Run.{Stream}
use Rattle.act_model.specs.declared.event.Event.{Event}
use Rattle.act_model.specs.declared.observed.Obs.{Obs}
use Rattle.act_model.specs.declared.run.Close.TheVariants.{End}
use Rattle.act_model.specs.declared.run.Row.{Row}
use Rattle.act_model.specs.declared.run.Stop.{Stop}
use Rattle.act_model.specs.declared.state.State.{State}
use Rattle.act_profile.specs.Kept.{KeptRows, kept_of}
use Rattle.act_profile.specs.Reads.{codes_read, contracts_read, cut_of, touches}
use Rattle.act_profile.specs.Run.{Contracts, deepest, run_of}
use Rattle.act_run.specs.declared.limit.Limit.{Limit}
use Rattle.act_causality.specs.Causality.{AgreeBefore, IsLinked, IsWithinDepth}

-- ---- going on

-- rows before those of a run
abbrev pub with_rows : List Row → Stream → Stream
with_rows rows run = record { rows = rows ++ run.rows; close = run.close }

-- the state behind rows: that of the last, and of none the starting state
unfoldable pub state_behind : State → List Row → State
state_behind first [] = first
state_behind first (row ∷ rows) = state_behind row.state rows

-- the same of a run's first rows, where of none it is what the contract begins with
abbrev pub state_or_start : Result State Stop → List Row → Result State Stop
state_or_start start [] = start
state_or_start start (row ∷ rows) = Ok (state_behind row.state rows)

-- these rows are the first of a run
pub record BeginsWith (run : Stream) (rows : List Row) : Type 0 where
  pub first : take (length rows) run.rows ≡ rows

-- a run has rows, all of which are kept, so many, one for each of the events that count, and ended behind them, and nothing stops it
pub record NeedsNoMore (run : Stream) (count : ℕ) (limit : Option Limit) (events : List Event) : Type 0 where
  pub unstopped : limit ≡ None
  pub ended : run.close ≡ End
  pub some : 0 < count
  pub each : count ≡ length events
  pub all : count ≡ length run.rows

-- what is kept of a run: its first rows, so many, or the whole of it
abbrev pub kept_by : Stream → Option ℕ → KeptRows
kept_by run None = record { rows = run.rows; close = Some run.close }
kept_by run (Some count) = record { rows = take count run.rows; close = None }

-- ---- what may be kept

-- two books differ, as to a contract's cone, only in entries dated from the cut on, and in none where there is no cut
abbrev pub DifferFrom : Option ℤ → Contracts → ℕ → List Obs → List Obs → Type 0
DifferFrom None contracts c one other =
    filter (touches (codes_read contracts c) (contracts_read contracts c)) one ≡ filter (touches (codes_read contracts c) (contracts_read contracts c)) other
DifferFrom (Some cut) contracts c one other = (cut ≤ℤ last_day) × AgreeBefore cut (codes_read contracts c) (contracts_read contracts c) one other

-- then what is kept of a contract's run over the one is kept of its run over the other
abbrev pub RunsAreKept : Type 0
RunsAreKept = (contracts : Contracts) (c : ℕ) (cut : Option ℤ) (one other : List Obs) →
    IsLinked contracts → IsWithinDepth deepest contracts c → DifferFrom cut contracts c one other →
    kept_of (run_of contracts one c) cut ≡ kept_of (run_of contracts other c) cut

-- so it is of its runs at two versions of a book under the cut from the smaller to the greater of them, where that is a day that can be
abbrev pub RunsAreKeptBetween : Type 0
RunsAreKeptBetween = (contracts : Contracts) (c : ℕ) (entries : List Obs) (u v : ℕ) →
    IsLinked contracts → IsWithinDepth deepest contracts c → ((day : ℤ) → cut_of contracts c entries (min u v) (max u v) ≡ Some day → day ≤ℤ last_day) →
    kept_of (run_of contracts (take u entries) c) (cut_of contracts c entries (min u v) (max u v)) ≡ kept_of (run_of contracts (take v entries) c) (cut_of contracts c entries (min u v) (max u v))
