-- A caller that makes calls of a desk.
use Rattle.std.specs.Prelude.{◌≡◌, ℕ, ◌+◌, ◌≤◌, List, length, Result, Ok, Err}
use Rattle.act_num.specs.declared.NoMemory.{NoMemory}
use Rattle.act_turn.specs.Standing.{IsFree, Standing}
use Rattle.act_accepted.specs.Accepted.{Accepted}
use Rattle.act_history.specs.History.{History, IsPresent, asks_by, collected_by}
use Rattle.act_board.specs.Entries.{list_of}
use Rattle.act_board.specs.declared.history.Entry.{Entry}
use Rattle.act_board.specs.declared.outcome.AskFault.{AskFault}
use Rattle.act_board.specs.declared.outcome.Collected.{Collected}
use Rattle.act_board.specs.declared.outcome.Collected.TheVariants as collected
use Rattle.act_desk.specs.Desk.{Desk}
use Rattle.act_desk.specs.Step.{HasSeen, opening}

-- a caller of a portfolio's board is there, and has so many asks open
abbrev pub IsThere : Accepted → ℕ → ℕ → History → Type 0
IsThere of k count history = (history.portfolio ≡ of) × IsPresent history k × (collected_by history k + count ≡ length (asks_by history k))

-- the pass of that number is one of the desk and holds nothing, and what it has seen is as its caller has it
pub record Plays (desk : Desk) (pass : Standing Entry) (number count : ℕ) : Type 0 where
  pub free : IsFree desk.id pass
  pub number_is : pass.number ≡ number
  pub seen : HasSeen pass (IsThere desk.portfolio number count)

-- a pass of a desk, before its first turn: that of a number, of which the first are callers'
pub record IsFirst (desk : Desk) (callers number : ℕ) (pass : Standing Entry) : Type 0 where
  pub free : IsFree desk.id pass
  pub number_is : pass.number ≡ number
  pub from : 1 ≤ number
  pub seen : (quotas : List ℕ) × (length quotas ≡ callers) × (pass.seen ≡ list_of (opening desk.portfolio quotas))

-- how many asks a caller has made by what it was answered
abbrev pub asked_of : Result ℕ AskFault → ℕ
asked_of (Ok number) = 1
asked_of (Err fault) = 0

-- how many answers a caller has had by what it collected
abbrev pub had_of : Result Collected NoMemory → ℕ
had_of (Ok (collected.Ready reply)) = 1
had_of (Ok collected.NotYet) = 0
had_of (Ok collected.GivenUp) = 0
had_of (Err fault) = 0
