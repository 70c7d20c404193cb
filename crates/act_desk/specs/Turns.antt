-- Several calls of a board in one turn. This profile's own.
use Rattle.std.specs.Prelude.{◌≡◌, ℕ, ◌+◌, ◌<◌, ◌≤◌, List, [], ◌∷◌, ◌++◌, length, map, take, Some, None, Result, Ok, Err}
use Rattle.std.specs.List.{slice_get}
use mathlib.Core.List.{IsPrefix}
use Rattle.act_num.specs.declared.NoMemory.{NoMemory}
use Rattle.act_model.specs.declared.journal.Line.{Line}
use Rattle.act_model.specs.declared.journal.Step.{Step}
use Rattle.act_model.specs.declared.journal.Step.TheVariants as step
use Rattle.act_turn.specs.Journal.{entries_of}
use Rattle.act_turn.specs.Standing.{Standing, own_entries}
use Rattle.act_board.specs.Calls.{Claims}
use Rattle.act_board.specs.Entries.{author_of, list_of}
use Rattle.act_board.specs.declared.history.Entry.{Entry}
use Rattle.act_board.specs.declared.history.Entry.TheVariants as entry
use Rattle.act_board.specs.declared.outcome.Claim.TheVariants as claim
use Rattle.act_history.specs.History.{History, and_then}
use Rattle.act_history.specs.declared.mark.Mark.{Mark}
use Rattle.act_history.specs.declared.mark.Mark.TheVariants as mark
use Rattle.act_keeping.specs.Work.{Work}
use Rattle.act_desk.specs.Calls.{Appends, Asks, ClaimsOrNot, Finishes}
use Rattle.act_desk.specs.declared.outcome.Claimed.{Claimed}
use Rattle.act_desk.specs.declared.outcome.Claimed.TheVariants as claimed
use Rattle.act_desk.specs.declared.outcome.Made.{Made}
use Rattle.act_desk.specs.declared.outcome.StepFault.{StepFault}
use Rattle.act_desk.specs.declared.outcome.StepFault.TheVariants as fault

-- ---- calls, one after another

-- a call for each of a list, the first first
abbrev pub InOrder : {X : Type 0} → (X → History → History → Type 0) → List X → History → History → Type 0
InOrder Call [] before after = after ≡ before
InOrder Call (x ∷ xs) before after = (between : History) × Call x before between × InOrder Call xs between after

-- a call for each of a list, the last first
abbrev pub FromLast : {X : Type 0} → (X → History → History → Type 0) → List X → History → History → Type 0
FromLast Call [] before after = after ≡ before
FromLast Call (x ∷ xs) before after = (between : History) × FromLast Call xs before between × Call x between after

-- the history, with marks more
abbrev pub and_all : History → List Mark → History
and_all history marks = record { portfolio = history.portfolio; quotas = history.quotas; marks = history.marks ++ marks }

-- Calls are steps of one history in one turn. As the pass's turn comes, it finds a history that begins with what it had seen. The calls
-- act on that history, and add marks to it; `Calls` says of the two histories what is answered. The pass has had one turn in this, and
-- has seen what it found with these marks. Its own entries are its old ones, and those of the marks that are of its number.
pub record IsTurn (old : Standing Entry) (Calls : History → History → Type 0) (new : Standing Entry) : Type 0 where
  pub found : History
  pub marks : List Mark
  pub begins : IsPrefix old.seen (list_of found)
  pub calls : Calls found (and_all found marks)
  pub pass : new ≡ record old { seen = list_of found ++ map entry.Mark marks; came = list_of found; turns = old.turns + 1 }
  pub own : own_entries author_of new ≡ own_entries author_of old ++ entries_of author_of old.number (map entry.Mark marks)

-- ---- a caller's steps

-- the mark of a caller's step
abbrev pub mark_of : ℕ → Step → Mark
mark_of i (step.Append entry) = mark.Append i entry
mark_of i (step.Ask asked) = mark.Ask i asked

-- the step of a line is made
abbrev pub MakesLine : ℕ → Line → History → History → Type 0
MakesLine i line before after = after ≡ and_then before (mark_of i line.step)

-- a step is refused, as the call for it alone refuses it
abbrev pub Refuses : ℕ → Step → StepFault → History → Type 0
Refuses i (step.Append entry) (fault.Append why) history = Appends i entry (Err why) history history
Refuses i (step.Append entry) (fault.Ask why) history = ⊥
Refuses i (step.Ask asked) (fault.Append why) history = ⊥
Refuses i (step.Ask asked) (fault.Ask why) history = Asks i asked (Err why) history history

-- the steps of the first lines are made, in their order, and the next one, if there is one, is refused
pub record Makes (i : ℕ) (lines : List Line) (made : Made) (before after : History) : Type 0 where
  pub within : made.steps ≤ length lines
  pub steps : InOrder (MakesLine i) (take made.steps lines) before after
  pub whole : made.fault ≡ None → made.steps ≡ length lines
  pub refused : (why : StepFault) → made.fault ≡ Some why → (line : Line) × (slice_get lines made.steps ≡ Some line) × Refuses i line.step why after

-- ---- evaluations

-- an evaluation is handed out
abbrev pub HandsOut : Work → History → History → Type 0
HandsOut work before after = Claims before (claim.Task work) after

-- evaluations are handed out, one or several, or none is, and why
abbrev pub ClaimsSome : List Work → Result Claimed NoMemory → History → History → Type 0
ClaimsSome works (Ok claimed.Tasks) before after = (0 < length works) × InOrder HandsOut works before after
ClaimsSome works (Ok claimed.Idle) before after = (works ≡ []) × Claims before claim.Idle after
ClaimsSome works (Ok claimed.Ended) before after = (works ≡ []) × Claims before claim.Ended after
ClaimsSome works (Ok claimed.GivenUp) before after = (works ≡ []) × Claims before claim.GivenUp after
ClaimsSome works (Err NoMemory) before after = (works ≡ []) × ClaimsOrNot (Err NoMemory) before after

-- work comes back, and then others are handed out
abbrev pub FinishesAndClaims : List Work → List Work → Result Claimed NoMemory → History → History → Type 0
FinishesAndClaims dones works answer before after = (between : History) × FromLast Finishes dones before between × ClaimsSome works answer between after
