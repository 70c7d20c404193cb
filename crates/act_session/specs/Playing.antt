-- What a session asks of scripts, and what it ends with. This profile's own.
use Rattle.std.specs.Prelude.{◌≡◌, ℕ, ◌+◌, ◌≤◌, true, List, length, map, IfSome, Option, Some, Vec, sum}
use Rattle.std.specs.List.{All, count_by, range_with_len, slice_get}
use Rattle.std.specs.declared.alloc.Global.{Global}
use Rattle.act_model.specs.Answer.{Reply}
use Rattle.act_model.specs.Journal.{appends_entry}
use Rattle.act_model.specs.Limits.{most_asks, most_callers, most_entries}
use Rattle.act_model.specs.declared.journal.Line.{Line}
use Rattle.act_profile.specs.Answers.{answer_to}
use Rattle.act_portfolio.specs.Reading.{Accepted}
use Rattle.act_turn.specs.Standing.{IsFree, Standing, first_standing}
use Rattle.act_board.specs.Entries.{list_of}
use Rattle.act_history.specs.History.{History, asks_by, collected_by, entries_of, has_left, journal_of}
use Rattle.act_history.specs.Legal.{IsSound}
use Rattle.act_board.specs.declared.history.Entry.{Entry}
use Rattle.act_desk.specs.Desk.{Desk}
use Rattle.act_desk.specs.Making.{HasMade, appends, asks, asks_known}
use Rattle.act_desk.specs.Step.{opening}
use Rattle.act_session.specs.Interleaving.{IsInterleaving}

-- the lines of each script
abbrev pub lines_of : List (Vec Line Global) → List (List Line)
lines_of scripts = map (λ script. script.items) scripts

-- the answers to the asks of a caller of a board, in their order: each contract asked, evaluated from inception over the entries before
-- the ask
abbrev pub answers_by : History → ℕ → List Reply
answers_by board i = map (answer_to board.portfolio.contracts board.portfolio.names (entries_of board)) (asks_by board i)

-- for each script a list has what is kept of the answers to the asks of its caller
abbrev pub AreOwn : {A : Type 0} → (Reply → A) → History → List (List Line) → List (Vec A Global) → Type 0
AreOwn kept_of board scripts answers = map (λ replies. replies.items) answers ≡ map (λ i. map kept_of (answers_by board i)) (range_with_len 1 (length scripts))

-- how many entries each script appends
abbrev pub quotas_of : List (List Line) → List ℕ
quotas_of scripts = map (λ (lines : List Line). count_by appends lines) scripts

-- what is asked of a script: it makes no more asks than a caller may, what it appends are entries, and what it asks for is there
pub record IsPlayable (of : Accepted) (lines : List Line) : Type 0 where
  pub few : count_by asks lines ≤ most_asks
  pub entries : All (λ (line : Line). appends_entry line.step ≡ true) lines
  pub known : All (λ (line : Line). asks_known of.names line.step ≡ true) lines

-- and of all scripts: there are some, no more than callers may be, and they append no more entries than a book may have
pub record ArePlayable (of : Accepted) (scripts : List (List Line)) : Type 0 where
  pub some : 1 ≤ length scripts
  pub few : length scripts ≤ most_callers
  pub fits : sum (quotas_of scripts) ≤ most_entries
  pub each : All (IsPlayable of) scripts

-- What a board is, once the scripts of its callers were played: each mark was legal by what stood before it; it opens with the portfolio
-- and, as quotas, with the numbers of entries of the scripts; its journal is an interleaving of the scripts; each caller has collected as
-- often as it has asked, and has left.
pub record IsPlayed (of : Accepted) (scripts : List (List Line)) (board : History) : Type 0 where
  pub sound : IsSound board
  pub portfolio : board.portfolio ≡ of
  pub quotas : board.quotas ≡ quotas_of scripts
  pub interleaved : IsInterleaving scripts (journal_of board)
  pub collected : (i : ℕ) → 1 ≤ i → i ≤ length scripts → collected_by board i ≡ length (asks_by board i)
  pub left : (i : ℕ) → 1 ≤ i → i ≤ length scripts → has_left board i ≡ true

-- the pass of a place, before its first turn
abbrev pub first_pass : Desk → List (List Line) → ℕ → Standing Entry
first_pass desk scripts place = first_standing desk.id (place + 1) (list_of (opening desk.portfolio (quotas_of scripts)))

-- What an actor has done at a place. Its pass holds nothing, and a caller that has answers, or what it keeps of them, has made the lines of
-- its script.
pub record HasPlayed {A : Type 0} (kept_of : Reply → A) (desk : Desk) (scripts : List (List Line)) (place : ℕ) (pass : Standing Entry) (answers : Option (Vec A Global)) : Type 0 where
  pub free : IsFree desk.id pass
  pub number : pass.number ≡ place + 1
  pub made : IfSome answers (λ replies. (lines : List Line) → slice_get scripts place ≡ Some lines
      → HasMade kept_of (first_pass desk scripts place) (place + 1) lines replies.items pass)
