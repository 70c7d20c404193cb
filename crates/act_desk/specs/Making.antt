-- What a caller makes of the lines of its script, and what a pass watches. This profile's own.
use Rattle.std.specs.Prelude.{◌≡◌, ℕ, suc, ◌+◌, ◌≤◌, not, Bool, true, false, List, [], ◌∷◌, ◌++◌, length, map, take, Ok, Some}
use Rattle.std.specs.List.{All, count_by, filter_map, list_any, slice_get}
use mathlib.Core.List.{IsPrefix}
use Rattle.act_model.specs.Answer.{Reply}
use Rattle.act_model.specs.Journal.{appends_entry, is_append, is_known}
use Rattle.act_model.specs.Names.{NameLists}
use Rattle.act_model.specs.declared.asks.Asking.{Asking}
use Rattle.act_model.specs.declared.journal.Item.{Item}
use Rattle.act_model.specs.declared.journal.Line.{Line}
use Rattle.act_model.specs.declared.journal.Step.{Step}
use Rattle.act_model.specs.declared.journal.Step.TheVariants.{Append, Ask}
use Rattle.act_profile.specs.Answers.{answer_to}
use Rattle.act_turn.specs.Standing.{IsFree, Standing, own_entries}
use Rattle.act_board.specs.Entries.{author_of, list_of}
use Rattle.act_history.specs.History.{History, IsPresent, appended_by, asks_by, collected_by, entries_of, has_left, is_collect_by, is_given_up, is_leave_by, item_of, version_of}
use Rattle.act_history.specs.Legal.{HasEnded}
use Rattle.act_model.specs.Limits.{most_asks}
use Rattle.act_board.specs.declared.history.Entry.{Entry}
use Rattle.act_board.specs.declared.history.Entry.TheVariants as entry
use Rattle.act_history.specs.declared.mark.Mark.{Mark}
use Rattle.act_history.specs.declared.mark.Mark.TheVariants as mark
use Rattle.act_board.specs.declared.outcome.Collected.TheVariants.{Ready}
use Rattle.act_desk.specs.Calls.{CollectsOrNot}
use Rattle.act_desk.specs.Desk.{Desk}
use Rattle.act_desk.specs.Step.{HasSeen, IsStep}

-- ---- lines

-- a line that appends an entry, and one that asks
abbrev pub appends : Line → Bool
appends line = is_append line.step

abbrev pub asks : Line → Bool
asks line = not (is_append line.step)

-- what is asked for is there
abbrev pub asks_known : NameLists → Step → Bool
asks_known names (Append entry) = true
asks_known names (Ask asked) = is_known names (Ask asked)

-- what a line adds to the journal
abbrev pub item_by : ℕ → Line → Item
item_by i line = record { caller = i; step = line.step }

-- the caller's quota has room for so many entries more
abbrev pub HasRoom : History → ℕ → ℕ → Type 0
HasRoom history i count =
    (place : ℕ) × (quota : ℕ) × (i ≡ suc place) × (slice_get history.quotas place ≡ Some quota) × (appended_by history i + count ≤ quota)

-- a caller may make the steps of these lines: it is there, all its asks were collected, its quota has room for what they append, it may
-- make as many asks more, what they append are entries, and what they ask for is there
pub record MayMake (history : History) (i : ℕ) (lines : List Line) : Type 0 where
  pub present : IsPresent history i
  pub collected : collected_by history i ≡ length (asks_by history i)
  pub room : HasRoom history i (count_by appends lines)
  pub few : length (asks_by history i) + count_by asks lines ≤ most_asks
  pub entries : All (λ (line : Line). appends_entry line.step ≡ true) lines
  pub known : All (λ (line : Line). asks_known history.portfolio.names line.step ≡ true) lines

-- nothing more will come: nobody has given up, all callers have left, and nothing that is wanted lacks a result
pub record IsOver (history : History) : Type 0 where
  pub going : is_given_up history ≡ false
  pub ended : HasEnded history

-- somebody has given up, and a caller has left
pub record HasGivenUp (history : History) (i : ℕ) : Type 0 where
  pub given_up : is_given_up history ≡ true
  pub left : has_left history i ≡ true

-- ---- passes

-- what a caller's pass is asked for: it is free at the desk, it is the caller's, and what it has seen is of the desk's portfolio
pub record IsAt (desk : Desk) (i : ℕ) (pass : Standing Entry) : Type 0 where
  pub free : IsFree desk.id pass
  pub own : pass.number ≡ i
  pub portfolio : HasSeen pass (λ history. history.portfolio ≡ desk.portfolio)

-- a pass has seen what others did, and has added no entry of its own: what it has claimed, handed in or given up is nobody's
pub record HasWatched (old new : Standing Entry) : Type 0 where
  pub turn : new.turn ≡ old.turn
  pub number : new.number ≡ old.number
  pub holds : new.holds ≡ old.holds
  pub begins : IsPrefix old.seen new.seen
  pub own : own_entries author_of new ≡ own_entries author_of old
  pub history : History
  pub seen : new.seen ≡ list_of history

-- it has watched, and then made a call
pub record HasCalled (old : Standing Entry) (Call : History → History → Type 0) (new : Standing Entry) : Type 0 where
  pub between : Standing Entry
  pub watched : HasWatched old between
  pub step : IsStep between Call new

-- it has watched, and then collected an answer of the caller, of which what is kept stands behind what it had
abbrev pub HasCollected : {A : Type 0} → (Reply → A) → Standing Entry → ℕ → List A → Standing Entry → List A → Type 0
HasCollected kept_of old i had new has = (answer : Reply) × HasCalled old (CollectsOrNot i (Ok (Ready answer))) new × (has ≡ had ++ kept_of answer ∷ [])

-- What a caller has made of the lines of its script. Its own entries go on with the steps of the lines in their order, with a Collect
-- for each ask of them, and with a Leave at the end. It has what is kept of the answer to each of these asks, in their order: each
-- contract asked, evaluated from inception over as many entries of the history that the pass has then seen as the ask's version says.
pub record HasMade {A : Type 0} (kept_of : Reply → A) (old : Standing Entry) (i : ℕ) (lines : List Line) (answers : List A) (new : Standing Entry) : Type 0 where
  pub begins : IsPrefix old.seen new.seen
  pub marks : List Mark
  pub own : own_entries author_of new ≡ own_entries author_of old ++ map entry.Mark (marks ++ mark.Leave i ∷ [])
  pub steps : filter_map item_of marks ≡ map (item_by i) lines
  pub collects : count_by (is_collect_by i) marks ≡ count_by asks lines
  pub stays : list_any (is_leave_by i) marks ≡ false
  pub before : History
  pub had : old.seen ≡ list_of before
  pub history : History
  pub seen : new.seen ≡ list_of history
  pub made : List Asking
  pub count : length made ≡ count_by asks lines
  pub asked : asks_by history i ≡ asks_by before i ++ made
  pub versions : All (λ (ask : Asking). ask.version ≤ version_of history) made
  pub told : answers ≡ map kept_of (map (answer_to history.portfolio.contracts history.portfolio.names (entries_of history)) made)

-- What a caller has made where memory ran out: its own entries go on with the steps of some of its first lines, in their order, beside answers
-- that it has collected, and with a Leave at the end.
pub record HasStopped (old : Standing Entry) (i : ℕ) (lines : List Line) (new : Standing Entry) : Type 0 where
  pub done : ℕ
  pub marks : List Mark
  pub own : own_entries author_of new ≡ own_entries author_of old ++ map entry.Mark (marks ++ mark.Leave i ∷ [])
  pub steps : filter_map item_of marks ≡ map (item_by i) (take done lines)
  pub stays : list_any (is_leave_by i) marks ≡ false

-- ---- on the way

-- what is so of the history amid the lines of a caller: some were made, and some of their asks were answered, of which something is kept
pub record IsAmid {A : Type 0} (kept_of : Reply → A) (start : History) (i : ℕ) (done : List Line) (answers : List A) (now : History) : Type 0 where
  pub portfolio : now.portfolio ≡ start.portfolio
  pub quotas : now.quotas ≡ start.quotas
  pub present : IsPresent now i
  pub appended : appended_by now i ≡ appended_by start i + count_by appends done
  pub made : List Asking
  pub asked : asks_by now i ≡ asks_by start i ++ made
  pub count : length made ≡ count_by asks done
  pub versions : All (λ (ask : Asking). ask.version ≤ version_of now) made
  pub collected : collected_by now i ≡ collected_by start i + length answers
  pub fewer : length answers ≤ length made
  pub told : answers ≡ map kept_of (map (answer_to start.portfolio.contracts start.portfolio.names (entries_of now)) (take (length answers) made))

-- and what is so of its pass
pub record IsMaking {A : Type 0} (kept_of : Reply → A) (old : Standing Entry) (i : ℕ) (done : List Line) (answers : List A) (new : Standing Entry) : Type 0 where
  pub turn : new.turn ≡ old.turn
  pub number : new.number ≡ i
  pub holds : new.holds ≡ old.holds
  pub begins : IsPrefix old.seen new.seen
  pub start : History
  pub had : old.seen ≡ list_of start
  pub now : History
  pub seen : new.seen ≡ list_of now
  pub amid : IsAmid kept_of start i done answers now
  pub marks : List Mark
  pub own : own_entries author_of new ≡ own_entries author_of old ++ map entry.Mark marks
  pub steps : filter_map item_of marks ≡ map (item_by i) done
  pub collects : count_by (is_collect_by i) marks ≡ length answers
  pub stays : list_any (is_leave_by i) marks ≡ false

-- a caller on its way through its lines is so still, whatever it has made of them, with other answers
abbrev pub Brings : {A : Type 0} → (Reply → A) → ℕ → Standing Entry → List A → Standing Entry → List A → Type 0
Brings kept_of i old had new has =
    (first : Standing Entry) (lines done : List Line) → HasSeen first (λ history. MayMake history i lines) → IsMaking kept_of first i done had old → IsMaking kept_of first i done has new

-- a caller is on its way through lines
abbrev pub IsOnWay : {A : Type 0} → (Reply → A) → Desk → ℕ → Standing Entry → List A → Type 0
IsOnWay kept_of desk i pass answers =
    (first : Standing Entry) × (lines : List Line) × (done : List Line) × IsAt desk i first × HasSeen first (λ history. MayMake history i lines) × IsMaking kept_of first i done answers pass
