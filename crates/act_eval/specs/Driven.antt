-- A board that one caller has to itself, and what one thread makes of it. This profile's own.
use Rattle.std.specs.Prelude.{◌≡◌, ◌⊎◌, ℕ, ◌+◌, ◌<◌, ◌≤◌, ◌&&◌, not, cond, Bool, true, false, List, [], ◌∷◌, ◌++◌, length, Some}
use Rattle.std.specs.List.{Contains, range_with_len, sum_by}
use Rattle.act_history.specs.History.{History, and_then, appended_by, asks_by, collected_by, entries_of, has_left, has_result, is_given_up, journal_of, open_asks, version_of, was_claimed}
use Rattle.act_keeping.specs.Latest.{cached_version}
use Rattle.act_history.specs.Legal.{IsClaimable, NoneIsClaimable}
use Rattle.act_history.specs.declared.mark.Mark.TheVariants as mark
use Rattle.act_model.specs.Answer.{Reply}
use Rattle.act_model.specs.Journal.{book_of}
use Rattle.act_model.specs.declared.asks.Asking.{Asking}
use Rattle.act_model.specs.declared.journal.Asked.{Asked}
use Rattle.act_model.specs.declared.journal.Item.{Item}
use Rattle.act_model.specs.declared.journal.Step.TheVariants as step
use Rattle.act_portfolio.specs.Reading.{Accepted}
use Rattle.act_profile.specs.Answers.{answer_to}
use Rattle.act_text.specs.Kept.{AreWrittenWith}
use Rattle.act_transcript.specs.KnownLines.{AreKnownAt}
use Rattle.act_transcript.specs.declared.blocks.Blocks.{Blocks}
use Rattle.act_eval.specs.Work.{fresh_rows, last_version, reaches}

-- how many rows the evaluation of a contract at a version computes, which goes on from the one at its cached version
abbrev pub rows_left : History → ℕ → ℕ → ℕ
rows_left history c v = fresh_rows history.portfolio.contracts (entries_of history) c (cached_version history c) v

-- a contract was evaluated over all entries since then
abbrev pub made_since : History → History → ℕ → Bool
made_since before after c = has_result after c (version_of before) && not (has_result before c (version_of before))

-- how many rows those evaluations computed
abbrev pub rows_since : History → History → ℕ
rows_since before after =
    sum_by (λ c. cond (made_since before after c) (rows_left before c (version_of before)) 0) (range_with_len 0 (length before.portfolio.contracts.terms))

-- the cached version of these, and of no others, went up
abbrev pub IsLater : History → History → Type 0
IsLater before after = (c : ℕ) → cached_version after c ≡ cond (made_since before after c) (Some (version_of before)) (cached_version before c)

-- a contract is reached by an ask
abbrev pub is_reached_by : History → Asking → ℕ → Bool
is_reached_by history ask c = reaches history.portfolio ask c

-- an ask of the caller asks for a contract at a version, or reaches it
pub record IsAskedFor (history : History) (c v : ℕ) : Type 0 where
  pub ask : Asking
  pub made : Contains (asks_by history 1) ask
  pub contract : c < length history.portfolio.contracts.terms
  pub version : ask.version ≡ v
  pub reached : is_reached_by history ask c ≡ true

-- all that an ask reaches has results
abbrev pub IsAnswered : History → Asking → Type 0
IsAnswered history ask = (c : ℕ) → c < length history.portfolio.contracts.terms → is_reached_by history ask c ≡ true → has_result history c ask.version ≡ true

-- the cached version of each contract is that of the last ask that reaches it
abbrev pub AreLatest : Accepted → History → Type 0
AreLatest portfolio history = (c : ℕ) → c < length portfolio.contracts.terms → cached_version history c ≡ last_version portfolio (asks_by history 1) c

-- One caller has the board, and is there. What was claimed has come back. Each result is of a contract that an ask asks for or reaches; each
-- ask has all its results, but for those that are open, which are over all entries. No result is over more, and where there
-- is one over all entries this is the cached version
pub record IsQuiet (of : Accepted) (history : History) : Type 0 where
  pub portfolio : history.portfolio ≡ of
  pub alone : length history.quotas ≡ 1
  pub going : is_given_up history ≡ false
  pub here : has_left history 1 ≡ false
  pub collected : collected_by history 1 ≤ length (asks_by history 1)
  pub back : (c v : ℕ) → was_claimed history c v ≡ true → has_result history c v ≡ true
  pub asked : (c v : ℕ) → has_result history c v ≡ true → IsAskedFor history c v
  pub answered : (ask : Asking) → Contains (asks_by history 1) ask → Contains (open_asks history 1) ask ⊎ IsAnswered history ask
  pub now : (ask : Asking) → Contains (open_asks history 1) ask → ask.version ≡ version_of history
  pub past : (c v : ℕ) → has_result history c v ≡ true → v ≤ version_of history
  pub newest : (c : ℕ) → has_result history c (version_of history) ≡ true → cached_version history c ≡ Some (version_of history)

-- an evaluation was made, or none may be
abbrev pub GoesOn : Bool → History → History → ℕ → ℕ → Type 0
GoesOn true before after ticks now =
    (c : ℕ) × (v : ℕ) × IsClaimable before c v × (after ≡ and_then (and_then before (mark.Claim c v)) (mark.Finish c v))
    × (now ≡ ticks + rows_left before c v)
GoesOn false before after ticks now = NoneIsClaimable before × (after ≡ before) × (now ≡ ticks)

-- nothing but evaluations was made
pub record OnlyWorks (before after : History) : Type 0 where
  pub portfolio : after.portfolio ≡ before.portfolio
  pub quotas : after.quotas ≡ before.quotas
  pub items : journal_of after ≡ journal_of before
  pub appended : appended_by after 1 ≡ appended_by before 1
  pub collected : collected_by after 1 ≡ collected_by before 1

-- the next ask of the caller
abbrev pub next_ask : History → Asked → Asking
next_ask history asked = record { caller = 1; number = 1 + length (asks_by history 1); version = version_of history; asked = asked }

-- the answer to it
abbrev pub next_answer : Accepted → History → Asked → Reply
next_answer portfolio history asked = answer_to portfolio.contracts portfolio.names (entries_of history) (next_ask history asked)

-- an ask was added, and nothing was appended
pub record Adds (asked : Asked) (before after : History) : Type 0 where
  pub quotas : after.quotas ≡ before.quotas
  pub items : journal_of after ≡ journal_of before ++ record { caller = 1; step = step.Ask asked } ∷ []
  pub appended : appended_by after 1 ≡ appended_by before 1
  pub asks : asks_by after 1 ≡ asks_by before 1 ++ next_ask before asked ∷ []
  pub entries : entries_of after ≡ entries_of before

-- the board of a script, of whose journal this is still to come: all its asks are answered
pub record IsDriven (portfolio : Accepted) (all left : List Item) (history : History) : Type 0 where
  pub quiet : IsQuiet portfolio history
  pub closed : open_asks history 1 ≡ []
  pub quotas : history.quotas ≡ length (book_of all) ∷ []
  pub items : journal_of history ++ left ≡ all
  pub appended : appended_by history 1 ≡ version_of history
  pub latest : AreLatest portfolio history

-- a board on which all that its caller has asked for is answered
pub record IsAtRest (portfolio : Accepted) (history : History) : Type 0 where
  pub quiet : IsQuiet portfolio history
  pub closed : open_asks history 1 ≡ []
  pub latest : AreLatest portfolio history

-- what one thread has: blocks of the board, of which this is known over all entries
pub record HasKnown (board : History) (blocks : Blocks) : Type 0 where
  pub named : length blocks.kept.items ≤ length blocks.names.now.contracts
  pub written : AreWrittenWith blocks.names.now blocks.kept.items
  pub known : AreKnownAt board (version_of board) blocks
