-- What has happened on a board, and what this says of its journal, its callers, claims and results. This profile's own.
use Rattle.std.specs.Prelude.{◌≡◌, ℕ, ◌<◌, ◌≤◌, ◌&&◌, ◌==◌, not, Bool, true, false, List, [], ◌∷◌, ◌++◌, length, take, drop, Option, Some, None, Vec}
use Rattle.std.specs.List.{Contains, count_by, filter_map, flat_map, list_any}
use Rattle.std.specs.declared.alloc.Global.{Global}
use Rattle.act_model.specs.Asks.{caller_asks}
use Rattle.act_model.specs.Journal.{book_of, contracts_of}
use Rattle.act_model.specs.declared.asks.Asking.{Asking}
use Rattle.act_model.specs.declared.journal.Item.{Item}
use Rattle.act_model.specs.declared.journal.Step.TheVariants as step
use Rattle.act_model.specs.declared.observed.Obs.{Obs}
use Rattle.act_accepted.specs.Accepted.{Accepted}
use Rattle.act_history.specs.Reached.{is_reached}
use Rattle.act_history.specs.declared.mark.Mark.{Mark}
use Rattle.act_history.specs.declared.mark.Mark.TheVariants.{Append, Ask, Claim, Finish, Collect, Leave, GiveUp}

-- the portfolio of a board, how many entries each of its callers may append, and what has happened since it was made
pub record History : Type 0 where
  pub portfolio : Accepted
  pub quotas : List ℕ
  pub marks : List Mark

-- a history that goes on with a mark
abbrev pub and_then : History → Mark → History
and_then history mark = record { portfolio = history.portfolio; quotas = history.quotas; marks = history.marks ++ mark ∷ [] }

-- what stood before the mark of a place
abbrev pub before : History → ℕ → History
before history place = record { portfolio = history.portfolio; quotas = history.quotas; marks = take place history.marks }

-- ---- the journal

-- what a mark adds to the journal
abbrev pub item_of : Mark → Option Item
item_of (Append caller entry) = Some (record { caller = caller; step = step.Append entry })
item_of (Ask caller asked) = Some (record { caller = caller; step = step.Ask asked })
item_of other = None

-- the steps of all callers, one after another
abbrev pub journal_of : History → List Item
journal_of history = filter_map item_of history.marks

-- the entries of the book
abbrev pub entries_of : History → List Obs
entries_of history = book_of (journal_of history)

-- how many there are
abbrev pub version_of : History → ℕ
version_of history = length (entries_of history)

-- ---- callers

-- the marks of a caller
abbrev pub is_append_by : ℕ → Mark → Bool
is_append_by i (Append caller entry) = caller == i
is_append_by i other = false

abbrev pub is_collect_by : ℕ → Mark → Bool
is_collect_by i (Collect caller) = caller == i
is_collect_by i other = false

abbrev pub is_leave_by : ℕ → Mark → Bool
is_leave_by i (Leave caller) = caller == i
is_leave_by i other = false

-- how many entries a caller has appended
abbrev pub appended_by : History → ℕ → ℕ
appended_by history i = count_by (is_append_by i) history.marks

-- the asks of a caller in their order, each with its number and its version: how many entries stood before it
abbrev pub asks_by : History → ℕ → List Asking
asks_by history i = caller_asks (journal_of history) i

-- how many of them were collected
abbrev pub collected_by : History → ℕ → ℕ
collected_by history i = count_by (is_collect_by i) history.marks

-- those that weren't, the oldest first: an ask is open until it is collected
abbrev pub open_asks : History → ℕ → List Asking
open_asks history i = drop (collected_by history i) (asks_by history i)

-- a caller has left
abbrev pub has_left : History → ℕ → Bool
has_left history i = list_any (is_leave_by i) history.marks

-- a caller's number, from 1, of one that hasn't left
pub record IsPresent (history : History) (i : ℕ) : Type 0 where
  pub from : 1 ≤ i
  pub to : i ≤ length history.quotas
  pub here : has_left history i ≡ false

-- somebody has given up
abbrev pub is_give_up : Mark → Bool
is_give_up GiveUp = true
is_give_up other = false

abbrev pub is_given_up : History → Bool
is_given_up history = list_any is_give_up history.marks

-- what all callers keep of their answers, one caller's after another's
abbrev pub replies_of : {A : Type 0} → List (Vec A Global) → List A
replies_of answers = flat_map (λ replies. replies.items) answers

-- ---- claims and results

-- the marks of a contract at a version
abbrev pub is_claim_of : ℕ → ℕ → Mark → Bool
is_claim_of c v (Claim contract version) = (contract == c) && (version == v)
is_claim_of c v other = false

abbrev pub is_finish_of : ℕ → ℕ → Mark → Bool
is_finish_of c v (Finish contract version) = (contract == c) && (version == v)
is_finish_of c v other = false

-- it was claimed at some time
abbrev pub was_claimed : History → ℕ → ℕ → Bool
was_claimed history c v = list_any (is_claim_of c v) history.marks

-- it has a result: it has come back
abbrev pub has_result : History → ℕ → ℕ → Bool
has_result history c v = list_any (is_finish_of c v) history.marks

-- it is claimed: from its claim until it comes back
abbrev pub is_claimed : History → ℕ → ℕ → Bool
is_claimed history c v = was_claimed history c v && not (has_result history c v)

-- a contract is wanted at a version: an open ask of that version asks for a contract that is it or reaches it
pub record IsWanted (history : History) (c v : ℕ) : Type 0 where
  pub caller : ℕ
  pub from : 1 ≤ caller
  pub to : caller ≤ length history.quotas
  pub ask : Asking
  pub still_open : Contains (open_asks history caller) ask
  pub contract : c < length history.portfolio.contracts.terms
  pub version : ask.version ≡ v
  pub reached : is_reached history.portfolio.contracts (contracts_of history.portfolio.names ask.asked) c ≡ true
