-- What a board keeps, and how it stands for a history.
use Rattle.std.specs.Prelude.{◌≡◌, ℕ, suc, ◌+◌, ◌-◌, ◌<◌, ◌≤◌, ◌&&◌, ◌||◌, ◌==◌, nat_lt, cond, Bool, true, false, List, [], ◌∷◌, ◌++◌, length, map, take, drop, slice_set, slice_index_or, Some, Ok}
use Rattle.std.specs.Arc.{arc_value}
use Rattle.std.specs.List.{All, range_with_len, slice_get, sum_by}
use Rattle.std.specs.declared.alloc.Global.{Global}
use Rattle.std.specs.declared.sync.Arc.{Arc}
use Rattle.act_model.specs.Journal.{is_known}
use Rattle.act_model.specs.Limits.{most_asks, most_callers, most_entries, most_open}
use Rattle.act_model.specs.Run.{Stream}
use Rattle.act_model.specs.declared.asks.Asking.{Asking}
use Rattle.act_model.specs.declared.journal.Item.{Item}
use Rattle.act_model.specs.declared.journal.Step.TheVariants as step
use Rattle.act_model.specs.declared.observed.Obs.{Obs}
use Rattle.act_accepted.specs.Accepted.{Accepted}
use Rattle.act_profile.specs.Run.{run_of}
use Rattle.act_refs.specs.Ordered.{order_of}
use Rattle.act_refs.specs.Path.{IsChild}
use Rattle.act_profile.specs.DayOrder.{AreInDayOrder, RunsAreInDayOrder}
use Rattle.act_history.specs.History.{History, IsWanted, appended_by, asks_by, collected_by, entries_of, has_left, has_result, is_given_up, journal_of, open_asks, version_of, was_claimed}
use Rattle.act_history.specs.Legal.{IsSound}
use Rattle.act_keeping.specs.declared.caller.Caller.{Caller}
use Rattle.act_keeping.specs.declared.pair.Pair.{Pair}
use Rattle.act_keeping.specs.declared.pair.Progress.{Progress}
use Rattle.act_keeping.specs.declared.pair.Progress.TheVariants.{Waiting, Claimed, Done, Dropped}

-- ---- callers

-- an open ask names what there is, and stands behind as many entries as it says
pub record IsAsk (history : History) (ask : Asking) : Type 0 where
  pub known : is_known history.portfolio.names (step.Ask ask.asked) ≡ true
  pub version : ask.version ≤ version_of history

-- what is kept of a caller
pub record IsCaller (history : History) (i limit : ℕ) (caller : Caller) : Type 0 where
  pub left : caller.left ≡ has_left history i
  pub quota : caller.remaining + appended_by history i ≡ limit
  pub asked : caller.asked ≡ length (asks_by history i)
  pub still_open : caller.open_asks.items ≡ open_asks history i
  pub few_asked : caller.asked ≤ most_asks
  pub few_open : length caller.open_asks.items ≤ most_open
  pub collected : collected_by history i ≤ length (asks_by history i)
  pub asks : All (IsAsk history) caller.open_asks.items
  pub gone : caller.left ≡ true → is_given_up history ≡ false → caller.open_asks.items ≡ []

-- what is kept of all callers
pub record AreCallers (history : History) (callers : List Caller) : Type 0 where
  pub count : length callers ≡ length history.quotas
  pub few : length callers ≤ most_callers
  pub each : (k quota : ℕ) (caller : Caller) → slice_get history.quotas k ≡ Some quota → slice_get callers k ≡ Some caller → IsCaller history (suc k) quota caller

-- a caller who has done nothing yet
pub record IsNewcomer (quota : ℕ) (caller : Caller) : Type 0 where
  pub here : caller.left ≡ false
  pub whole : caller.remaining ≡ quota
  pub silent : caller.asked ≡ 0
  pub none : caller.open_asks.items ≡ []

-- one for each quota
pub record AreNewcomers (quotas : List ℕ) (callers : List Caller) : Type 0 where
  pub count : length callers ≡ length quotas
  pub each : (k quota : ℕ) (caller : Caller) → slice_get quotas k ≡ Some quota → slice_get callers k ≡ Some caller → IsNewcomer quota caller

-- a caller is written at its place, with one ask more that is open
pub record OpensAsk (old : List Caller) (place : ℕ) (ask : Asking) (new : List Caller) : Type 0 where
  pub before : Caller
  pub after : Caller
  pub was : slice_get old place ≡ Some before
  pub is : new ≡ slice_set old place after
  pub left : after.left ≡ before.left
  pub remaining : after.remaining ≡ before.remaining
  pub asked : after.asked ≡ before.asked + 1
  pub number : ask.number ≡ before.asked + 1
  pub asks : after.open_asks.items ≡ before.open_asks.items ++ ask ∷ []

-- a caller is written at its place with one entry less that it may append
pub record Spends (old : List Caller) (place : ℕ) (new : List Caller) : Type 0 where
  pub before : Caller
  pub after : Caller
  pub was : slice_get old place ≡ Some before
  pub is : new ≡ slice_set old place after
  pub left : after.left ≡ before.left
  pub remaining : after.remaining ≡ before.remaining - 1
  pub asked : after.asked ≡ before.asked
  pub asks : after.open_asks.items ≡ before.open_asks.items

-- a caller is written at its place without the oldest of its open asks
pub record ClosesOldest (old : List Caller) (place : ℕ) (new : List Caller) : Type 0 where
  pub before : Caller
  pub after : Caller
  pub was : slice_get old place ≡ Some before
  pub is : new ≡ slice_set old place after
  pub left : after.left ≡ before.left
  pub remaining : after.remaining ≡ before.remaining
  pub asked : after.asked ≡ before.asked
  pub asks : after.open_asks.items ≡ drop 1 before.open_asks.items

-- a caller is written at its place as one that has left
pub record Leaves (old : List Caller) (place : ℕ) (new : List Caller) : Type 0 where
  pub before : Caller
  pub after : Caller
  pub was : slice_get old place ≡ Some before
  pub is : new ≡ slice_set old place after
  pub left : after.left ≡ true
  pub remaining : after.remaining ≡ before.remaining
  pub asked : after.asked ≡ before.asked
  pub asks : after.open_asks.items ≡ before.open_asks.items

-- a caller is written at its place as it was
pub record IsUntouched (old : List Caller) (place : ℕ) (new : List Caller) : Type 0 where
  pub before : Caller
  pub after : Caller
  pub was : slice_get old place ≡ Some before
  pub is : new ≡ slice_set old place after
  pub left : after.left ≡ before.left
  pub remaining : after.remaining ≡ before.remaining
  pub asked : after.asked ≡ before.asked
  pub asks : after.open_asks.items ≡ before.open_asks.items

-- ---- contracts at versions

-- a pair stands before those of a version and a rank
abbrev pub is_before : Pair → ℕ → ℕ → Bool
is_before pair version rank = nat_lt pair.version version || ((pair.version == version) && nat_lt pair.rank rank)

-- pairs stand by version, and then by rank
abbrev pub AreSorted : List Pair → Type 0
AreSorted pairs = (i j : ℕ) (a b : Pair) → i < j → slice_get pairs i ≡ Some a → slice_get pairs j ≡ Some b → is_before a b.version b.rank ≡ true

-- the pair is one of them
abbrev pub Has : List Pair → Pair → Type 0
Has pairs pair = (k : ℕ) × (slice_get pairs k ≡ Some pair)

-- there is one of a version and a rank
abbrev pub IsListed : List Pair → ℕ → ℕ → Type 0
IsListed pairs version rank = (pair : Pair) × Has pairs pair × (pair.version ≡ version) × (pair.rank ≡ rank)

-- it stands at a place
abbrev pub HasAt : List Pair → ℕ → ℕ → ℕ → Type 0
HasAt pairs version rank place = (pair : Pair) × (slice_get pairs place ≡ Some pair) × (pair.version ≡ version) × (pair.rank ≡ rank)

-- how far a pair is
abbrev pub is_waiting : Progress → Bool
is_waiting Waiting = true
is_waiting Claimed = false
is_waiting (Done run) = false
is_waiting Dropped = false

abbrev pub is_under_way : Progress → Bool
is_under_way Waiting = false
is_under_way Claimed = true
is_under_way (Done run) = false
is_under_way Dropped = false

abbrev pub is_done : Progress → Bool
is_done Waiting = false
is_done Claimed = false
is_done (Done run) = true
is_done Dropped = true

-- its run is there
abbrev pub is_kept : Progress → Bool
is_kept Waiting = false
is_kept Claimed = false
is_kept (Done run) = true
is_kept Dropped = false

-- the pair of a version and a rank was claimed and hasn't come back
abbrev pub IsUnderWay : List Pair → ℕ → ℕ → Type 0
IsUnderWay pairs version rank = (pair : Pair) × Has pairs pair × (pair.version ≡ version) × (pair.rank ≡ rank) × (is_under_way pair.progress ≡ true)

-- how far the pair of a version and a rank is was written at its place
pub record IsPut (old : List Pair) (version rank : ℕ) (progress : Progress) (new : List Pair) : Type 0 where
  pub place : ℕ
  pub pair : Pair
  pub was : slice_get old place ≡ Some pair
  pub same_version : pair.version ≡ version
  pub same_rank : pair.rank ≡ rank
  pub is : new ≡ slice_set old place (record { version = version; rank = rank; progress = progress })

-- the contract of a rank
abbrev pub contract_at : History → ℕ → ℕ
contract_at history rank = slice_index_or history.portfolio.order rank 0

-- a run is the result of a contract at a version
abbrev pub IsResult : History → ℕ → ℕ → Stream → Type 0
IsResult history c v run = (run ≡ run_of history.portfolio.contracts (take v (entries_of history)) c) × AreInDayOrder run.rows

-- nobody can ask for results of a version: it is before the book's, and nothing is wanted at it
abbrev pub IsUnwanted : History → ℕ → Type 0
IsUnwanted history v = (v < version_of history) × ((c : ℕ) → ¬ (IsWanted history c v))

-- how far a contract at a version is
abbrev pub IsAt : History → ℕ → ℕ → Progress → Type 0
IsAt history c v Waiting = (was_claimed history c v ≡ false) × (has_result history c v ≡ false)
IsAt history c v Claimed = (was_claimed history c v ≡ true) × (has_result history c v ≡ false)
IsAt history c v (Done run) = (has_result history c v ≡ true) × IsResult history c v (arc_value run)
IsAt history c v Dropped = (has_result history c v ≡ true) × IsUnwanted history v

-- what is kept of a pair
pub record IsPair (history : History) (pair : Pair) : Type 0 where
  pub version : pair.version ≤ version_of history
  pub rank : pair.rank < length history.portfolio.order
  pub at : IsAt history (contract_at history pair.rank) pair.version pair.progress

-- what is kept of all: those that are wanted, claimed or done are there; the children of one that is claimed or done are done; and one that waits is wanted
pub record ArePairs (history : History) (pairs : List Pair) : Type 0 where
  pub sorted : AreSorted pairs
  pub each : (pair : Pair) → Has pairs pair → IsPair history pair
  pub children : (pair : Pair) → Has pairs pair → is_waiting pair.progress ≡ false → (child : ℕ) → IsChild history.portfolio.contracts.children (contract_at history pair.rank) child → has_result history child pair.version ≡ true
  pub waiting : is_given_up history ≡ false → (pair : Pair) → Has pairs pair → is_waiting pair.progress ≡ true → IsWanted history (contract_at history pair.rank) pair.version
  pub wanted : (v r : ℕ) → r < length history.portfolio.order → IsWanted history (contract_at history r) v → IsListed pairs v r
  pub claimed : (v r : ℕ) → r < length history.portfolio.order → was_claimed history (contract_at history r) v ≡ true → IsListed pairs v r
  pub done : (v r : ℕ) → r < length history.portfolio.order → has_result history (contract_at history r) v ≡ true → IsListed pairs v r

-- ---- what may be claimed

-- the children of a contract have results at a version
abbrev pub HaveResults : History → ℕ → ℕ → Type 0
HaveResults history c v = (child : ℕ) → IsChild history.portfolio.contracts.children c child → has_result history child v ≡ true

-- one of them has none
abbrev pub LacksResult : History → ℕ → ℕ → Type 0
LacksResult history c v = (child : ℕ) × IsChild history.portfolio.contracts.children c child × (has_result history child v ≡ false)

-- the pair at a place waits, and the children of its contract have results
abbrev pub IsFreeAt : History → List Pair → ℕ → Type 0
IsFreeAt history pairs place =
    (pair : Pair) × (slice_get pairs place ≡ Some pair) × (is_waiting pair.progress ≡ true) × HaveResults history (contract_at history pair.rank) pair.version

-- of the pairs between two places that wait, each has a child without a result
abbrev pub NoneIsFree : History → List Pair → ℕ → ℕ → Type 0
NoneIsFree history pairs from to =
    (k : ℕ) (pair : Pair) → from ≤ k → k < to → slice_get pairs k ≡ Some pair → is_waiting pair.progress ≡ true → LacksResult history (contract_at history pair.rank) pair.version

-- what is kept stands for a history of this portfolio
abbrev pub Keeps : Accepted → List Pair → History → Type 0
Keeps portfolio pairs history = ArePairs history pairs × (history.portfolio ≡ portfolio)

-- ---- results

-- the result of a contract at a version is there
abbrev pub IsThere : Accepted → List Pair → ℕ → ℕ → Type 0
IsThere portfolio pairs c v =
    (r : ℕ) → slice_get portfolio.order r ≡ Some c → (pair : Pair) × Has pairs pair × (pair.version ≡ v) × (pair.rank ≡ r) × (is_kept pair.progress ≡ true)

-- runs are the results of some contracts at a version
abbrev pub AreResults : History → ℕ → List ℕ → List Stream → Type 0
AreResults history v contracts runs =
    (runs ≡ map (run_of history.portfolio.contracts (take v (entries_of history))) contracts) × RunsAreInDayOrder runs

-- the results of the contracts from a number on, as far as to another, each with its number
abbrev pub numbered : List (ℕ × Arc Stream Global) → List (ℕ × Stream)
numbered runs = map (λ run. (run.0, arc_value run.1)) runs

abbrev pub answered : History → ℕ → ℕ → ℕ → List (ℕ × Stream)
answered history v first end = map (λ c. (c, run_of history.portfolio.contracts (take v (entries_of history)) c)) (range_with_len first (end - first))

-- the pairs before a place don't wait
abbrev pub IsPast : List Pair → ℕ → Type 0
IsPast pairs front = (k : ℕ) (pair : Pair) → k < front → slice_get pairs k ≡ Some pair → is_waiting pair.progress ≡ false

-- ---- marks that are still to come

-- how many marks a caller, a pair and a board still owe: one for each open ask and one for leaving, one for what is claimed, one for giving up
abbrev pub owed_by : Caller → ℕ
owed_by caller = length caller.open_asks.items + cond caller.left 0 1

abbrev pub owed_for : Pair → ℕ
owed_for pair = cond (is_under_way pair.progress) 1 0

abbrev pub owed : List Caller → List Pair → Bool → ℕ
owed callers pairs given_up = sum_by owed_by callers + sum_by owed_for pairs + cond given_up 0 1

-- ---- a board

-- what a board keeps of its history: the room for marks, the journal, the book, callers, pairs, before which of these none waits, how many marks are still to
-- come, and whether somebody gave up
pub record Keeping : Type 0 where
  pub capacity : ℕ
  pub items : List Item
  pub book : List Obs
  pub callers : List Caller
  pub pairs : List Pair
  pub front : ℕ
  pub owing : ℕ
  pub given_up : Bool

-- what is kept stands for a history; there is room for the marks that are owed, and the book has room for what callers may still append
pub record IsBoard (history : History) (kept : Keeping) : Type 0 where
  pub ordered : order_of history.portfolio.contracts.children ≡ Ok history.portfolio.order
  pub count : length history.portfolio.contracts.children ≡ length history.portfolio.contracts.terms
  pub numbered : All (λ contract. contract < length history.portfolio.contracts.terms) history.portfolio.order
  pub sound : IsSound history
  pub items : kept.items ≡ journal_of history
  pub entries : kept.book ≡ entries_of history
  pub given_up : kept.given_up ≡ is_given_up history
  pub callers : AreCallers history kept.callers
  pub pairs : ArePairs history kept.pairs
  pub front : IsPast kept.pairs kept.front
  pub owing : kept.owing ≡ owed kept.callers kept.pairs kept.given_up
  pub room : length history.marks + kept.owing ≤ kept.capacity
  pub fits : length kept.book + sum_by (λ (caller : Caller). caller.remaining) kept.callers ≤ most_entries
