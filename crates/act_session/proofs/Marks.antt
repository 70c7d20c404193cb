-- The marks of a caller.
use Rattle.std.proofs.Common.{◌≡◌, ◌<◌, ℕ, ◌+◌, ◌≤◌, ◌==◌, Bool, true, false, List, [], ◌∷◌, length, None, Option, Some, refl, ap, subst, ◌∙◌, arith}
use Rattle.std.specs.Prelude.{map}
use Rattle.std.specs.List.{All, count_by, filter, filter_map, list_any}
use Rattle.std.proofs.lemmas.Bool.{ne_eqb}
use Rattle.std.proofs.lemmas.List.Elements.{All-cons, All-head, All-nil, All-tail}
use Rattle.std.proofs.lemmas.Option.{same_Some}
use Rattle.act_model.specs.Asks.{caller_asks}
use Rattle.act_model.specs.declared.journal.Item.{Item}
use Rattle.act_model.specs.declared.journal.Step.{Step}
use Rattle.act_model.specs.declared.journal.Step.TheVariants as step
use Rattle.act_model.proofs.AsksInTurn.{asks_from, asks_in_turn}
use Rattle.act_turn.specs.Journal.{entries_of, is_by}
use Rattle.act_board.specs.Entries.{author_of, caller_of}
use Rattle.act_history.specs.History.{History, before, is_collect_by, is_leave_by, item_of, journal_of}
use Rattle.act_history.specs.Legal.{IsLegal, IsSound}
use Rattle.act_board.specs.declared.history.Entry.{Entry}
use Rattle.act_board.specs.declared.history.Entry.TheVariants as entry
use Rattle.act_history.specs.declared.mark.Mark.{Mark}
use Rattle.act_history.specs.declared.mark.Mark.TheVariants as mark
use Rattle.act_session.specs.Interleaving.{items_by}
use Rattle.act_session.proofs.Lists.{All-by_place, any-within, count-within}

-- the marks of a caller, in their order
abbrev pub is_of : ℕ → Mark → Bool
is_of i m = is_by i (caller_of m)

abbrev pub marks_by : ℕ → List Mark → List Mark
marks_by i marks = filter (is_of i) marks

module _ (i : ℕ) where
  -- the entries that they are
  pub own-marks : (marks : List Mark) → entries_of author_of i (map entry.Mark marks) ≡ map entry.Mark (marks_by i marks)
  own-marks [] = refl
  own-marks (m ∷ marks) = by (own-marks marks) (is_of i m) refl
    where
      by : entries_of author_of i (map entry.Mark marks) ≡ map entry.Mark (marks_by i marks) → (own : Bool) → is_of i m ≡ own → entries_of author_of i (map entry.Mark (m ∷ marks)) ≡ map entry.Mark (marks_by i (m ∷ marks))
      by rest true own = rw own (ap (λ (es : List Entry). entry.Mark m ∷ es) rest)
      by rest false own = rw own rest

  -- what they add to the journal
  pub own-items : (marks : List Mark) → items_by i (filter_map item_of marks) ≡ filter_map item_of (marks_by i marks)
  own-items [] = refl
  own-items (m ∷ marks) = by (own-items marks) m (is_of i m) refl
    where
      by : items_by i (filter_map item_of marks) ≡ filter_map item_of (marks_by i marks) → (m : Mark) (own : Bool) → is_of i m ≡ own → items_by i (filter_map item_of (m ∷ marks)) ≡ filter_map item_of (marks_by i (m ∷ marks))
      by rest (mark.Append j entry) true own = rw own (ap (λ (items : List Item). record { caller = j; step = step.Append entry } ∷ items) rest)
      by rest (mark.Append j entry) false own = rw own rest
      by rest (mark.Ask j asked) true own = rw own (ap (λ (items : List Item). record { caller = j; step = step.Ask asked } ∷ items) rest)
      by rest (mark.Ask j asked) false own = rw own rest
      by rest (mark.Collect j) true own = rw own rest
      by rest (mark.Collect j) false own = rw own rest
      by rest (mark.Leave j) true own = rw own rest
      by rest (mark.Leave j) false own = rw own rest
      by rest (mark.Claim c v) own is = rest
      by rest (mark.Finish c v) own is = rest
      by rest mark.GiveUp own is = rest

  -- a mark by which it collects or leaves is its own
  is-own : (m : Mark) → (is_collect_by i m ≡ true → is_of i m ≡ true) × (is_leave_by i m ≡ true → is_of i m ≡ true)
  is-own (mark.Collect j) = (λ is. is, λ is. absurd (cc))
  is-own (mark.Leave j) = (λ is. absurd (cc), λ is. is)
  is-own (mark.Append j entry) = (λ is. absurd (cc), λ is. absurd (cc))
  is-own (mark.Ask j asked) = (λ is. absurd (cc), λ is. absurd (cc))
  is-own (mark.Claim c v) = (λ is. absurd (cc), λ is. absurd (cc))
  is-own (mark.Finish c v) = (λ is. absurd (cc), λ is. absurd (cc))
  is-own mark.GiveUp = (λ is. absurd (cc), λ is. absurd (cc))

  -- how often it has collected, and whether it has left
  pub own-collects : (marks : List Mark) → count_by (is_collect_by i) (marks_by i marks) ≡ count_by (is_collect_by i) marks
  own-collects marks = count-within (is_collect_by i) (is_of i) (λ m. (is-own m).0) marks

  pub own-leaves : (marks : List Mark) → list_any (is_leave_by i) (marks_by i marks) ≡ list_any (is_leave_by i) marks
  own-leaves marks = any-within (is_leave_by i) (is_of i) (λ m. (is-own m).1) marks

-- lists of marks are the same where their entries are
pub same-marks : (ms ns : List Mark) → map entry.Mark ms ≡ map entry.Mark ns → ms ≡ ns
same-marks [] [] same = refl
same-marks [] (n ∷ ns) same = absurd (cc)
same-marks (m ∷ ms) [] same = absurd (cc)
same-marks (m ∷ ms) (n ∷ ns) same =
    let heads : m ≡ n = cc in
    let tails : map entry.Mark ms ≡ map entry.Mark ns = cc in
    ap (λ (x : Mark). x ∷ ms) heads ∙ ap (λ (xs : List Mark). n ∷ xs) (same-marks ms ns tails)

-- ---- whose the items of a sound history are

-- the items of marks of which something holds
All-items : (P : Item → Type 0) (marks : List Mark) → All (λ (m : Mark). (item : Item) → item_of m ≡ Some item → P item) marks → All P (filter_map item_of marks)
All-items P [] each = All-nil P
All-items P (m ∷ marks) each =
    by (All-items P marks (All-tail (λ (m : Mark). (item : Item) → item_of m ≡ Some item → P item) m marks each)) (item_of m) refl
    (All-head (λ (m : Mark). (item : Item) → item_of m ≡ Some item → P item) m marks each)
  where
    by : All P (filter_map item_of marks) → (item : Option Item) → item_of m ≡ item → ((item : Item) → item_of m ≡ Some item → P item) → All P (filter_map item_of (m ∷ marks))
    by rest (Some item) is holds = rw is (All-cons P item (filter_map item_of marks) (holds item is) rest)
    by rest None is holds = rw is rest

-- the item is of one of the first so many callers
abbrev pub IsWithin : ℕ → Item → Type 0
IsWithin count item = (1 ≤ item.caller) × (item.caller ≤ count)

legal-within : (history : History) (m : Mark) → IsLegal history m → (item : Item) → item_of m ≡ Some item → IsWithin (length history.quotas) item
legal-within history (mark.Append j entry) legal item is =
    subst (IsWithin (length history.quotas)) (same_Some (record { caller = j; step = step.Append entry }) item is) (legal.0.from, legal.0.to)
legal-within history (mark.Ask j asked) legal item is =
    subst (IsWithin (length history.quotas)) (same_Some (record { caller = j; step = step.Ask asked }) item is) (legal.0.from, legal.0.to)
legal-within history (mark.Claim c v) legal item is = absurd (cc)
legal-within history (mark.Finish c v) legal item is = absurd (cc)
legal-within history (mark.Collect j) legal item is = absurd (cc)
legal-within history (mark.Leave j) legal item is = absurd (cc)
legal-within history mark.GiveUp legal item is = absurd (cc)

pub items-within : (history : History) → IsSound history → All (IsWithin (length history.quotas)) (journal_of history)
items-within history sound =
    All-items (IsWithin (length history.quotas)) history.marks
    (All-by_place (λ (m : Mark). (item : Item) → item_of m ≡ Some item → IsWithin (length history.quotas) item) history.marks
    (λ place m at. legal-within (before history place) m (sound place m at)))

-- a caller behind them has no asks
none-from : (count i number version : ℕ) (items : List Item) → count < i → All (IsWithin count) items → asks_from i number version items ≡ []
none-from count i number version [] behind within = refl
none-from count i number version (item ∷ items) behind within =
    let first = All-head (IsWithin count) item items within in
    let other : (item.caller == i) ≡ false = ne_eqb item.caller i (λ same. omega (arith, first.1, same, behind)) in
    by (λ n v. none-from count i n v items behind (All-tail (IsWithin count) item items within)) item.step refl other
  where
    by : ((n v : ℕ) → asks_from i n v items ≡ []) → (what : Step) → item.step ≡ what → (item.caller == i) ≡ false → asks_from i number version (item ∷ items) ≡ []
    by rest (step.Append entry) is other = rw is (rest number (version + 1))
    by rest (step.Ask asked) is other = rw (is, other) (rest number version)

pub none-behind : (count i : ℕ) (items : List Item) → count < i → All (IsWithin count) items → caller_asks items i ≡ []
none-behind count i items behind within = asks_in_turn items i ∙ none-from count i 1 0 items behind within
