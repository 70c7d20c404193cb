-- What stays true of a caller, and of work, while others go on.
use Rattle.std.proofs.Common.{◌≡◌, ℕ, ◌≤◌, Bool, true, false, List, [], ◌∷◌, ◌++◌, length, drop, take, refl, sym, ap, subst, ◌∙◌, arith}
use Rattle.std.specs.List.{filter_map}
use Rattle.std.proofs.lemmas.List.{length-take, take-append-le}
use Rattle.std.proofs.lemmas.List.Elements.{filter_map-append}
use Rattle.std.proofs.lemmas.List.Folds.{list_any-append}
use Rattle.act_turn.specs.Journal.{is_by}
use Rattle.act_model.specs.Journal.{book_of, entry_of}
use Rattle.act_model.specs.declared.asks.Asking.{Asking}
use Rattle.act_model.specs.declared.journal.Item.{Item}
use Rattle.act_model.specs.declared.journal.Step.TheVariants as step
use Rattle.act_model.specs.declared.observed.Obs.{Obs}
use Rattle.act_board.specs.Calls.{IsOf}
use Rattle.act_board.specs.Entries.{caller_of}
use Rattle.act_history.specs.History.{History, IsPresent, and_then, appended_by, asks_by, collected_by, entries_of as book, has_left, is_append_by, is_collect_by, is_give_up, is_given_up, is_leave_by, item_of, journal_of, open_asks}
use Rattle.act_keeping.specs.Work.{Work, version}
use Rattle.act_history.specs.declared.mark.Mark.{Mark}
use Rattle.act_history.specs.declared.mark.Mark.TheVariants as mark
use Rattle.act_keeping.proofs.Callers.{Spares}
use Rattle.act_history.proofs.Going.{any-not, asks-append, asks-other, asks-same, count-not}
use Rattle.act_desk.proofs.Goes.{GoesOnBeside, NoneBy, goes_on, going-on}

-- a mark of another spares a caller
spares : (history : History) (m : Mark) (k : ℕ) → is_by k (caller_of m) ≡ false → Spares history m k
spares history (mark.Append j entry) k other = record {
  append = other;
  collect = refl;
  leave = refl;
  asks = asks-append k history (mark.Append j entry) (record { caller = j; step = step.Append entry }) entry refl refl;
}
spares history (mark.Ask j asked) k other = record {
  append = refl;
  collect = refl;
  leave = refl;
  asks = asks-other k history (mark.Ask j asked) (record { caller = j; step = step.Ask asked }) asked refl refl other;
}
spares history (mark.Claim c v) k other = record { append = refl; collect = refl; leave = refl; asks = asks-same k history (mark.Claim c v) refl }
spares history (mark.Finish c v) k other = record { append = refl; collect = refl; leave = refl; asks = asks-same k history (mark.Finish c v) refl }
spares history (mark.Collect j) k other = record { append = refl; collect = other; leave = refl; asks = asks-same k history (mark.Collect j) refl }
spares history (mark.Leave j) k other = record { append = refl; collect = refl; leave = other; asks = asks-same k history (mark.Leave j) refl }
spares history mark.GiveUp k other = record { append = refl; collect = refl; leave = refl; asks = asks-same k history mark.GiveUp refl }

-- the first of some marks that aren't of a caller isn't, nor are the others
first-other : (k : ℕ) (m : Mark) (ms : List Mark) → NoneBy k (m ∷ ms) → (is_by k (caller_of m) ≡ false) × NoneBy k ms
first-other k m ms none = by (is_by k (caller_of m)) refl
  where
    by : (own : Bool) → is_by k (caller_of m) ≡ own → (is_by k (caller_of m) ≡ false) × NoneBy k ms
    by true own = absurd (let some = rw own at none in cc)
    by false own = (own, rw own at none)

module _ (k : ℕ) where
  -- what no mark of another changes stays as it is
  stays : {X : Type 0} (of : History → X) → ((history : History) (m : Mark) → is_by k (caller_of m) ≡ false → of (and_then history m) ≡ of history)
      → (history : History) (ms : List Mark) → NoneBy k ms → of (goes_on history ms) ≡ of history
  stays of each history [] none = refl
  stays of each history (m ∷ ms) none =
      let first = first-other k m ms none in
      stays of each (and_then history m) ms first.1 ∙ each history m first.0

  module _ (history found : History) (beside : GoesOnBeside k history found) where
    found-stays : {X : Type 0} (of : History → X) → ((history : History) (m : Mark) → is_by k (caller_of m) ≡ false → of (and_then history m) ≡ of history) → of found ≡ of history
    found-stays of each = ap of beside.found_is ∙ stays of each history beside.marks beside.others

    marked : found ≡ record { portfolio = history.portfolio; quotas = history.quotas; marks = history.marks ++ beside.marks }
    marked = beside.found_is ∙ going-on history beside.marks

    pub quotas-stay : found.quotas ≡ history.quotas
    quotas-stay = found-stays (λ (h : History). h.quotas) (λ h m other. refl)

    pub names-stay : found.portfolio ≡ history.portfolio
    names-stay = found-stays (λ (h : History). h.portfolio) (λ h m other. refl)

    pub asks-stay : asks_by found k ≡ asks_by history k
    asks-stay = found-stays (λ (h : History). asks_by h k) (λ h m other. (spares h m k other).asks)

    pub collects-stay : collected_by found k ≡ collected_by history k
    collects-stay = found-stays (λ (h : History). collected_by h k) (λ h m other. count-not (is_collect_by k) h.marks m (spares h m k other).collect)

    pub appends-stay : appended_by found k ≡ appended_by history k
    appends-stay = found-stays (λ (h : History). appended_by h k) (λ h m other. count-not (is_append_by k) h.marks m (spares h m k other).append)

    pub present-stays : IsPresent history k → IsPresent found k
    present-stays here = record {
      from = here.from;
      to = subst (λ (quotas : List ℕ). k ≤ length quotas) (sym quotas-stay) here.to;
      here = found-stays (λ (h : History). has_left h k) (λ h m other. any-not (is_leave_by k) h.marks m (spares h m k other).leave) ∙ here.here;
    }

    pub open-stays : open_asks found k ≡ open_asks history k
    open-stays = ap (λ (n : ℕ). drop n (asks_by found k)) collects-stay ∙ ap (λ (asks : List Asking). drop (collected_by history k) asks) asks-stay

    pub given_up-stays : is_given_up history ≡ true → is_given_up found ≡ true
    given_up-stays so = ap is_given_up marked ∙ (list_any-append is_give_up history.marks beside.marks ∙ rw so refl)

    -- the book goes on
    pub book-goes : (rest : List Obs) × (book found ≡ book history ++ rest)
    book-goes =
        let items : journal_of (record { portfolio = history.portfolio; quotas = history.quotas; marks = history.marks ++ beside.marks }) ≡ journal_of history ++ filter_map item_of beside.marks =
        filter_map-append item_of history.marks beside.marks in
        let entries : book_of (journal_of history ++ filter_map item_of beside.marks) ≡ book history ++ book_of (filter_map item_of beside.marks) =
        filter_map-append (λ (item : Item). entry_of item.step) (journal_of history) (filter_map item_of beside.marks) in
        (book_of (filter_map item_of beside.marks), ap book marked ∙ (ap book_of items ∙ entries))

    pub work-stays : (work : Work) → IsOf history work → IsOf found work
    work-stays work is =
        let short : version work ≤ length (book history) = omega (arith, ap length is.entries, length-take (version work) (book history)) in
        record {
          portfolio = is.portfolio ∙ sym names-stay;
          entries = is.entries ∙ sym (ap (take (version work)) book-goes.1 ∙ take-append-le (version work) (book history) book-goes.0 short);
        }
