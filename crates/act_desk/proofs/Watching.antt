-- What a pass sees while others go on, and after calls that add no mark of its own.
use Rattle.std.proofs.Common.{◌≡◌, ℕ, ◌<◌, ◌≤◌, Bool, true, false, List, [], ◌∷◌, ◌++◌, length, take, Option, None, Some, Ok, Err, inl, inr, ⊎_elim, refl, sym, ap, subst, ◌∙◌, append-nil, append_assoc, eq-eqb}
use Rattle.std.specs.Prelude.{IfErr, Result, map}
use Rattle.std.specs.List.{slice_get}
use Rattle.std.proofs.lemmas.List.{map-append}
use Rattle.std.proofs.lemmas.List.Elements.{filter-append}
use mathlib.Core.List.{IsPrefix}
use Rattle.atomic_table.specs.Seated.{TableId}
use Rattle.act_num.specs.declared.NoMemory.{NoMemory}
use Rattle.act_portfolio.specs.Reading.{Accepted}
use Rattle.act_turn.specs.Journal.{entries_of, is_by}
use Rattle.act_turn.specs.Standing.{IsFree, Standing}
use Rattle.act_board.specs.Calls.{IsOf, after_give_up}
use Rattle.act_board.specs.Entries.{author_of, list_of}
use Rattle.act_history.specs.History.{History, IsPresent, is_give_up, is_given_up, is_leave_by, open_asks}
use Rattle.act_history.specs.Legal.{HasQuota, IsFull}
use Rattle.act_model.specs.Limits.{most_asks, most_open}
use Rattle.act_keeping.specs.Work.{Work, version}
use Rattle.act_board.specs.declared.history.Entry.{Entry}
use Rattle.act_board.specs.declared.history.Entry.TheVariants as entry
use Rattle.act_history.specs.declared.mark.Mark.{Mark}
use Rattle.act_history.specs.declared.mark.Mark.TheVariants as mark
use Rattle.act_board.specs.declared.outcome.AppendFault.{AppendFault}
use Rattle.act_board.specs.declared.outcome.AppendFault.TheVariants as appending
use Rattle.act_board.specs.declared.outcome.AskFault.{AskFault}
use Rattle.act_board.specs.declared.outcome.AskFault.TheVariants as asking
use Rattle.act_board.specs.declared.outcome.Claim.{Claim}
use Rattle.act_board.specs.declared.outcome.Claim.TheVariants as claim
use Rattle.act_board.specs.declared.outcome.Collected.TheVariants as collected
use Rattle.act_history.proofs.Going.{any-not, any-yes, entries-same}
use Rattle.act_model.specs.declared.asks.Asking.{Asking}
use Rattle.act_model.specs.declared.journal.Asked.{Asked}
use Rattle.act_model.specs.declared.observed.Obs.{Obs}
use Rattle.act_desk.specs.Calls.{Appends, Asks, ClaimsOrNot, CollectsOrNot, Finishes, GivesUp, Leaves}
use Rattle.act_desk.specs.Making.{HasGivenUp, HasWatched}
use Rattle.act_desk.specs.Step.{HasSeen, IsStep, added, and_maybe}
use Rattle.act_desk.proofs.Adds.{AddsNobodys, IsNobodys, adds-claim, adds-finish, adds-give_up, adds-none}
use Rattle.act_desk.proofs.Goes.{GoesOnBeside, beside, going-on}
use Rattle.act_desk.proofs.Own.{stepped}
use Rattle.act_desk.proofs.Stays.{appends-stay, asks-stay, given_up-stays, names-stay, open-stays, present-stays, quotas-stay}

-- what holds anyway holds of a fault
pub if-err : {A B : Type 0} {X : Type 0} (result : Result A B) → X → IfErr result (λ _. X)
if-err (Ok value) holds = tt
if-err (Err fault) holds = holds

-- ---- lists that go on

pub prefix-trans : (xs ys zs : List Entry) → IsPrefix xs ys → IsPrefix ys zs → IsPrefix xs zs
prefix-trans xs ys zs one two = (one.0 ++ two.0, sym (append_assoc xs one.0 two.0) ∙ (ap (λ (es : List Entry). es ++ two.0) one.1 ∙ two.1))

module _ (k : ℕ) (history after : History) (goes : GoesOnBeside k history after) where
  beside-list : list_of after ≡ list_of history ++ map entry.Mark goes.marks
  beside-list =
      ap list_of (goes.found_is ∙ going-on history goes.marks)
      ∙ ap (λ (es : List Entry). entry.Opening history.portfolio history.quotas ∷ es) (map-append entry.Mark history.marks goes.marks)

  pub beside-begins : IsPrefix (list_of history) (list_of after)
  beside-begins = (map entry.Mark goes.marks, sym beside-list)

  pub beside-own : entries_of author_of k (list_of after) ≡ entries_of author_of k (list_of history)
  beside-own =
      ap (entries_of author_of k) beside-list
      ∙ (filter-append (λ (e : Entry). is_by k (author_of e)) (list_of history) (map entry.Mark goes.marks)
      ∙ (ap (λ (es : List Entry). entries_of author_of k (list_of history) ++ es) goes.others ∙ append-nil (entries_of author_of k (list_of history))))

pub beside-trans : (k : ℕ) (one two three : History) → GoesOnBeside k one two → GoesOnBeside k two three → GoesOnBeside k one three
beside-trans k one two three first second =
    beside k one three (prefix-trans (list_of one) (list_of two) (list_of three) (beside-begins k one two first) (beside-begins k two three second))
    (beside-own k two three second ∙ beside-own k one two first)

-- a mark of nobody isn't the caller's own
beside-nobodys : (k : ℕ) (found after : History) → AddsNobodys found after → GoesOnBeside k found after
beside-nobodys k found after is = by is.mark is.after_is is.nobodys
  where
    by : (mark : Option Mark) → after ≡ and_maybe found mark → IsNobodys mark → GoesOnBeside k found after
    by None same nobodys = record { marks = []; found_is = same; others = refl }
    by (Some m) same nobodys = record { marks = m ∷ []; found_is = same; others = rw nobodys refl }

-- what stays true of a caller's room
quota-stays : (k : ℕ) (history found : History) → GoesOnBeside k history found → HasQuota history k → HasQuota found k
quota-stays k history found goes quota = (
  quota.0,
  quota.1,
  quota.2,
  ap (λ (quotas : List ℕ). slice_get quotas quota.0) (quotas-stay k history found goes) ∙ quota.3,
  subst (λ (n : ℕ). n < quota.1) (sym (appends-stay k history found goes)) quota.4,
)

full-came : (k : ℕ) (history found : History) → GoesOnBeside k history found → IsFull found k → IsFull history k
full-came k history found goes full =
    ⊎_elim (λ many. inl (subst (λ (asks : List Asking). most_open ≤ length asks) (open-stays k history found goes) many))
    (λ many. inr (subst (λ (asks : List Asking). most_asks ≤ length asks) (asks-stay k history found goes) many)) full

-- ---- passes

module _ (old new : Standing Entry) where
  pub watched-free : (id : TableId) → HasWatched old new → IsFree id old → IsFree id new
  watched-free id is free = (is.turn ∙ free.0, is.holds ∙ free.1)

  module _ (k : ℕ) (number : old.number ≡ k) (history : History) (seen : old.seen ≡ list_of history) where
    -- the history that was seen goes on beside the pass
    pub watched-beside : (is : HasWatched old new) → GoesOnBeside k history is.history
    watched-beside is =
        let own : entries_of author_of k new.seen ≡ entries_of author_of k old.seen =
        ap (λ (n : ℕ). entries_of author_of n new.seen) (sym (is.number ∙ number)) ∙ (is.own ∙ ap (λ (n : ℕ). entries_of author_of n old.seen) number) in
        beside k history is.history
        (subst (λ (xs : List Entry). IsPrefix xs (list_of is.history)) seen (subst (IsPrefix old.seen) is.seen is.begins))
        (ap (entries_of author_of k) (sym is.seen) ∙ (own ∙ ap (entries_of author_of k) seen))

    -- and the other way round
    pub beside-watched : (after : History) → new.turn ≡ old.turn → new.number ≡ old.number → new.holds ≡ old.holds → new.seen ≡ list_of after → GoesOnBeside k history after → HasWatched old new
    beside-watched after turn same holds now goes = record {
      turn = turn;
      number = same;
      holds = holds;
      begins = subst (λ (xs : List Entry). IsPrefix xs new.seen) (sym seen) (subst (IsPrefix (list_of history)) (sym now) (beside-begins k history after goes));
      own =
          ap (λ (n : ℕ). entries_of author_of n new.seen) (same ∙ number)
          ∙ (ap (entries_of author_of k) now
          ∙ (beside-own k history after goes ∙ (ap (entries_of author_of k) (sym seen) ∙ ap (λ (n : ℕ). entries_of author_of n old.seen) (sym number))));
      history = after;
      seen = now;
    }

    -- a call that adds no mark of the pass's own
    pub watched-step : (Call : History → History → Type 0) → IsStep old Call new → ((found after : History) → Call found after → AddsNobodys found after) → HasWatched old new
    watched-step Call is spares =
        let next = stepped k history Call old new number seen is in
        beside-watched next.after (ap (λ (p : Standing Entry). p.turn) is.pass) (ap (λ (p : Standing Entry). p.number) is.pass) (ap (λ (p : Standing Entry). p.holds) is.pass) next.seen
        (beside-trans k history next.found next.after next.others (beside-nobodys k next.found next.after (spares next.found next.after next.call)))

-- ---- calls of the board

module _ (k : ℕ) (old new : Standing Entry) (number : old.number ≡ k) (history : History) (seen : old.seen ≡ list_of history) where
  pub watched-append : (entry : Obs) (fault : AppendFault) → IsStep old (Appends k entry (Err fault)) new → HasWatched old new
  watched-append entry fault is = watched-step old new k number history seen (Appends k entry (Err fault)) is (λ found after call. adds-none found after call.unchanged)

  pub watched-ask : (asked : Asked) (fault : AskFault) → IsStep old (Asks k asked (Err fault)) new → HasWatched old new
  watched-ask asked fault is = watched-step old new k number history seen (Asks k asked (Err fault)) is (λ found after call. adds-none found after call.unchanged)

  pub watched-claim : (answer : Result Claim NoMemory) → IsStep old (ClaimsOrNot answer) new → HasWatched old new
  watched-claim answer is = watched-step old new k number history seen (ClaimsOrNot answer) is (λ found after call. adds-claim found after answer call)

  pub watched-finish : (work : Work) → IsStep old (Finishes work) new → HasWatched old new
  watched-finish work is = watched-step old new k number history seen (Finishes work) is (λ found after call. adds-finish found after work call)

  pub watched-give_up : IsStep old GivesUp new → HasWatched old new
  watched-give_up is = watched-step old new k number history seen GivesUp is (λ found after call. adds-give_up found after call)

  pub watched-no_memory : (fault : NoMemory) → IsStep old (CollectsOrNot k (Err fault)) new → HasWatched old new
  watched-no_memory fault is = watched-step old new k number history seen (CollectsOrNot k (Err fault)) is (λ found after call. adds-none found after call.unchanged)

  pub watched-not_yet : IsStep old (CollectsOrNot k (Ok collected.NotYet)) new → HasWatched old new
  watched-not_yet is = watched-step old new k number history seen (CollectsOrNot k (Ok collected.NotYet)) is (λ found after call. adds-none found after call.collected.4)

  pub watched-given_up : IsStep old (CollectsOrNot k (Ok collected.GivenUp)) new → HasWatched old new
  watched-given_up is = watched-step old new k number history seen (CollectsOrNot k (Ok collected.GivenUp)) is (λ found after call. adds-none found after call.collected.1)

  -- what is claimed is of the history that the pass has then seen
  pub claimed-seen : (work : Work) → IsStep old (ClaimsOrNot (Ok (claim.Task work))) new → HasSeen new (λ h. IsOf h work)
  claimed-seen work is =
      let next = stepped k history (ClaimsOrNot (Ok (claim.Task work))) old new number seen is in
      let claimed = next.call.claimed in
      record {
        history = next.after;
        seen = next.seen;
        holds =
            subst (λ (h : History). IsOf h work) (sym claimed.3)
            (record {
              portfolio = claimed.1.portfolio;
              entries = claimed.1.entries ∙ sym (ap (take (version work)) (entries-same next.found (mark.Claim work.contract (version work)) refl));
            });
      }

  -- somebody has given up then
  pub given_up-seen : IsStep old GivesUp new → HasSeen new (λ h. is_given_up h ≡ true)
  given_up-seen is =
      let next = stepped k history GivesUp old new number seen is in
      record { history = next.after; seen = next.seen; holds = subst (λ (h : History). is_given_up h ≡ true) (sym next.call) (gave next.found (is_given_up next.found) refl) }
    where
      gave : (found : History) (b : Bool) → is_given_up found ≡ b → is_given_up (after_give_up found) ≡ true
      gave found true so = rw so so
      gave found false not = rw not (any-yes is_give_up found.marks mark.GiveUp refl)

  -- a caller leaves after that
  pub left-seen : is_given_up history ≡ true → IsStep old (Leaves k) new → HasSeen new (λ h. HasGivenUp h k)
  left-seen gave is =
      let next = stepped k history (Leaves k) old new number seen is in
      let before = given_up-stays k history next.found next.others gave in
      record {
        history = next.after;
        seen = next.seen;
        holds = subst (λ (h : History). HasGivenUp h k) (sym next.call) (record {
          given_up = any-not is_give_up next.found.marks (mark.Leave k) refl ∙ before;
          left = any-yes (is_leave_by k) next.found.marks (mark.Leave k) (eq-eqb k k refl);
        });
      }

-- a caller that has quota isn't told that it is spent, nor one that has room that its asks are full
module _ {k : ℕ} {old new : Standing Entry} (number : old.number ≡ k) where
  pub never-spent : {entry : Obs} {fault : AppendFault} → HasSeen old (λ h. HasQuota h k) → IsStep old (Appends k entry (Err fault)) new → fault ≡ appending.QuotaSpent → ⊥
  never-spent {entry} {fault} had is spent =
      let next = stepped k had.history (Appends k entry (Err fault)) old new number had.seen is in
      (next.call.spent.0 (ap Err spent)).1 (quota-stays k had.history next.found next.others had.holds)

  pub never-full : {asked : Asked} {fault : AskFault} → HasSeen old (λ h. ¬ (IsFull h k)) → IsStep old (Asks k asked (Err fault)) new → fault ≡ asking.AsksFull → ⊥
  never-full {asked} {fault} had is full =
      let next = stepped k had.history (Asks k asked (Err fault)) old new number had.seen is in
      had.holds (full-came k had.history next.found next.others (next.call.full.0 (ap Err full)).1)

-- what a pass has seen goes on by a step
pub step-begins : (Call : History → History → Type 0) (old new : Standing Entry) → IsStep old Call new → IsPrefix old.seen new.seen
step-begins Call old new is =
    prefix-trans old.seen (list_of is.found) new.seen is.begins
    (subst (IsPrefix (list_of is.found)) (sym (ap (λ (p : Standing Entry). p.seen) is.pass)) (added is.mark, refl))

pub watched-trans : {one two three : Standing Entry} → HasWatched one two → HasWatched two three → HasWatched one three
watched-trans {one} {two} {three} first second = record {
  turn = second.turn ∙ first.turn;
  number = second.number ∙ first.number;
  holds = second.holds ∙ first.holds;
  begins = prefix-trans one.seen two.seen three.seen first.begins second.begins;
  own = second.own ∙ first.own;
  history = second.history;
  seen = second.seen;
}

-- what stays true of what was seen
module _ {old new : Standing Entry} (is : HasWatched old new) where
  pub watched-portfolio : {of : Accepted} → HasSeen old (λ h. h.portfolio ≡ of) → HasSeen new (λ h. h.portfolio ≡ of)
  watched-portfolio had = record {
    history = is.history;
    seen = is.seen;
    holds = names-stay old.number had.history is.history (watched-beside old new old.number refl had.history had.seen is) ∙ had.holds;
  }

  module _ {k : ℕ} (number : old.number ≡ k) where
    pub watched-present : HasSeen old (λ h. IsPresent h k) → HasSeen new (λ h. IsPresent h k)
    watched-present had = record {
      history = is.history;
      seen = is.seen;
      holds = present-stays k had.history is.history (watched-beside old new k number had.history had.seen is) had.holds;
    }

    pub watched-open : HasSeen old (λ h. 0 < length (open_asks h k)) → HasSeen new (λ h. 0 < length (open_asks h k))
    watched-open had = record {
      history = is.history;
      seen = is.seen;
      holds = subst (λ (asks : List Asking). 0 < length asks) (sym (open-stays k had.history is.history (watched-beside old new k number had.history had.seen is))) had.holds;
    }
