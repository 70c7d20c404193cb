-- What a caller's pass knows after a step of its own.
use Rattle.std.proofs.Common.{◌≡◌, ℕ, ◌+◌, false, List, ◌++◌, length, refl, sym, ap, subst, ◌∙◌, arith, eq-eqb}
use Rattle.std.proofs.lemmas.List.{append_cancel_right, length-append}
use Rattle.std.proofs.lemmas.List.Elements.{filter-append}
use Rattle.act_model.specs.declared.journal.Asked.{Asked}
use Rattle.act_model.specs.declared.journal.Step.TheVariants as step
use Rattle.act_model.specs.declared.observed.Obs.{Obs}
use Rattle.act_turn.specs.Journal.{entries_of, is_by}
use Rattle.act_turn.specs.Standing.{Standing, own_entries}
use Rattle.act_board.specs.Entries.{author_of, list_of}
use Rattle.act_history.specs.History.{History, IsPresent, and_then, asks_by, collected_by, is_collect_by, is_leave_by}
use Rattle.act_board.specs.declared.history.Entry.{Entry}
use Rattle.act_history.specs.declared.mark.Mark.{Mark}
use Rattle.act_history.specs.declared.mark.Mark.TheVariants as mark
use Rattle.act_history.proofs.Going.{any-not, asks-append, asks-own, asks-same, count-not, count-yes}
use Rattle.act_desk.specs.Step.{IsStep, added, and_maybe}
use Rattle.act_desk.proofs.Goes.{GoesOnBeside, beside}
use Rattle.act_desk.proofs.Taken.{list-next}

-- a step, from a history that the pass had seen
pub record Stepped (k : ℕ) (history : History) (Call : History → History → Type 0) (new : Standing Entry) : Type 0 where
  pub found : History
  pub after : History
  pub others : GoesOnBeside k history found
  pub call : Call found after
  pub seen : new.seen ≡ list_of after

pub stepped : (k : ℕ) (history : History) (Call : History → History → Type 0) (old new : Standing Entry)
    → old.number ≡ k → old.seen ≡ list_of history → IsStep old Call new → Stepped k history Call new
stepped k history Call old new number seen is =
    let whole : own_entries author_of new ≡ entries_of author_of old.number (list_of is.found) ++ entries_of author_of old.number (added is.mark) =
    ap (own_entries author_of) is.pass ∙ filter-append (λ (e : Entry). is_by old.number (author_of e)) (list_of is.found) (added is.mark) in
    let own : entries_of author_of old.number (list_of is.found) ≡ own_entries author_of old =
    append_cancel_right (entries_of author_of old.number (list_of is.found)) (own_entries author_of old) (entries_of author_of old.number (added is.mark)) (sym whole ∙ is.own) in
    let same : entries_of author_of k (list_of is.found) ≡ entries_of author_of k (list_of history) =
    ap (λ (n : ℕ). entries_of author_of n (list_of is.found)) (sym number) ∙ (own ∙ (ap (λ (n : ℕ). entries_of author_of n old.seen) number ∙ ap (entries_of author_of k) seen)) in
    record {
      found = is.found;
      after = and_maybe is.found is.mark;
      others = beside k history is.found (subst (λ (xs : List Entry). mathlib.Core.List.IsPrefix xs (list_of is.found)) seen is.begins) same;
      call = is.call;
      seen = ap (λ (pass : Standing Entry). pass.seen) is.pass ∙ sym (list-next is.found is.mark);
    }

-- ---- the caller's own marks

module _ (k : ℕ) (history : History) (m : Mark) where
  -- it is still there
  pub present-next : is_leave_by k m ≡ false → IsPresent history k → IsPresent (and_then history m) k
  present-next stays here = record { from = here.from; to = here.to; here = any-not (is_leave_by k) history.marks m stays ∙ here.here }

-- how many asks it has made and collected
pub record Counts (history : History) (m : Mark) (k asked collected : ℕ) : Type 0 where
  pub made : length (asks_by (and_then history m) k) ≡ length (asks_by history k) + asked
  pub had : collected_by (and_then history m) k ≡ collected_by history k + collected

module _ (k : ℕ) (history : History) where
  same : {n : ℕ} (m : ℕ) → m ≡ n → m ≡ n + 0
  same m is = omega (arith, is)

  counts-none : (m : Mark) → asks_by (and_then history m) k ≡ asks_by history k → is_collect_by k m ≡ false → Counts history m k 0 0
  counts-none m asks not = record {
    made = same (length (asks_by (and_then history m) k)) (ap length asks);
    had = same (collected_by (and_then history m) k) (count-not (is_collect_by k) history.marks m not);
  }

  pub counts-append : (entry : Obs) → Counts history (mark.Append k entry) k 0 0
  counts-append entry = counts-none (mark.Append k entry) (asks-append k history (mark.Append k entry) (record { caller = k; step = step.Append entry }) entry refl refl) refl

  pub counts-ask : (asked : Asked) → Counts history (mark.Ask k asked) k 1 0
  counts-ask asked = record {
    made = ap length (asks-own k history (mark.Ask k asked) (record { caller = k; step = step.Ask asked }) asked refl refl (eq-eqb k k refl)) ∙ length-append (asks_by history k) _;
    had = same (collected_by (and_then history (mark.Ask k asked)) k) (count-not (is_collect_by k) history.marks (mark.Ask k asked) refl);
  }

  pub counts-collect : Counts history (mark.Collect k) k 0 1
  counts-collect = record {
    made = same (length (asks_by (and_then history (mark.Collect k)) k)) (ap length (asks-same k history (mark.Collect k) refl));
    had = count-yes (is_collect_by k) history.marks (mark.Collect k) (eq-eqb k k refl);
  }
