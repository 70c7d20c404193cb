-- A turn around a call of the board is one step of one history.
use Rattle.std.proofs.Common.{◌≡◌, ◌⊎◌, ℕ, ◌+◌, true, false, List, [], ◌∷◌, ◌++◌, Option, Some, None, sym, ap, subst, ◌∙◌, append-nil}
use Rattle.std.specs.List.{All}
use Rattle.std.proofs.lemmas.List.{map-append}
use Rattle.std.proofs.lemmas.List.Elements.{All-nil, All-cons, filter-append}
use mathlib.Core.List.{IsPrefix}
use Rattle.act_turn.specs.Journal.{GoesOn, entries_of, is_by}
use Rattle.act_turn.specs.Standing.{Standing, own_entries}
use Rattle.act_board.specs.Entries.{author_of, caller_of, list_of}
use Rattle.act_history.specs.History.{History}
use Rattle.act_board.specs.declared.history.Entry.{Entry}
use Rattle.act_board.specs.declared.history.Entry.TheVariants as entry
use Rattle.act_history.specs.declared.mark.Mark.{Mark}
use Rattle.act_desk.specs.Step.{HasSeen, IsStep, added, and_maybe}
use Rattle.act_desk.proofs.Goes.{GoesOnBeside, beside}

-- a mark is of the caller k or of nobody
abbrev pub IsOwn : ℕ → Option Mark → Type 0
IsOwn k None = Unit {0}
IsOwn k (Some mark) = (caller_of mark ≡ Some k) ⊎ (caller_of mark ≡ None)

-- a history goes on with a mark of the caller k or of nobody, or stays
pub record Adds (k : ℕ) (before after : History) : Type 0 where
  pub mark : Option Mark
  pub after_is : after ≡ and_maybe before mark
  pub own : IsOwn k mark

-- the list of a history with a mark more
pub list-next : (history : History) (mark : Option Mark) → list_of (and_maybe history mark) ≡ list_of history ++ added mark
list-next history None = sym (append-nil (list_of history))
list-next history (Some mark) = ap (λ (es : List Entry). entry.Opening history.portfolio history.quotas ∷ es) (map-append entry.Mark history.marks (mark ∷ []))

all-own : (k : ℕ) (mark : Option Mark) → IsOwn k mark → All (λ (e : Entry). (author_of e ≡ Some k) ⊎ (author_of e ≡ None)) (added mark)
all-own k None own = All-nil (λ (e : Entry). (author_of e ≡ Some k) ⊎ (author_of e ≡ None))
all-own k (Some mark) own = All-cons (λ (e : Entry). (author_of e ≡ Some k) ⊎ (author_of e ≡ None)) (entry.Mark mark) [] own (All-nil (λ (e : Entry). (author_of e ≡ Some k) ⊎ (author_of e ≡ None)))

pub goes-on : (k : ℕ) (before after : History) → Adds k before after → GoesOn author_of k (list_of before) (list_of after)
goes-on k before after adds = (added adds.mark, ap list_of adds.after_is ∙ list-next before adds.mark, all-own k adds.mark adds.own)

pub step-made : (Call : History → History → Type 0) (old new : Standing Entry) (found after : History)
    → old.holds ≡ false → IsPrefix old.seen (list_of found) → entries_of author_of old.number (list_of found) ≡ own_entries author_of old
    → new ≡ record old { seen = list_of after; came = list_of found; turns = old.turns + 1; holds = false }
    → Adds old.number found after → Call found after → IsStep old Call new
step-made Call old new found after free begins own is adds call =
    let seen : list_of after ≡ list_of found ++ added adds.mark = ap list_of adds.after_is ∙ list-next found adds.mark in
    let pass : new ≡ record old { seen = list_of found ++ added adds.mark; came = list_of found; turns = old.turns + 1 } =
    is ∙ (ap (λ (xs : List Entry). record old { seen = xs; came = list_of found; turns = old.turns + 1; holds = false }) seen
    ∙ ap (λ b. record old { seen = list_of found ++ added adds.mark; came = list_of found; turns = old.turns + 1; holds = b }) (sym free)) in
    record {
      found = found;
      mark = adds.mark;
      begins = begins;
      call = subst (λ (h : History). Call found h) adds.after_is call;
      pass = pass;
      own =
          ap (own_entries author_of) pass
          ∙ (filter-append (λ (e : Entry). is_by old.number (author_of e)) (list_of found) (added adds.mark) ∙ ap (λ (xs : List Entry). xs ++ entries_of author_of old.number (added adds.mark)) own);
    }

-- a turn that a pass has taken: the history that it has found, and lends
pub record IsTurn (old taken : Standing Entry) (found lent : History) : Type 0 where
  pub free : old.holds ≡ false
  pub begins : IsPrefix old.seen (list_of found)
  pub own : entries_of author_of old.number (list_of found) ≡ own_entries author_of old
  pub pass : taken ≡ record old { seen = list_of found; came = list_of found; turns = old.turns + 1; holds = true }
  pub value : lent ≡ found

module _ {old taken : Standing Entry} {found lent : History} (is : IsTurn old taken found lent) where
  -- what the pass had seen goes on to what it finds, by marks of others
  pub goes-beside : {k : ℕ} {P : History → Type 0} → old.number ≡ k → (had : HasSeen old P) → GoesOnBeside k had.history lent
  goes-beside {k} number had =
      subst (GoesOnBeside k had.history) (sym is.value)
      (beside k had.history found (subst (λ (xs : List Entry). IsPrefix xs (list_of found)) had.seen is.begins)
      (ap (λ (n : ℕ). entries_of author_of n (list_of found)) (sym number) ∙ (is.own ∙ (ap (λ (n : ℕ). entries_of author_of n old.seen) number ∙ ap (entries_of author_of k) had.seen))))

  module _ {after : History} (adds : Adds old.number lent after) where
    -- it may be given back
    pub may-give : GoesOn author_of taken.number taken.seen (list_of after)
    may-give =
        subst (λ (pass : Standing Entry). GoesOn author_of pass.number pass.seen (list_of after)) (sym is.pass)
        (goes-on old.number found after (subst (λ (h : History). Adds old.number h after) is.value adds))

    -- and the call is a step
    pub is-step : {Call : History → History → Type 0} {new : Standing Entry} → new ≡ record taken { seen = list_of after; holds = false } → Call lent after → IsStep old Call new
    is-step {Call} {new} given call =
        step-made Call old new found after is.free is.begins is.own
        (given ∙ ap (λ (pass : Standing Entry). record pass { seen = list_of after; holds = false }) is.pass)
        (subst (λ (h : History). Adds old.number h after) is.value adds) (subst (λ (h : History). Call h after) is.value call)
