-- A history goes on from what a pass has seen, by marks that aren't the pass's own.
use Rattle.std.proofs.Common.{◌≡◌, ℕ, List, [], ◌∷◌, ◌++◌, refl, sym, ap, ◌∙◌, append_assoc, append-nil}
use Rattle.std.specs.Prelude.{map}
use Rattle.std.proofs.lemmas.List.{append_cancel_left}
use Rattle.std.proofs.lemmas.List.Elements.{filter-append}
use mathlib.Core.List.{IsPrefix}
use Rattle.act_turn.specs.Journal.{entries_of, is_by}
use Rattle.act_board.specs.Entries.{author_of, list_of}
use Rattle.act_history.specs.History.{History, and_then}
use Rattle.act_board.specs.declared.history.Entry.{Entry}
use Rattle.act_board.specs.declared.history.Entry.TheVariants as entry
use Rattle.act_history.specs.declared.mark.Mark.{Mark}

-- a history that goes on with some marks
abbrev pub goes_on : History → List Mark → History
goes_on history [] = history
goes_on history (mark ∷ marks) = goes_on (and_then history mark) marks

-- none of some marks is of the caller k
abbrev pub NoneBy : ℕ → List Mark → Type 0
NoneBy k marks = entries_of author_of k (map entry.Mark marks) ≡ []

-- the first history goes on to the second, by marks of others than the caller k
pub record GoesOnBeside (k : ℕ) (history found : History) : Type 0 where
  pub marks : List Mark
  pub found_is : found ≡ goes_on history marks
  pub others : NoneBy k marks

pub going-on : (history : History) (marks : List Mark) → goes_on history marks ≡ record { portfolio = history.portfolio; quotas = history.quotas; marks = history.marks ++ marks }
going-on history [] = ap (λ (ms : List Mark). record { portfolio = history.portfolio; quotas = history.quotas; marks = ms }) (sym (append-nil history.marks))
going-on history (mark ∷ marks) =
    going-on (and_then history mark) marks
    ∙ ap (λ (ms : List Mark). record { portfolio = history.portfolio; quotas = history.quotas; marks = ms }) (append_assoc history.marks (mark ∷ []) marks)

-- a list of marks that begins with some marks
split : (some all : List Mark) (rest : List Entry) → map entry.Mark some ++ rest ≡ map entry.Mark all → (more : List Mark) × (all ≡ some ++ more) × (rest ≡ map entry.Mark more)
split [] all rest same = (all, refl, same)
split (m ∷ some) [] rest same = absurd (cc)
split (m ∷ some) (n ∷ all) rest same =
    let heads : m ≡ n = cc in
    let tails : map entry.Mark some ++ rest ≡ map entry.Mark all = cc in
    let found = split some all rest tails in
    (found.0, ap (λ (x : Mark). x ∷ all) (sym heads) ∙ ap (λ (xs : List Mark). m ∷ xs) found.1, found.2)

-- the parts of a history are those of its list
parts : (history found : History) (rest : List Entry) → list_of history ++ rest ≡ list_of found
    → (found.portfolio ≡ history.portfolio) × (found.quotas ≡ history.quotas) × (map entry.Mark history.marks ++ rest ≡ map entry.Mark found.marks)
parts history found rest same = (cc, cc, cc)

-- a history is what its list says
pub same-history : (history found : History) → list_of history ≡ list_of found → history ≡ found
same-history history found same =
    let of-parts = parts history found [] (append-nil (list_of history) ∙ same) in
    let more = split history.marks found.marks [] of-parts.2 in
    let marks : history.marks ≡ found.marks = sym (append-nil history.marks) ∙ (ap (λ (ms : List Mark). history.marks ++ ms) (none more.0 more.2) ∙ sym more.1) in
    ap (λ p. record { portfolio = p; quotas = history.quotas; marks = history.marks }) (sym of-parts.0)
    ∙ (ap (λ (q : List ℕ). record { portfolio = found.portfolio; quotas = q; marks = history.marks }) (sym of-parts.1)
    ∙ ap (λ (ms : List Mark). record { portfolio = found.portfolio; quotas = found.quotas; marks = ms }) marks)
  where
    none : (ms : List Mark) → [] ≡ map entry.Mark ms → [] ≡ ms
    none [] same = refl
    none (m ∷ ms) same = absurd (cc)

module _ (k : ℕ) (history found : History) where
  -- what was added has no entries of k
  none-added : (rest : List Entry) → list_of history ++ rest ≡ list_of found → entries_of author_of k (list_of found) ≡ entries_of author_of k (list_of history) → entries_of author_of k rest ≡ []
  none-added rest same own =
      let whole : entries_of author_of k (list_of found) ≡ entries_of author_of k (list_of history) ++ entries_of author_of k rest =
      ap (entries_of author_of k) (sym same) ∙ filter-append (λ (e : Entry). is_by k (author_of e)) (list_of history) rest in
      append_cancel_left (entries_of author_of k (list_of history)) (entries_of author_of k rest) [] (sym whole ∙ (own ∙ sym (append-nil (entries_of author_of k (list_of history)))))

  pub beside : IsPrefix (list_of history) (list_of found) → entries_of author_of k (list_of found) ≡ entries_of author_of k (list_of history) → GoesOnBeside k history found
  beside begins own =
      let rest = begins.0 in
      let same : list_of history ++ rest ≡ list_of found = begins.1 in
      let of-parts = parts history found rest same in
      let more = split history.marks found.marks rest of-parts.2 in
      record {
        marks = more.0;
        found_is =
            ap (λ (ms : List Mark). record { portfolio = found.portfolio; quotas = found.quotas; marks = ms }) more.1
            ∙ (ap (λ p. record { portfolio = p; quotas = found.quotas; marks = history.marks ++ more.0 }) of-parts.0
            ∙ (ap (λ (q : List ℕ). record { portfolio = history.portfolio; quotas = q; marks = history.marks ++ more.0 }) of-parts.1 ∙ sym (going-on history more.0)));
        others = ap (entries_of author_of k) (sym more.2) ∙ none-added rest same own;
      }
