-- What the closed board is by what each caller has made.
use Rattle.std.proofs.Common.{◌≡◌, ℕ, ◌+◌, true, List, [], ◌∷◌, ◌++◌, length, refl, sym, ap, subst, ◌∙◌, append-nil, eq-eqb}
use Rattle.std.specs.Prelude.{map}
use Rattle.std.specs.List.{count_by, filter_map, list_any}
use Rattle.std.proofs.lemmas.List.Elements.{filter_map-append}
use mathlib.Core.List.{IsPrefix}
use Rattle.act_model.specs.Answer.{Reply}
use Rattle.act_model.specs.Asks.{caller_asks}
use Rattle.act_model.specs.declared.asks.Asking.{Asking}
use Rattle.act_model.specs.declared.journal.Line.{Line}
use Rattle.act_model.specs.declared.observed.Obs.{Obs}
use Rattle.act_profile.specs.Answers.{answer_to}
use Rattle.act_portfolio.specs.Reading.{Accepted}
use Rattle.act_turn.specs.Journal.{entries_of as own_of}
use Rattle.act_turn.specs.Standing.{Standing, own_entries}
use Rattle.act_board.specs.Entries.{author_of, list_of}
use Rattle.act_history.specs.History.{History, asks_by, collected_by, entries_of, has_left, is_collect_by, is_leave_by, item_of, journal_of}
use Rattle.act_board.specs.declared.history.Entry.{Entry}
use Rattle.act_board.specs.declared.history.Entry.TheVariants as entry
use Rattle.act_history.specs.declared.mark.Mark.{Mark}
use Rattle.act_history.specs.declared.mark.Mark.TheVariants as mark
use Rattle.act_history.proofs.Going.{any-yes, count-not}
use Rattle.act_desk.specs.Desk.{Desk}
use Rattle.act_desk.specs.Making.{HasMade, item_by}
use Rattle.act_desk.specs.Step.{opening}
use Rattle.act_desk.proofs.Goes.{GoesOnBeside, beside}
use Rattle.act_desk.proofs.Stays.{asks-stay, book-goes, names-stay}
use Rattle.act_desk.proofs.Amid.{all-told}
use Rattle.act_desk.proofs.Watching.{prefix-trans}
use Rattle.act_session.specs.Interleaving.{items_by}
use Rattle.act_session.specs.Playing.{answers_by, first_pass, quotas_of}
use Rattle.act_session.proofs.Marks.{marks_by, own-collects, own-items, own-leaves, own-marks, same-marks}

-- what a board has of a caller that has made its lines
pub record HasAll {A : Type 0} (kept_of : Reply → A) (board : History) (i : ℕ) (lines : List Line) (replies : List A) : Type 0 where
  pub items : items_by i (journal_of board) ≡ map (item_by i) lines
  pub collected : collected_by board i ≡ length (asks_by board i)
  pub left : has_left board i ≡ true
  pub told : replies ≡ map kept_of (answers_by board i)

-- a history whose list has only an opening has no asks
none-first : (of : Accepted) (quotas : List ℕ) (before : History) (i : ℕ) → list_of (opening of quotas) ≡ list_of before → asks_by before i ≡ []
none-first of quotas before i same =
    let none : [] ≡ map entry.Mark before.marks = cc in
    sym (ap (λ (marks : List Mark). caller_asks (filter_map item_of marks) i) (same-marks [] before.marks none))

module _ {A : Type 0} {kept_of : Reply → A} (desk : Desk) (scripts : List (List Line)) (place : ℕ) (lines : List Line) (replies : List A) (pass : Standing Entry) (board : History)
    (made : HasMade kept_of (first_pass desk scripts place) (place + 1) lines replies pass) (number : pass.number ≡ place + 1)
    (begins : IsPrefix pass.seen (list_of board)) (own : own_of author_of pass.number (list_of board) ≡ own_entries author_of pass) where
  -- the caller's entries of the board are those of its pass
  its-own : own_of author_of (place + 1) (list_of board) ≡ own_entries author_of pass
  its-own = ap (λ (n : ℕ). own_of author_of n (list_of board)) (sym number) ∙ own

  its-marks : marks_by (place + 1) board.marks ≡ made.marks ++ mark.Leave (place + 1) ∷ []
  its-marks = same-marks (marks_by (place + 1) board.marks) (made.marks ++ mark.Leave (place + 1) ∷ []) (sym (own-marks (place + 1) board.marks) ∙ (its-own ∙ made.own))

  -- others alone have gone on behind what it has seen
  goes : GoesOnBeside (place + 1) made.history board
  goes =
      beside (place + 1) made.history board (subst (λ (xs : List Entry). IsPrefix xs (list_of board)) made.seen begins)
      (its-own ∙ (ap (λ (n : ℕ). own_of author_of n pass.seen) number ∙ ap (own_of author_of (place + 1)) made.seen))

  its-asks : asks_by board (place + 1) ≡ made.made
  its-asks =
      asks-stay (place + 1) made.history board goes
      ∙ (made.asked ∙ ap (λ (asks : List Asking). asks ++ made.made) (none-first desk.portfolio (quotas_of scripts) made.before (place + 1) made.had))

  its-answers : replies ≡ map kept_of (answers_by board (place + 1))
  its-answers =
      let of : Accepted = made.history.portfolio in
      let book = book-goes (place + 1) made.history board goes in
      made.told
      ∙ ap (map kept_of)
      (sym (all-told of.contracts of.names (entries_of made.history) book.0 made.made made.versions)
      ∙ (ap (λ (entries : List Obs). map (answer_to of.contracts of.names entries) made.made) (sym book.1)
      ∙ (ap (λ (p : Accepted). map (answer_to p.contracts p.names (entries_of board)) made.made) (sym (names-stay (place + 1) made.history board goes))
      ∙ ap (λ (asks : List Asking). map (answer_to board.portfolio.contracts board.portfolio.names (entries_of board)) asks) (sym its-asks))))

  pub has-all : HasAll kept_of board (place + 1) lines replies
  has-all = record {
    items =
        own-items (place + 1) board.marks
        ∙ (ap (λ (marks : List Mark). filter_map item_of marks) its-marks
        ∙ (filter_map-append item_of made.marks (mark.Leave (place + 1) ∷ []) ∙ (append-nil (filter_map item_of made.marks) ∙ made.steps)));
    collected =
        sym (own-collects (place + 1) board.marks)
        ∙ (ap (λ (marks : List Mark). count_by (is_collect_by (place + 1)) marks) its-marks
        ∙ (count-not (is_collect_by (place + 1)) made.marks (mark.Leave (place + 1)) refl ∙ (made.collects ∙ (sym made.count ∙ ap length (sym its-asks)))));
    left =
        sym (own-leaves (place + 1) board.marks)
        ∙ (ap (λ (marks : List Mark). list_any (is_leave_by (place + 1)) marks) its-marks
        ∙ any-yes (is_leave_by (place + 1)) made.marks (mark.Leave (place + 1)) (eq-eqb (place + 1) (place + 1) refl));
    told = its-answers;
  }

  -- the board opens as the desk did
  pub opens : (board.portfolio ≡ desk.portfolio) × (board.quotas ≡ quotas_of scripts)
  opens =
      let first : List Entry = list_of (opening desk.portfolio (quotas_of scripts)) in
      let whole = prefix-trans first pass.seen (list_of board) made.begins begins in
      same-opening whole.0 whole.1
    where
      same-opening : (rest : List Entry) → list_of (opening desk.portfolio (quotas_of scripts)) ++ rest ≡ list_of board → (board.portfolio ≡ desk.portfolio) × (board.quotas ≡ quotas_of scripts)
      same-opening rest same = (cc, cc)
