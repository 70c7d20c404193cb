-- A script whose steps are made one after the other, and whose answers are written.
use Rattle.std.proofs.Common.{◌≡◌, ℕ, ◌+◌, ◌<◌, Bool, true, List, [], ◌∷◌, get_or, length, take, None, refl, sym, ap, subst, ◌∙◌, arith, length-append}
use Rattle.std.specs.Prelude.{◌&&◌}
use Rattle.std.specs.List.{All, list_all}
use Rattle.std.proofs.lemmas.List.{take_all, take_at}
use Rattle.act_engine.specs.Writing.{StopsIn}
use Rattle.act_engine.specs.declared.writing.Failure.{Failure}
use Rattle.act_engine.specs.declared.writing.Failure.TheVariants.{Memory}
use Rattle.act_engine.proofs.Texts.{left-part, none-of}
use Rattle.act_history.specs.History.{History, and_then, asks_by, entries_of, version_of}
use Rattle.act_history.specs.Legal.{HasQuota}
use Rattle.act_model.specs.Limits.{most_asks}
use Rattle.act_history.specs.declared.mark.Mark.TheVariants as mark
use Rattle.act_io.specs.Page.{Page, written_on}
use Rattle.act_job.specs.Weight.{too_much_asked}
use Rattle.act_model.specs.Answer.{Reply}
use Rattle.act_model.specs.Journal.{book_of, is_known}
use Rattle.act_model.specs.Names.{NameLists}
use Rattle.act_model.specs.declared.journal.Asked.{Asked}
use Rattle.act_model.specs.declared.journal.Line.{Line}
use Rattle.act_model.specs.declared.journal.Step.{Step}
use Rattle.act_model.specs.declared.journal.Step.TheVariants.{Append, Ask}
use Rattle.act_model.specs.declared.observed.Obs.{Obs}
use Rattle.act_portfolio.specs.Reading.{Accepted}
use Rattle.act_print.specs.Printed.{printed_answer}
use Rattle.act_print.specs.Text.{answer_text}
use Rattle.act_profile.specs.Answers.{answer_to, answers_of}
use Rattle.act_transcript.specs.Ends.{ends_well}
use Rattle.act_transcript.specs.Text.{answers_text, items_of}
use Rattle.act_eval.specs.Driven.{Adds, IsAtRest, IsDriven, next_answer, next_ask}
use Rattle.act_eval.specs.Evaluation.{Evaluation}
use Rattle.act_eval.specs.Work.{ask_work, asks_work, work_of}
use Rattle.act_eval.proofs.Answering.{Answering, answering-all, answering-append, answering-ask, answering-none, answering-part, answers-are}
use Rattle.act_eval.proofs.Asks.{asks-at-ask}
use Rattle.act_eval.proofs.Stepping.{answer-same, append-asked, append-asks, append-entries, book-begins, driven-append, driven-ask, driven-first, driven-rest, has-quota, known-same, work-all}
use Rattle.act_eval.proofs.Working.{work-push}

-- How far a script is: of its lines these are still to come on this board, and the answers to their asks are still to be written; with those before, all
-- end in `end` or don't. So many rows were computed
pub record IsAt (portfolio : Accepted) (names : NameLists) (lines left : List Line) (board : History) (ended : Bool) (first ticks : ℕ) (before now : Page) : Type 0 where
  pub driven : IsDriven portfolio (items_of lines) (items_of left) board
  pub answering : Answering portfolio names (book_of (items_of lines)) lines left (1 + length (asks_by board 1)) (version_of board) ended before now
  pub ticked : ticks ≡ first + asks_work portfolio (book_of (items_of lines)) [] (asks_by board 1)

module _ (portfolio : Accepted) (names : NameLists) (lines : List Line) (first : ℕ) (before : Page) where
  abbrev book : List Obs
  book = book_of (items_of lines)

  abbrev all-answers : List ℕ
  all-answers = answers_text names (answers_of portfolio.contracts names (items_of lines))

  -- nothing has happened
  pub at-first : too_much_asked portfolio (lines ∷ []) ≡ None → IsAt portfolio names lines lines (record { portfolio = portfolio; quotas = length (book_of (items_of lines)) ∷ []; marks = [] }) true first first before before
  at-first light = record { driven = driven-first portfolio (items_of lines); answering = answering-all portfolio names book lines before light refl; ticked = omega arith }

  -- where memory runs out before anything more is written, a part of all was written
  pub at-stop : (left : List Line) (board : History) (ended : Bool) (ticks : ℕ) (now : Page) → IsAt portfolio names lines left board ended first ticks before now → StopsIn Memory all-answers before now
  at-stop left board ended ticks now at =
      rw (answers-are portfolio names book lines refl) (left-part Memory _ _ [] _ before now now at.answering.text refl (none-of [] now))

  -- all steps are made
  pub at-end : (board : History) (ended : Bool) (ticks : ℕ) (now : Page) → IsAt portfolio names lines [] board ended first ticks before now
      → (now ≡ written_on before all-answers) × (ended ≡ list_all ends_well (answers_of portfolio.contracts names (items_of lines))) × (ticks ≡ first + work_of portfolio (items_of lines))
  at-end board ended ticks now at =
      let told = answering-none portfolio names book lines before _ _ ended now at.answering in
      let same = sym (answers-are portfolio names book lines refl) in (
        told.0 ∙ ap (λ (rs : List Reply). written_on before (answers_text names rs)) same,
        told.1 ∙ ap (list_all ends_well) same,
        omega (arith, at.ticked, work-all portfolio lines board at.driven),
      )

  module _ (line : Line) (left : List Line) (board : History) (ended : Bool) (ticks : ℕ) (now : Page) (at : IsAt portfolio names lines (line ∷ left) board ended first ticks before now) where
    -- the next step
    next-step : (s : Step) → line.step ≡ s → IsDriven portfolio (items_of lines) (record { caller = 1; step = s } ∷ items_of left) board
    next-step s is = subst (λ (t : Step). IsDriven portfolio (items_of lines) (record { caller = 1; step = t } ∷ items_of left) board) is at.driven

    pub at-rest : IsAtRest portfolio board
    at-rest = driven-rest portfolio (items_of lines) (items_of (line ∷ left)) board at.driven

    -- ---- an entry

    pub quota-left : (entry : Obs) → line.step ≡ Append entry → HasQuota board 1
    quota-left entry is = has-quota portfolio (items_of lines) (items_of left) board entry (next-step (Append entry) is)

    module _ (entry : Obs) (is : line.step ≡ Append entry) where
      abbrev appended : History
      appended = and_then board (mark.Append 1 entry)

      driven-here : IsDriven portfolio (items_of lines) (record { caller = 1; step = Append entry } ∷ items_of left) board
      driven-here = next-step (Append entry) is

      answering-appended : Answering portfolio names book lines left (1 + length (asks_by appended 1)) (version_of appended) ended before now
      answering-appended =
          let same : 1 + length (asks_by appended 1) ≡ 1 + length (asks_by board 1) = ap (λ (n : ℕ). 1 + n) (append-asked portfolio board driven-here.quiet driven-here.closed entry) in
          let more : version_of appended ≡ version_of board + 1 = ap length (append-entries portfolio board driven-here.quiet driven-here.closed entry) ∙ length-append (entries_of board) (entry ∷ []) in
          subst (λ (n : ℕ). Answering portfolio names book lines left n (version_of appended) ended before now) (sym same)
          (subst (λ (v : ℕ). Answering portfolio names book lines left (1 + length (asks_by board 1)) v ended before now) (sym more)
          (answering-append portfolio names book lines before line left (1 + length (asks_by board 1)) (version_of board) ended now at.answering entry is))

      pub begins-still : take (version_of board) (entries_of appended) ≡ entries_of board
      begins-still = ap (take (version_of board)) (append-entries portfolio board driven-here.quiet driven-here.closed entry) ∙ take_at (entries_of board) (entry ∷ []) (version_of board) refl

      pub at-append : IsAt portfolio names lines left appended ended first ticks before now
      at-append = record {
        driven = driven-append portfolio (items_of lines) (items_of left) board entry driven-here;
        answering = answering-appended;
        ticked = omega (arith, at.ticked, ap (asks_work portfolio book []) (append-asks portfolio board driven-here.quiet driven-here.closed entry));
      }

    -- ---- an ask

    module _ (asked : Asked) (is : line.step ≡ Ask asked) where
      pub few-asked : length (asks_by board 1) < most_asks
      few-asked = omega (arith, at.answering.numbers, asks-at-ask line left asked is)

      ask-here : IsDriven portfolio (items_of lines) (record { caller = 1; step = Ask asked } ∷ items_of left) board
      ask-here = next-step (Ask asked) is

      module _ (same : names.contracts ≡ portfolio.names.contracts) where
        -- the answer over the entries so far is that over the whole book
        whole : next_answer portfolio board asked ≡ answer_to portfolio.contracts names book (next_ask board asked)
        whole = answer-same portfolio.contracts portfolio.names names (entries_of board) book (next_ask board asked) (sym same)
            (take_all (version_of board) (entries_of board) (omega arith) ∙ sym (book-begins portfolio (items_of lines) (items_of left) board (record { caller = 1; step = Ask asked } ∷ items_of left) ask-here.items))

        -- it was written in part
        pub answer-part : (stop : Failure) (next : Page) → StopsIn stop (answer_text names (printed_answer (next_answer portfolio board asked))) now next → StopsIn stop all-answers before next
        answer-part stop next part =
            rw (answers-are portfolio names book lines refl)
            (answering-part portfolio names book lines before line left (1 + length (asks_by board 1)) (version_of board) ended now at.answering stop asked next is
            (subst (λ (r : Reply). StopsIn stop (answer_text names (printed_answer r)) now next) whole part))

        -- it was written
        module _ (after : History) (ends : Bool) (next : Page) (adds : Adds asked board after) (put : next ≡ written_on now (answer_text names (printed_answer (next_answer portfolio board asked))))
            (ends-so : ends ≡ ends_well (next_answer portfolio board asked)) where
          answering-asked : Answering portfolio names book lines left (1 + length (asks_by after 1)) (version_of after) (ended && ends) before next
          answering-asked =
              let count : 1 + length (asks_by after 1) ≡ 1 + length (asks_by board 1) + 1 = omega (arith, ap length adds.asks, length-append (asks_by board 1) (next_ask board asked ∷ [])) in
              let version : version_of after ≡ version_of board = ap length adds.entries in
              subst (λ (n : ℕ). Answering portfolio names book lines left n (version_of after) (ended && ends) before next) (sym count)
              (subst (λ (v : ℕ). Answering portfolio names book lines left (1 + length (asks_by board 1) + 1) v (ended && ends) before next) (sym version)
              (answering-ask portfolio names book lines before line left (1 + length (asks_by board 1)) (version_of board) ended now at.answering asked ends next is
              (put ∙ ap (λ (r : Reply). written_on now (answer_text names (printed_answer r))) whole) (ends-so ∙ ap ends_well whole)))

          pub at-ask : (later : ℕ) → IsAtRest portfolio after
              → ((entries : List Obs) → take (version_of board) entries ≡ entries_of board → later ≡ ticks + ask_work portfolio entries (asks_by board 1) (next_ask board asked))
              → IsAt portfolio names lines left after (ended && ends) first later before next
          at-ask later rest ticked = record {
            driven = driven-ask portfolio (items_of lines) (items_of left) board after asked ask-here rest adds;
            answering = answering-asked;
            ticked = omega (
              arith,
              at.ticked,
              ticked book (book-begins portfolio (items_of lines) (items_of left) board (record { caller = 1; step = Ask asked } ∷ items_of left) ask-here.items),
              work-push portfolio book [] (asks_by board 1) (next_ask board asked),
              ap (asks_work portfolio book []) adds.asks,
            );
          }

-- the ask of a line, of those that were read for an evaluation, is for what has a name
pub line-known : (read evaluation : Evaluation) (portfolio : Accepted) (i : ℕ) (line : Line) (asked : Asked) → read ≡ evaluation → read.names.contracts ≡ read.portfolio.names.contracts
    → All (λ (l : Line). is_known read.names l.step ≡ true) read.lines → i < length read.lines → line ≡ get_or read.lines i line → line.step ≡ Ask asked → portfolio ≡ evaluation.portfolio
    → is_known portfolio.names (Ask asked) ≡ true
line-known read evaluation portfolio i line asked same contracts known within is asks of =
    let line-is = subst (λ (l : Line). is_known read.names l.step ≡ true) (sym is) (known i line within) in
    subst (λ (p : Accepted). is_known p.names (Ask asked) ≡ true) (ap (λ (v : Evaluation). v.portfolio) same ∙ sym of)
    (sym (known-same read.names read.portfolio.names asked contracts) ∙ subst (λ (s : Step). is_known read.names s ≡ true) asks line-is)
