-- What is left of a script to be answered, and to be written.
use Rattle.std.proofs.Common.{◌≡◌, ℕ, ◌+◌, ◌≤◌, Bool, true, List, [], ◌∷◌, ◌++◌, length, map, None, sym, ap, ◌∙◌, refl, subst, arith}
use Rattle.std.specs.Prelude.{◌&&◌}
use Rattle.std.specs.List.{count_by, list_all}
use Rattle.std.proofs.Math.Bool.{and_assoc, and-true}
use Rattle.act_engine.specs.Writing.{StopsIn}
use Rattle.act_engine.specs.declared.writing.Failure.{Failure}
use Rattle.act_engine.proofs.Texts.{Left, left-all, left-next, left-none, left-part}
use Rattle.act_io.specs.Page.{Page, written_on}
use Rattle.act_job.specs.Weight.{too_much_asked}
use Rattle.act_model.specs.Answer.{Reply}
use Rattle.act_model.specs.Journal.{book_of}
use Rattle.act_model.specs.Names.{NameLists}
use Rattle.act_model.specs.declared.asks.Asking.{Asking}
use Rattle.act_model.specs.declared.journal.Asked.{Asked}
use Rattle.act_model.specs.declared.journal.Line.{Line}
use Rattle.act_model.specs.declared.journal.Step.TheVariants.{Append, Ask}
use Rattle.act_model.specs.declared.observed.Obs.{Obs}
use Rattle.act_model.proofs.AsksInTurn.{asks_from}
use Rattle.act_portfolio.specs.Reading.{Accepted}
use Rattle.act_print.specs.Printed.{printed_answer}
use Rattle.act_print.specs.Text.{answer_text}
use Rattle.act_profile.specs.Answers.{answer_to, answers_of}
use Rattle.act_transcript.specs.Ends.{ends_well}
use Rattle.act_transcript.specs.Text.{answers_text, heads_text, items_of, output_of}
use Rattle.act_transcript.proofs.Texts.{transcript-parts}
use Rattle.act_eval.proofs.Asks.{answer-count, appends, appends-at-append, appends-at-ask, asks, asks-append, asks-ask, asks-at-append, asks-at-ask, book-length, one-caller}
use Rattle.act_eval.proofs.Light.{few-asks}

-- the answers to the asks of lines, from a number and a version on
abbrev pub answers_from : Accepted → NameLists → List Obs → ℕ → ℕ → List Line → List Reply
answers_from portfolio names book number version lines = map (answer_to portfolio.contracts names book) (asks_from 1 number version (items_of lines))

pub answers-are : (portfolio : Accepted) (names : NameLists) (book : List Obs) (lines : List Line) → book ≡ book_of (items_of lines) → answers_of portfolio.contracts names (items_of lines) ≡ answers_from portfolio names book 1 0 lines
answers-are portfolio names book lines is =
    ap (map (answer_to portfolio.contracts names (book_of (items_of lines)))) (one-caller lines) ∙ ap (λ (b : List Obs). answers_from portfolio names b 1 0 lines) (sym is)

-- of the answers of a script those of these lines are still to be written; with those before, all end in `end` or don't
pub record Answering (portfolio : Accepted) (names : NameLists) (book : List Obs) (lines left : List Line) (number version : ℕ) (ended : Bool) (before now : Page) : Type 0 where
  pub text : Left (answers_text names (answers_from portfolio names book 1 0 lines)) (answers_text names (answers_from portfolio names book number version left)) before now
  pub ends : (ended && list_all ends_well (answers_from portfolio names book number version left)) ≡ list_all ends_well (answers_from portfolio names book 1 0 lines)
  pub numbers : number + count_by asks left ≤ 4_194_305
  pub versions : version + count_by appends left ≡ length book

module _ (portfolio : Accepted) (names : NameLists) (book : List Obs) (lines : List Line) (before : Page) where
  abbrev answers : ℕ → ℕ → List Line → List Reply
  answers number version left = answers_from portfolio names book number version left

  -- nothing is written yet
  pub answering-all : too_much_asked portfolio (lines ∷ []) ≡ None → book ≡ book_of (items_of lines) → Answering portfolio names book lines lines 1 0 true before before
  answering-all light is = record {
    text = left-all _ before;
    ends = refl;
    numbers = omega (arith, few-asks portfolio lines light);
    versions = omega (arith, book-length lines, ap length is);
  }

  module _ (line : Line) (left : List Line) (number version : ℕ) (ended : Bool) (now : Page) (answering : Answering portfolio names book lines (line ∷ left) number version ended before now) where
    -- behind a line that appends
    pub answering-append : (entry : Obs) → line.step ≡ Append entry → Answering portfolio names book lines left number (version + 1) ended before now
    answering-append entry is = record {
      text = subst (λ (rest : List Asking). Left (answers_text names (answers 1 0 lines)) (answers_text names (map (answer_to portfolio.contracts names book) rest)) before now)
          (asks-append number version line left entry is) answering.text;
      ends = ap (λ (rest : List Asking). ended && list_all ends_well (map (answer_to portfolio.contracts names book) rest)) (sym (asks-append number version line left entry is)) ∙ answering.ends;
      numbers = omega (arith, answering.numbers, asks-at-append line left entry is);
      versions = omega (arith, answering.versions, appends-at-append line left entry is);
    }

    -- the answer to an ask
    abbrev answer : Asked → Reply
    answer asked = answer_to portfolio.contracts names book (record { caller = 1; number = number; version = version; asked = asked })

    pub answers-next : (asked : Asked) → line.step ≡ Ask asked → answers number version (line ∷ left) ≡ answer asked ∷ answers (number + 1) version left
    answers-next asked is = ap (map (answer_to portfolio.contracts names book)) (asks-ask number version line left asked is)

    -- behind an ask whose answer was written
    pub answering-ask : (asked : Asked) (ends : Bool) (next : Page) → line.step ≡ Ask asked → next ≡ written_on now (answer_text names (printed_answer (answer asked))) →
        ends ≡ ends_well (answer asked) → Answering portfolio names book lines left (number + 1) version (ended && ends) before next
    answering-ask asked ends next is put ended_so = record {
      text = left-next _ _ _ _ _ _ _ answering.text (ap (answers_text names) (answers-next asked is)) put;
      ends = and_assoc ended ends (list_all ends_well (answers (number + 1) version left))
          ∙ (ap (λ (b : Bool). ended && (b && list_all ends_well (answers (number + 1) version left))) ended_so
          ∙ (ap (λ (rest : List Reply). ended && list_all ends_well rest) (sym (answers-next asked is)) ∙ answering.ends));
      numbers = omega (arith, answering.numbers, asks-at-ask line left asked is);
      versions = omega (arith, answering.versions, appends-at-ask line left asked is);
    }

    -- an answer was written in part
    pub answering-part : (stop : Failure) (asked : Asked) (next : Page) → line.step ≡ Ask asked → StopsIn stop (answer_text names (printed_answer (answer asked))) now next →
        StopsIn stop (answers_text names (answers 1 0 lines)) before next
    answering-part stop asked next is part = left-part stop _ _ _ _ _ _ _ answering.text (ap (answers_text names) (answers-next asked is)) part

    -- the version that comes next is one of the book
    pub version-fits : (entry : Obs) → line.step ≡ Append entry → version + 1 ≤ length book
    version-fits entry is = omega (arith, answering.versions, appends-at-append line left entry is)

  -- all is written
  pub answering-none : (number version : ℕ) (ended : Bool) (now : Page) → Answering portfolio names book lines [] number version ended before now →
      (now ≡ written_on before (answers_text names (answers 1 0 lines))) × (ended ≡ list_all ends_well (answers 1 0 lines))
  answering-none number version ended now answering = (left-none _ _ before now answering.text refl, sym (and-true ended) ∙ answering.ends)

-- ---- the whole text

-- the journal and the line above its answers, and then the answers
pub text-parts : (portfolio : Accepted) (names : NameLists) (lines : List Line) →
    output_of portfolio names (items_of lines) ≡ heads_text names (items_of lines) (count_by asks lines) ++ answers_text names (answers_of portfolio.contracts names (items_of lines))
text-parts portfolio names lines =
    let answers = answers_of portfolio.contracts names (items_of lines) in
    transcript-parts names (items_of lines) answers ∙ ap (λ (n : ℕ). heads_text names (items_of lines) n ++ answers_text names answers) (answer-count portfolio names lines)
