-- What is printed of a journal and its answers can be read back.
use Rattle.std.proofs.Common.{◌≡◌, ℕ, zero, suc, ◌<◌, List, [], ◌∷◌, length, map, take, Option, Some, None, IfSome, refl, ap}
use Rattle.std.specs.List.{AllByRecursion}
use Rattle.std.proofs.lemmas.Option.{slice_get-get_or}
use Rattle.act_bounds.specs.Bounds.{CloseHolds, RowHolds, RunHolds}
use Rattle.act_bounds.proofs.Runs.{runs_hold}
use Rattle.act_model.specs.Asks.{asks_of}
use Rattle.act_model.specs.Bounds.{EntryIsBounded}
use Rattle.act_model.specs.Journal.{book_of, contracts_of, entry_of}
use Rattle.act_model.specs.Names.{AreNames, NameLists}
use Rattle.act_model.specs.Run.{Stream}
use Rattle.act_model.specs.declared.asks.Asking.{Asking}
use Rattle.act_model.specs.declared.journal.Item.{Item}
use Rattle.act_model.specs.declared.journal.Step.{Step}
use Rattle.act_model.specs.declared.journal.Step.TheVariants.{Append, Ask}
use Rattle.act_model.specs.declared.observed.Obs.{Obs}
use Rattle.act_model.specs.declared.observed.Obs.TheVariants.{Event, Rate}
use Rattle.act_model.specs.declared.run.Close.{Close}
use Rattle.act_model.specs.declared.run.Close.TheVariants.{End, Missing, Overflow}
use Rattle.act_model.specs.declared.run.Row.{Row}
use Rattle.act_portfolio.specs.Reading.{Accepted}
use Rattle.act_print.specs.Conditions.{IsBlock, IsClose, IsItem, IsJournal, IsNumberOf, IsRow, IsStep, IsTranscript, due_in_answer, due_to_ask}
use Rattle.act_print.specs.Printed.{printed_answer, printed_block, printed_row}
use Rattle.act_profile.specs.Answers.{answer_to}
use Rattle.act_profile.specs.Printable.{ArePrintable}
use Rattle.act_profile.specs.Run.{Contracts, run_of}
use Rattle.act_transcript.specs.Text.{transcript_of}

-- ---- names

-- a number below the count of names is that of a name
pub number-of : (names : List (List ℕ)) (number : ℕ) → AreNames names → number < length names → IsNumberOf names number
number-of names number are below =
    let at = slice_get-get_or names number [] below in
    record { name = rw at (are.named number _ at); place = rw at (are.numbered number _ at) }

-- ---- entries

-- what a step of a journal appends has a day and a number
step-bounded : (names : NameLists) (step : Step) → IsStep names step → IfSome (entry_of step) EntryIsBounded
step-bounded names (Append (Rate code day value)) is = (is.1, is.2)
step-bounded names (Append (Event contract kind day value)) is = (is.1, is.2)
step-bounded names (Ask asked) is = tt

book-by : (item : Item) (items : List Item) (entry : Option Obs) → entry_of item.step ≡ entry → IfSome entry EntryIsBounded → AllByRecursion EntryIsBounded (book_of items) → AllByRecursion EntryIsBounded (book_of (item ∷ items))
book-by item items None is bounded rest = rw is rest
book-by item items (Some entry) is bounded rest = rw is (bounded, rest)

-- so the entries of its book have
book-bounded : (names : NameLists) (items : List Item) → AllByRecursion (IsItem names) items → AllByRecursion EntryIsBounded (book_of items)
book-bounded names [] are = tt
book-bounded names (item ∷ items) are =
    book-by item items (entry_of item.step) refl (step-bounded names item.step are.0.step) (book-bounded names items are.1)

take-bounded : (n : ℕ) (entries : List Obs) → AllByRecursion EntryIsBounded entries → AllByRecursion EntryIsBounded (take n entries)
take-bounded zero entries are = tt
take-bounded (suc n) [] are = tt
take-bounded (suc n) (entry ∷ entries) are = (are.0, take-bounded n entries are.1)

-- ---- answers

module _ (names : NameLists) (codes : AreNames names.codes) (currencies : AreNames names.currencies) where
  rows-are : (rows : List Row) → AllByRecursion (RowHolds (length names.currencies)) rows → AllByRecursion (IsRow names) (map printed_row rows)
  rows-are [] hold = tt
  rows-are (row ∷ rows) hold = (
    record {
      day = hold.0.day;
      currency = number-of names.currencies row.currency currencies hold.0.currency;
      payoff = hold.0.payoff;
      nt = hold.0.nt;
      ipnr = hold.0.ipnr;
      ipac = hold.0.ipac;
    },
    rows-are rows hold.1,
  )

  close-is : (close : Close) → CloseHolds (length names.codes) close → IsClose names close
  close-is End holds = tt
  close-is (Missing code day) holds = (number-of names.codes code codes holds.0, holds.1)
  close-is (Overflow day kind) holds = holds

  -- the block of a run that holds
  block-is : (contract : ℕ) (run : Stream) → RunHolds (length names.codes) (length names.currencies) run → IsBlock names (printed_block (contract, run))
  block-is contract run holds = record { rows = rows-are run.rows holds.rows; close = close-is run.close holds.close }

  module _ (contracts : Contracts) (printable : ArePrintable (length names.codes) (length names.currencies) contracts) where
    blocks-are : (entries : List Obs) → AllByRecursion EntryIsBounded entries → (asked : List ℕ) → AllByRecursion (IsBlock names) (map printed_block (map (λ (c : ℕ). (c, run_of contracts entries c)) asked))
    blocks-are entries bounded [] = tt
    blocks-are entries bounded (c ∷ asked) = (
      block-is c (run_of contracts entries c) (runs_hold (length names.codes) (length names.currencies) contracts entries c printable bounded),
      blocks-are entries bounded asked,
    )

    -- the answers to asks, over entries with days and numbers
    answers-are : (entries : List Obs) → AllByRecursion EntryIsBounded entries → (asks : List Asking) →
        AllByRecursion (λ answer. AllByRecursion (IsBlock names) answer.blocks) (map printed_answer (map (answer_to contracts names entries) asks))
    answers-are entries bounded [] = tt
    answers-are entries bounded (ask ∷ asks) = (
      blocks-are (take ask.version entries) (take-bounded ask.version entries bounded) (contracts_of names ask.asked),
      answers-are entries bounded asks,
    )

contracts-due : (contracts : Contracts) (entries : List Obs) (asked : List ℕ) → map (λ block. block.contract) (map printed_block (map (λ (c : ℕ). (c, run_of contracts entries c)) asked)) ≡ asked
contracts-due contracts entries [] = refl
contracts-due contracts entries (c ∷ asked) = ap (λ (cs : List ℕ). c ∷ cs) (contracts-due contracts entries asked)

-- what is fixed of answers is what their asks fix
answers-due : (contracts : Contracts) (names : NameLists) (entries : List Obs) (asks : List Asking) →
    map due_in_answer (map printed_answer (map (answer_to contracts names entries) asks)) ≡ map (due_to_ask names) asks
answers-due contracts names entries [] = refl
answers-due contracts names entries (ask ∷ asks) =
    rw (contracts-due contracts (take ask.version entries) (contracts_of names ask.asked), answers-due contracts names entries asks) refl

-- ---- transcripts

-- a journal that can be printed and its answers, where the portfolio can be printed
pub transcript-is : (portfolio : Accepted) (names : NameLists) (items : List Item) → AreNames names.codes → AreNames names.currencies →
    ArePrintable (length names.codes) (length names.currencies) portfolio.contracts → IsJournal names items → IsTranscript names (transcript_of portfolio names items)
transcript-is portfolio names items codes currencies printable journal = record {
  few = journal.few;
  items = journal.each;
  due = answers-due portfolio.contracts names (book_of items) (asks_of items);
  blocks = answers-are names codes currencies portfolio.contracts printable (book_of items) (book-bounded names items journal.each) (asks_of items);
}
