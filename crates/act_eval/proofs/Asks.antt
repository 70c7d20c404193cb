-- The asks of a script, and how many there are.
use Rattle.std.proofs.Common.{◌≡◌, ℕ, ◌+◌, suc, Bool, false, cond, List, [], ◌∷◌, length, refl, ap, ◌∙◌, append-nil, arith}
use Rattle.std.specs.Prelude.{◌==◌, not}
use Rattle.std.specs.List.{count_by}
use Rattle.std.proofs.lemmas.List.{length-map}
use Rattle.std.proofs.lemmas.List.Sums.{sum_by-cons}
use Rattle.act_model.specs.Asks.{asks_of, caller_asks}
use Rattle.act_model.specs.Journal.{book_of, is_append}
use Rattle.act_model.specs.Names.{NameLists}
use Rattle.act_model.specs.declared.journal.Asked.{Asked}
use Rattle.act_model.specs.declared.journal.Line.{Line}
use Rattle.act_model.specs.declared.journal.Step.{Step}
use Rattle.act_model.specs.declared.journal.Step.TheVariants.{Append, Ask}
use Rattle.act_model.specs.declared.observed.Obs.{Obs}
use Rattle.act_model.proofs.AsksInTurn.{asks_from, asks_in_turn}
use Rattle.act_portfolio.specs.Reading.{Accepted}
use Rattle.act_profile.specs.Answers.{answers_of}
use Rattle.act_transcript.specs.Text.{items_of}

-- whether a line is an ask, and whether it appends
abbrev pub asks : Line → Bool
asks line = not (is_append line.step)

abbrev pub appends : Line → Bool
appends line = is_append line.step

-- ---- the asks of the one caller

-- a line that appends leaves the asks to those behind it, at the next version
pub asks-append : (number version : ℕ) (line : Line) (lines : List Line) (entry : Obs) → line.step ≡ Append entry →
    asks_from 1 number version (items_of (line ∷ lines)) ≡ asks_from 1 number (version + 1) (items_of lines)
asks-append number version line lines entry is = rw is refl

-- an ask is the first
pub asks-ask : (number version : ℕ) (line : Line) (lines : List Line) (asked : Asked) → line.step ≡ Ask asked →
    asks_from 1 number version (items_of (line ∷ lines))
    ≡ record { caller = 1; number = number; version = version; asked = asked } ∷ asks_from 1 (number + 1) version (items_of lines)
asks-ask number version line lines asked is = rw is refl

-- no other caller asks
none-by : (caller number version : ℕ) (line : Line) (lines : List Line) (step : Step) → line.step ≡ step → (1 == caller) ≡ false → ((v : ℕ) → asks_from caller number v (items_of lines) ≡ []) →
    asks_from caller number version (items_of (line ∷ lines)) ≡ []
none-by caller number version line lines (Append entry) is other rest = rw is (rest (version + 1))
none-by caller number version line lines (Ask asked) is other rest = rw (is, other) (rest version)

pub asks-none : (caller number version : ℕ) (lines : List Line) → (1 == caller) ≡ false → asks_from caller number version (items_of lines) ≡ []
asks-none caller number version [] other = refl
asks-none caller number version (line ∷ lines) other = none-by caller number version line lines line.step refl other (λ v. asks-none caller number v lines other)

-- so all asks are the one caller's
pub one-caller : (lines : List Line) → asks_of (items_of lines) ≡ asks_from 1 1 0 (items_of lines)
unfolding asks_of
one-caller lines =
    let none : (caller : ℕ) → (1 == caller) ≡ false → caller_asks (items_of lines) caller ≡ [] = λ caller other. asks_in_turn (items_of lines) caller ∙ asks-none caller 1 0 lines other in
    rw (asks_in_turn (items_of lines) 1, none 2 refl, none 3 refl, none 4 refl, none 5 refl, none 6 refl, none 7 refl, none 8 refl, none 9 refl, none 10 refl, none 11 refl, none 12 refl, none 13 refl, none 14 refl, none 15 refl, none 16 refl)
    (append-nil (asks_from 1 1 0 (items_of lines)))

-- ---- counts

-- one line more
count-cons : (test : Line → Bool) (line : Line) (lines : List Line) → count_by test (line ∷ lines) ≡ cond (test line) 1 0 + count_by test lines
count-cons test line lines = sum_by-cons (λ x. cond (test x) 1 0) line lines

pub asks-at-ask : (line : Line) (lines : List Line) (asked : Asked) → line.step ≡ Ask asked → count_by asks (line ∷ lines) ≡ 1 + count_by asks lines
asks-at-ask line lines asked is = count-cons asks line lines ∙ rw is refl

pub asks-at-append : (line : Line) (lines : List Line) (entry : Obs) → line.step ≡ Append entry → count_by asks (line ∷ lines) ≡ 0 + count_by asks lines
asks-at-append line lines entry is = count-cons asks line lines ∙ rw is refl

pub appends-at-ask : (line : Line) (lines : List Line) (asked : Asked) → line.step ≡ Ask asked → count_by appends (line ∷ lines) ≡ 0 + count_by appends lines
appends-at-ask line lines asked is = count-cons appends line lines ∙ rw is refl

pub appends-at-append : (line : Line) (lines : List Line) (entry : Obs) → line.step ≡ Append entry → count_by appends (line ∷ lines) ≡ 1 + count_by appends lines
appends-at-append line lines entry is = count-cons appends line lines ∙ rw is refl

-- there are as many asks as lines that ask
count-by-step : (number version : ℕ) (line : Line) (lines : List Line) (step : Step) → line.step ≡ step → ((n v : ℕ) → length (asks_from 1 n v (items_of lines)) ≡ count_by asks lines) →
    length (asks_from 1 number version (items_of (line ∷ lines))) ≡ count_by asks (line ∷ lines)
count-by-step number version line lines (Append entry) is rest =
    ap length (asks-append number version line lines entry is) ∙ omega (arith, rest number (version + 1), asks-at-append line lines entry is)
count-by-step number version line lines (Ask asked) is rest =
    ap length (asks-ask number version line lines asked is) ∙ omega (arith, rest (number + 1) version, asks-at-ask line lines asked is)

pub ask-count : (number version : ℕ) (lines : List Line) → length (asks_from 1 number version (items_of lines)) ≡ count_by asks lines
ask-count number version [] = refl
ask-count number version (line ∷ lines) = count-by-step number version line lines line.step refl (λ n v. ask-count n v lines)

-- a book has as many entries as lines that append
length-by-step : (line : Line) (lines : List Line) (step : Step) → line.step ≡ step → length (book_of (items_of lines)) ≡ count_by appends lines → length (book_of (items_of (line ∷ lines))) ≡ count_by appends (line ∷ lines)
length-by-step line lines (Append entry) is rest = omega (arith, appends-at-append line lines entry is, rest, book-append)
  where
    book-append : length (book_of (items_of (line ∷ lines))) ≡ suc (length (book_of (items_of lines)))
    book-append = rw is refl
length-by-step line lines (Ask asked) is rest = omega (arith, appends-at-ask line lines asked is, rest, book-ask)
  where
    book-ask : length (book_of (items_of (line ∷ lines))) ≡ length (book_of (items_of lines))
    book-ask = rw is refl

pub book-length : (lines : List Line) → length (book_of (items_of lines)) ≡ count_by appends lines
book-length [] = refl
book-length (line ∷ lines) = length-by-step line lines line.step refl (book-length lines)

-- there is an answer for each
pub answer-count : (portfolio : Accepted) (names : NameLists) (lines : List Line) → length (answers_of portfolio.contracts names (items_of lines)) ≡ count_by asks lines
answer-count portfolio names lines = length-map _ _ ∙ (ap length (one-caller lines) ∙ ask-count 1 0 lines)
