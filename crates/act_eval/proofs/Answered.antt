-- The answers to the asks of a script, one after the other.
use Rattle.std.proofs.Common.{◌≡◌, ℕ, ◌+◌, ◌≤◌, ◌<◌, None, List, [], ◌∷◌, ◌++◌, length, length-append, map, take, refl, sym, ap, subst, ◌∙◌, append_assoc, append-nil, arith}
use Rattle.std.specs.List.{count_by}
use Rattle.std.proofs.lemmas.List.{take_all, take_at}
use Rattle.std.proofs.lemmas.List.Elements.{All-nil}
use Rattle.act_eval.specs.Driven.{Adds, IsAtRest, IsDriven, next_ask}
use Rattle.act_eval.specs.Work.{ask_work, asks_work, work_of}
use Rattle.act_eval.proofs.Answering.{answers-are, answers_from}
use Rattle.act_eval.proofs.Asks.{asks, asks-append, asks-ask, asks-at-append, asks-at-ask}
use Rattle.act_eval.proofs.Light.{few-asks}
use Rattle.act_eval.proofs.Stepping.{answer-same, append-asked, append-asks, append-entries, book-begins, driven-append, driven-ask, driven-first, driven-rest, has-quota, work-all}
use Rattle.act_eval.proofs.Working.{work-push}
use Rattle.act_history.specs.History.{History, and_then, asks_by, entries_of, journal_of, version_of}
use Rattle.act_history.specs.Legal.{HasQuota}
use Rattle.act_model.specs.Limits.{most_asks}
use Rattle.act_history.specs.declared.mark.Mark.TheVariants as mark
use Rattle.act_job.specs.Weight.{too_much_asked}
use Rattle.act_model.specs.Answer.{Reply}
use Rattle.act_model.specs.Journal.{book_of}
use Rattle.act_model.specs.Names.{NameLists}
use Rattle.act_model.specs.declared.asks.Asking.{Asking}
use Rattle.act_model.specs.declared.journal.Asked.{Asked}
use Rattle.act_model.specs.declared.journal.Item.{Item}
use Rattle.act_model.specs.declared.journal.Line.{Line}
use Rattle.act_model.specs.declared.journal.Step.{Step}
use Rattle.act_model.specs.declared.journal.Step.TheVariants as step
use Rattle.act_model.specs.declared.observed.Obs.{Obs}
use Rattle.act_portfolio.specs.Reading.{Accepted}
use Rattle.act_profile.specs.Answers.{answer_to, answers_of}
use Rattle.act_text.specs.Kept.{AreWrittenWith}
use Rattle.act_transcript.specs.KnownLines.{AreBlocksOf, AreKeptAt}
use Rattle.act_transcript.specs.Text.{items_of}
use Rattle.act_transcript.specs.declared.blocks.Blocks.{Blocks}

-- the answers so far, and those from a number and a version on to the asks of the lines that are left, are all; and asks are few
pub record Answered (portfolio : Accepted) (names : NameLists) (lines left : List Line) (number version : ℕ) (replies : List Reply) : Type 0 where
  pub all : replies ++ answers_from portfolio names (book_of (items_of lines)) number version left ≡ answers_from portfolio names (book_of (items_of lines)) 1 0 lines
  pub numbers : number + count_by asks left ≤ 4_194_305

-- none so far
pub answered-first : (portfolio : Accepted) (names : NameLists) (lines : List Line) → too_much_asked portfolio (lines ∷ []) ≡ None → Answered portfolio names lines lines 1 0 []
answered-first portfolio names lines light = record { all = refl; numbers = omega (arith, few-asks portfolio lines light) }

-- all
pub answered-last : (portfolio : Accepted) (names : NameLists) (lines : List Line) (number version : ℕ) (replies : List Reply) → Answered portfolio names lines [] number version replies
    → replies ≡ answers_of portfolio.contracts names (items_of lines)
answered-last portfolio names lines number version replies so = sym (append-nil replies) ∙ (so.all ∙ sym (answers-are portfolio names (book_of (items_of lines)) lines refl))

module _ (portfolio : Accepted) (names : NameLists) (lines left : List Line) (line : Line) (history : History) (replies : List Reply) where
  abbrev number : History → ℕ
  number h = 1 + length (asks_by h 1)

  module _ (so : Answered portfolio names lines (line ∷ left) (number history) (version_of history) replies) where
    -- behind an entry
    pub answered-append : (entry : Obs) (driven : IsDriven portfolio (items_of lines) (record { caller = 1; step = step.Append entry } ∷ items_of left) history) → line.step ≡ step.Append entry
        → Answered portfolio names lines left (number (and_then history (mark.Append 1 entry))) (version_of (and_then history (mark.Append 1 entry))) replies
    answered-append entry driven is =
        let book = book_of (items_of lines) in
        let same : number (and_then history (mark.Append 1 entry)) ≡ number history = ap (λ (n : ℕ). 1 + n) (append-asked portfolio history driven.quiet driven.closed entry) in
        let more : version_of (and_then history (mark.Append 1 entry)) ≡ version_of history + 1 = ap length (append-entries portfolio history driven.quiet driven.closed entry) ∙ length-append (entries_of history) (entry ∷ []) in
        rw (same, more) (record {
          all = subst (λ (rest : List Asking). replies ++ map (answer_to portfolio.contracts names book) rest ≡ answers_from portfolio names book 1 0 lines) (asks-append (number history) (version_of history) line left entry is) so.all;
          numbers = omega (arith, so.numbers, asks-at-append line left entry is);
        })

    -- the answer that is given to an ask
    abbrev given : Asked → Reply
    given asked = answer_to portfolio.contracts portfolio.names (entries_of history) (next_ask history asked)

    module _ (asked : Asked) (driven : IsDriven portfolio (items_of lines) (record { caller = 1; step = step.Ask asked } ∷ items_of left) history) (same : names.contracts ≡ portfolio.names.contracts) (is : line.step ≡ step.Ask asked) where
      whole : given asked ≡ answer_to portfolio.contracts names (book_of (items_of lines)) (next_ask history asked)
      whole = answer-same portfolio.contracts portfolio.names names (entries_of history) (book_of (items_of lines)) (next_ask history asked) (sym same)
          (take_all (version_of history) (entries_of history) (omega arith) ∙ sym (book-begins portfolio (items_of lines) (items_of left) history (record { caller = 1; step = step.Ask asked } ∷ items_of left) driven.items))

      pub answered-ask : (after : History) (one : Reply) (more : List Reply) → one ≡ given asked → Adds asked history after → more ≡ replies ++ one ∷ []
          → Answered portfolio names lines left (number after) (version_of after) more
      answered-ask after one more one-is adds more-is =
          let book = book_of (items_of lines) in
          let count : number after ≡ number history + 1 = omega (arith, ap length adds.asks, length-append (asks_by history 1) (next_ask history asked ∷ [])) in
          let version : version_of after ≡ version_of history = ap length adds.entries in
          let rest = answers_from portfolio names book (number history + 1) (version_of history) left in
          rw (count, version, more-is, one-is ∙ whole) (record {
            all = append_assoc replies (answer_to portfolio.contracts names book (next_ask history asked) ∷ []) rest
                ∙ subst (λ (asks : List Asking). replies ++ map (answer_to portfolio.contracts names book) asks ≡ answers_from portfolio names book 1 0 lines) (asks-ask (number history) (version_of history) line left asked is) so.all;
            numbers = omega (arith, so.numbers, asks-at-ask line left asked is);
          })

      pub few-made : length (asks_by history 1) < 4_194_304
      few-made = omega (arith, so.numbers, asks-at-ask line left asked is)

-- ---- on a board

-- the steps of lines that are left are still to be made, the asks before them are answered, and so many rows were computed for these
pub record IsMade (portfolio : Accepted) (names : NameLists) (lines left : List Line) (board : History) (replies : List Reply) (first ticks : ℕ) : Type 0 where
  pub driven : IsDriven portfolio (items_of lines) (items_of left) board
  pub answered : Answered portfolio names lines left (1 + length (asks_by board 1)) (version_of board) replies
  pub ticked : ticks ≡ first + asks_work portfolio (book_of (items_of lines)) [] (asks_by board 1)

module _ (portfolio : Accepted) (names : NameLists) (lines : List Line) (first : ℕ) where
  abbrev all-items : List Item
  all-items = items_of lines

  -- nothing was made
  pub made-first : too_much_asked portfolio (lines ∷ []) ≡ None → IsMade portfolio names lines lines (record { portfolio = portfolio; quotas = length (book_of all-items) ∷ []; marks = [] }) [] first first
  made-first light = record { driven = driven-first portfolio all-items; answered = answered-first portfolio names lines light; ticked = omega arith }

  -- all was
  pub made-last : (board : History) (replies : List Reply) (ticks : ℕ) → IsMade portfolio names lines [] board replies first ticks
      → (replies ≡ answers_of portfolio.contracts names all-items) × (entries_of board ≡ book_of all-items) × (ticks ≡ first + work_of portfolio all-items)
  made-last board replies ticks made = (
    answered-last portfolio names lines _ _ replies made.answered,
    ap book_of (sym (append-nil (journal_of board)) ∙ made.driven.items),
    omega (arith, made.ticked, work-all portfolio lines board made.driven),
  )

  module _ (line : Line) (left : List Line) (board : History) (replies : List Reply) (ticks : ℕ) (made : IsMade portfolio names lines (line ∷ left) board replies first ticks) where
    driven-here : (s : Step) → line.step ≡ s → IsDriven portfolio all-items (record { caller = 1; step = s } ∷ items_of left) board
    driven-here s is = subst (λ (t : Step). IsDriven portfolio all-items (record { caller = 1; step = t } ∷ items_of left) board) is made.driven

    pub made-rest : IsAtRest portfolio board
    made-rest = driven-rest portfolio all-items (items_of (line ∷ left)) board made.driven

    module _ (entry : Obs) (is : line.step ≡ step.Append entry) where
      abbrev appended : History
      appended = and_then board (mark.Append 1 entry)

      pub made-quota : HasQuota board 1
      made-quota = has-quota portfolio all-items (items_of left) board entry (driven-here (step.Append entry) is)

      pub made-still : take (version_of board) (entries_of appended) ≡ entries_of board
      made-still = ap (take (version_of board)) (append-entries portfolio board made.driven.quiet made.driven.closed entry) ∙ take_at (entries_of board) (entry ∷ []) (version_of board) refl

      pub made-append : IsMade portfolio names lines left appended replies first ticks
      made-append =
          let here = driven-here (step.Append entry) is in
          record {
            driven = driven-append portfolio all-items (items_of left) board entry here;
            answered = answered-append portfolio names lines left line board replies made.answered entry here is;
            ticked = omega (arith, made.ticked, ap (asks_work portfolio (book_of all-items) []) (append-asks portfolio board made.driven.quiet made.driven.closed entry));
          }

    module _ (asked : Asked) (is : line.step ≡ step.Ask asked) (same : names.contracts ≡ portfolio.names.contracts) where
      pub made-few : length (asks_by board 1) < most_asks
      made-few = few-made portfolio names lines left line board replies made.answered asked (driven-here (step.Ask asked) is) same is

      pub made-ask : (after : History) (one : Reply) (more : List Reply) (later : ℕ) → IsAtRest portfolio after → Adds asked board after
          → one ≡ answer_to portfolio.contracts portfolio.names (entries_of board) (next_ask board asked) → more ≡ replies ++ one ∷ []
          → ((book : List Obs) → take (version_of board) book ≡ entries_of board → later ≡ ticks + ask_work portfolio book (asks_by board 1) (next_ask board asked))
          → IsMade portfolio names lines left after more first later
      made-ask after one more later rest adds one-is more-is ticked =
          let here = driven-here (step.Ask asked) is in
          record {
            driven = driven-ask portfolio all-items (items_of left) board after asked here rest adds;
            answered = answered-ask portfolio names lines left line board replies made.answered asked here same is after one more one-is adds more-is;
            ticked = omega (
              arith,
              made.ticked,
              ticked (book_of all-items) (book-begins portfolio all-items (items_of left) board (record { caller = 1; step = step.Ask asked } ∷ items_of left) here.items),
              work-push portfolio (book_of all-items) [] (asks_by board 1) (next_ask board asked),
              ap (asks_work portfolio (book_of all-items) []) adds.asks,
            );
          }

-- no blocks are blocks of any board
pub no-blocks : (board : History) (blocks : Blocks) → blocks.kept.items ≡ [] → blocks.at ≡ None → AreBlocksOf board blocks
no-blocks board blocks kept at = record {
  named = omega (arith, ap length kept);
  written = subst (AreWrittenWith blocks.names.now) (sym kept) (All-nil _);
  at = subst (AreKeptAt board blocks.kept.items) (sym at) tt;
}
