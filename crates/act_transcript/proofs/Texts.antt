-- The texts of blocks, of answers and of a journal, part by part.
use Rattle.std.proofs.Common.{◌≡◌, ℕ, zero, suc, ◌<◌, List, [], ◌∷◌, ◌++◌, length, map, get_or, Vec, Global, refl, sym, ap, subst, arith}
use Rattle.std.specs.List.{All, flat_map}
use Rattle.std.proofs.lemmas.List.{length-map}
use Rattle.std.proofs.lemmas.List.Concat.{flat_map-append}
use Rattle.std.proofs.lemmas.List.Folds.{flat_map-map}
use Rattle.act_engine.proofs.Lists.{all-back, all-front}
use Rattle.act_model.specs.Answer.{Reply}
use Rattle.act_model.specs.Names.{NameLists}
use Rattle.act_model.specs.Run.{Stream}
use Rattle.act_model.specs.declared.journal.Item.{Item}
use Rattle.act_model.specs.declared.run.Row.{Row}
use Rattle.act_print.specs.Printed.{printed_answer, printed_block, printed_row}
use Rattle.act_print.specs.Text.{answer_head_text, answer_text, block_head_text, block_text, printed_row_text, text_of}
use Rattle.act_text.specs.Lines.{close_text, row_text}
use Rattle.act_history.specs.History.{replies_of}
use Rattle.act_transcript.specs.Text.{answers_text, heads_text, runs_text}

-- a printed row has the text of its row
printed-rows : (names : NameLists) (rows : List Row) → flat_map (printed_row_text names) (map printed_row rows) ≡ flat_map (row_text names) rows
printed-rows names [] = refl
printed-rows names (row ∷ rows) = ap (λ (t : List ℕ). row_text names row ++ t) (printed-rows names rows)

-- the head of a block, its rows, and how they close
pub block-parts : (names : NameLists) (contract : ℕ) (run : Stream) →
    block_text names (printed_block (contract, run)) ≡ (block_head_text names contract ++ flat_map (row_text names) run.rows) ++ close_text names run.close
unfolding block_text
block-parts names contract run = rw (printed-rows names run.rows) refl

-- the head of an answer, and the blocks of its runs
pub answer-parts : (names : NameLists) (answer : Reply) → answer_text names (printed_answer answer) ≡ answer_head_text answer.caller answer.number answer.version ++ runs_text names answer.runs
unfolding answer_text
answer-parts names answer = ap (λ (t : List ℕ). answer_head_text answer.caller answer.number answer.version ++ t) (flat_map-map (block_text names) printed_block answer.runs)

-- the journal and the line above its answers, and then the answers
pub transcript-parts : (names : NameLists) (items : List Item) (answers : List Reply) →
    text_of names items (map printed_answer answers) ≡ heads_text names items (length answers) ++ answers_text names answers
unfolding text_of
transcript-parts names items answers = rw (length-map answers printed_answer, flat_map-map (answer_text names) printed_answer answers) refl

-- ---- lists of answers

-- the text of answers, and then of others
pub text-both : (names : NameLists) (first others : List Reply) → answers_text names (first ++ others) ≡ answers_text names first ++ answers_text names others
text-both names first others = flat_map-append (λ answer. answer_text names (printed_answer answer)) first others

-- what holds of all answers holds of those of one list
pub all-inside : (P : Reply → Type 0) (lists : List (Vec Reply Global)) (place : ℕ) (list : Vec Reply Global) → place < length lists → list ≡ get_or lists place list → All P (replies_of lists) → All P list.items
all-inside P [] place list within is all = absurd (omega (arith, within))
all-inside P (first ∷ lists) zero list within is all = subst (λ (l : Vec Reply Global). All P l.items) (sym is) (all-front P first.items (replies_of lists) all)
all-inside P (first ∷ lists) (suc place) list within is all = all-inside P lists place list (omega (arith, within)) is (all-back P first.items (replies_of lists) all)
