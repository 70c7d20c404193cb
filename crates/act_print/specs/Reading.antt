-- Reading lines from the first to the last. This profile's own.
use Rattle.std.specs.Prelude.{ℕ, zero, suc, if◌then◌else◌, List, [], ◌∷◌, ◌++◌, length, Option, Some, None, Result, Ok, Err, codes}
use Rattle.std.specs.Str.{bytes_eq}
use Rattle.act_model.specs.Names.{NameLists}
use Rattle.act_model.specs.declared.journal.Item.{Item}
use Rattle.act_model.specs.declared.run.Close.{Close}
use Rattle.act_model.specs.Asks.{asks_of}
use Rattle.act_model.specs.Journal.{contracts_of}
use Rattle.act_print.specs.LineWords.{close_of_line, count_of_line, item_of_line, row_of_line}
use Rattle.act_print.specs.Printed.{Block, Response, Transcript}
use Rattle.act_print.specs.Text.{answers_head_text, block_head_text, answer_head_text}
use Rattle.act_model.specs.declared.asks.Asking.{Asking}
use Rattle.act_print.specs.declared.printed.PrintedRow.{PrintedRow}

-- lines, without their line feeds
abbrev pub Lines : Type 0
Lines = List (List ℕ)

-- what reading lines gives: a value and the lines behind it, or the lines from the first on that can't stand there
abbrev pub Reading : Type 0 → Type 0
Reading A = Result (A × Lines) Lines

infixl 10 ◌>>=◌
-- the next reading over what the first gives, or the first one's fault
abbrev pub ◌>>=◌ : {A B : Type 0} → Result A Lines → (A → Result B Lines) → Result B Lines
(Ok x) >>= next = next x
(Err left) >>= next = Err left

-- a line by itself, and those behind it
abbrev pub one_line : {A : Type 0} → Option A → List ℕ → Lines → Reading A
one_line None line lines = Err (line ∷ lines)
one_line (Some value) line lines = Ok (value, lines)

-- the first line, by itself
abbrev pub line_by : {A : Type 0} → (List ℕ → Option A) → Lines → Reading A
line_by read [] = Err []
line_by read (line ∷ lines) = one_line (read line) line lines

-- a line that is given, with its line feed
abbrev pub is_line : List ℕ → List ℕ → Option (Unit {0})
is_line text line = if bytes_eq (line ++ codes "\n") text then Some tt else None

-- so many items
unfoldable pub items_at : NameLists → ℕ → Lines → Reading (List Item)
items_at names zero lines = Ok ([], lines)
items_at names (suc n) lines = do
  first ← line_by (item_of_line names) lines
  others ← items_at names n first.1
  Ok (first.0 ∷ others.0, others.1)

-- a row in front of others
abbrev pub with_row : PrintedRow → Reading (List PrintedRow × Close) → Reading (List PrintedRow × Close)
with_row row others = others >>= λ read. Ok ((row ∷ read.0.0, read.0.1), read.1)

-- a line among rows: how they close, or a row in front of the others
abbrev pub row_or_close : Option Close → Option PrintedRow → List ℕ → Lines → Reading (List PrintedRow × Close) → Reading (List PrintedRow × Close)
row_or_close (Some close) row line lines others = Ok (([], close), lines)
row_or_close None (Some row) line lines others = with_row row others
row_or_close None None line lines others = Err (line ∷ lines)

-- rows, and how they close
unfoldable pub rows_at : NameLists → Lines → Reading (List PrintedRow × Close)
rows_at names [] = Err []
rows_at names (line ∷ lines) =
    row_or_close (close_of_line names line) (row_of_line names line) line lines (rows_at names lines)

-- a contract's line, its rows, and how they close
unfoldable pub block_at : NameLists → ℕ → Lines → Reading Block
block_at names contract lines = do
  head ← line_by (is_line (block_head_text names contract)) lines
  rows ← rows_at names head.1
  Ok (record { contract = contract; rows = rows.0.0; close = rows.0.1 }, rows.1)

-- the contracts of an ask
unfoldable pub blocks_at : NameLists → List ℕ → Lines → Reading (List Block)
blocks_at names [] lines = Ok ([], lines)
blocks_at names (contract ∷ contracts) lines = do
  first ← block_at names contract lines
  others ← blocks_at names contracts first.1
  Ok (first.0 ∷ others.0, others.1)

-- the answer to an ask
unfoldable pub answer_at : NameLists → Asking → Lines → Reading Response
answer_at names ask lines = do
  head ← line_by (is_line (answer_head_text ask.caller ask.number ask.version)) lines
  blocks ← blocks_at names (contracts_of names ask.asked) head.1
  Ok (record { caller = ask.caller; number = ask.number; version = ask.version; blocks = blocks.0 }, blocks.1)

-- the answers to asks
unfoldable pub answers_at : NameLists → List Asking → Lines → Reading (List Response)
answers_at names [] lines = Ok ([], lines)
answers_at names (ask ∷ asks) lines = do
  first ← answer_at names ask lines
  others ← answers_at names asks first.1
  Ok (first.0 ∷ others.0, others.1)

-- the answers to the asks of items, with the line above them
unfoldable pub replies_at : NameLists → List Item → Lines → Reading (List Response)
replies_at names items lines = do
  head ← line_by (is_line (answers_head_text (length (asks_of items)))) lines
  answers ← answers_at names (asks_of items) head.1
  Ok (answers.0, answers.1)

-- a journal
unfoldable pub journal_at : NameLists → Lines → Reading (List Item)
journal_at names lines = do
  count ← line_by count_of_line lines
  items ← items_at names count.0 count.1
  Ok (items.0, items.1)

-- a journal and its answers
unfoldable pub transcript_at : NameLists → Lines → Reading Transcript
transcript_at names lines = do
  items ← journal_at names lines
  answers ← replies_at names items.0 items.1
  Ok (record { items = items.0; answers = answers.0 }, answers.1)
