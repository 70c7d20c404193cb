-- The text of a journal and its answers. This profile's own.
use Rattle.std.specs.Prelude.{ℕ, List, ◌++◌, length, map}
use Rattle.std.specs.Arc.{arc_value}
use Rattle.std.specs.List.{flat_map}
use Rattle.std.specs.declared.alloc.Global.{Global}
use Rattle.std.specs.declared.sync.Arc.{Arc}
use Rattle.act_model.specs.Answer.{Reply}
use Rattle.act_model.specs.Names.{NameLists}
use Rattle.act_model.specs.Run.{Stream}
use Rattle.act_model.specs.declared.journal.Item.{Item}
use Rattle.act_model.specs.declared.journal.Line.{Line}
use Rattle.act_portfolio.specs.Reading.{Accepted}
use Rattle.act_print.specs.Printed.{Transcript, printed_answer, printed_block}
use Rattle.act_print.specs.Text.{answer_text, answers_head_text, block_text, item_text, journal_head_text, text_of}
use Rattle.act_profile.specs.Answers.{answers_of}

-- ---- journals

-- the item of a step of one caller's script
abbrev pub item_of_line : Line → Item
item_of_line line = record { caller = 1; step = line.step }

-- the journal of one caller's script
abbrev pub items_of : List Line → List Item
items_of lines = map item_of_line lines

-- a journal, and the line above so many answers
abbrev pub heads_text : NameLists → List Item → ℕ → List ℕ
heads_text names items answers = journal_head_text (length items) ++ flat_map (item_text names) items ++ answers_head_text answers

-- a journal with the answers to its asks, as they are printed
abbrev pub transcript_of : Accepted → NameLists → List Item → Transcript
transcript_of portfolio names items =
    record { items = items; answers = map printed_answer (answers_of portfolio.contracts names items) }

-- the text of a journal and its answers
abbrev pub output_of : Accepted → NameLists → List Item → List ℕ
output_of portfolio names items = text_of names items (map printed_answer (answers_of portfolio.contracts names items))

-- ---- answers

-- runs that are shared, each with its contract
abbrev pub shared_runs : List (ℕ × Arc Stream Global) → List (ℕ × Stream)
shared_runs runs = map (λ run. (run.0, arc_value run.1)) runs

-- their blocks
abbrev pub runs_text : NameLists → List (ℕ × Stream) → List ℕ
runs_text names runs = flat_map (λ (run : ℕ × Stream). block_text names (printed_block run)) runs

-- the text of answers
abbrev pub answers_text : NameLists → List Reply → List ℕ
answers_text names answers = flat_map (λ answer. answer_text names (printed_answer answer)) answers
