-- The journal of a text, and the right text of a journal. This profile's own.
use Rattle.std.specs.Prelude.{◌≡◌, ℕ, ◌+◌, ◌==◌, nat_lt, ◌&&◌, if◌then◌else◌, Bool, List, [], ◌∷◌, count_by, length, map, take, Option, option_map}
use Rattle.std.specs.List.{enumerate_from, find, list_all, range_with_len}
use Rattle.std.specs.Option.{option_or}
use Rattle.act_model.specs.Asks.{appends}
use Rattle.act_model.specs.Limits.{most_entries}
use Rattle.act_model.specs.Names.{NameLists}
use Rattle.act_model.specs.declared.journal.Item.{Item}
use Rattle.act_model.specs.declared.journal.Line.{Line}
use Rattle.act_portfolio.specs.Reading.{Accepted}
use Rattle.act_print.specs.Faults.{IsTextOf}
use Rattle.act_print.specs.Printed.{Transcript}
use Rattle.act_eval.specs.Evaluation.{eval_text}
use Rattle.act_job.specs.Weight.{too_much_asked}
use Rattle.act_transcript.specs.Text.{output_of}

-- the bytes are the text of this journal, with whatever answers
pub record IsTextOfJournal (names : NameLists) (bytes : List ℕ) (items : List Item) : Type 0 where
  pub printed : Transcript
  pub text : IsTextOf names bytes printed
  pub journal : printed.items ≡ items

-- ---- what is too much

-- the line of a text in which the item at a place of the journal stands: the first is behind the line with their count
abbrev pub line_at : ℕ → ℕ
line_at place = place + 2

-- the steps of a journal, in its order, as the lines of one script, each with its number in the text
abbrev pub one_script : List Item → List Line
one_script items = map (λ (at : ℕ × Item). record { step = at.1.step; line = at.0 }) (enumerate_from 2 items)

-- the line of the first entry that a book has no room for
abbrev pub entry_past : List Item → Option ℕ
entry_past items =
    option_map line_at (find (λ place. nat_lt most_entries (count_by appends (take (place + 1) items))) (range_with_len 0 (length items)))

-- the line of the first ask up to which asks weigh more than `actus` takes
abbrev pub ask_past : Accepted → List Item → Option ℕ
ask_past portfolio items = option_map (λ (ask : ℕ × ℕ). ask.1) (too_much_asked portfolio (one_script items ∷ []))

-- the first line with which a journal is more than `actus` takes: an entry's, or where all have room an ask's
abbrev pub first_past : Accepted → List Item → Option ℕ
first_past portfolio items = option_or (entry_past items) (ask_past portfolio items)

-- ---- the right text

-- the one caller of `eval` made all steps
abbrev pub is_of_one_caller : List Item → Bool
is_of_one_caller items = list_all (λ (item : Item). item.caller == 1) items

-- the steps of a journal as those of one caller
abbrev pub as_one_caller : List Item → List Item
as_one_caller items = map (λ (item : Item). record { caller = 1; step = item.step }) items

-- the text of a journal and of the right answers to its asks; and behind it, where that is wanted and one caller made all steps, its line of work
abbrev pub right_text : Accepted → NameLists → List Item → Bool → List ℕ
right_text portfolio names items with_work =
    if with_work && is_of_one_caller items then eval_text portfolio names items else output_of portfolio names items
