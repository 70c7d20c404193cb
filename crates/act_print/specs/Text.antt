-- The text of a journal and its answers, as bytes. This profile's own.
use Rattle.std.specs.Prelude.{ℕ, ℤ, List, [], ◌∷◌, ◌++◌, length, codes, decimal}
use Rattle.std.specs.List.{flat_map}
use Rattle.act_num.specs.Decimal.{printed}
use Rattle.act_date.specs.Text.{date_text}
use Rattle.act_model.specs.Names.{NameLists}
use Rattle.act_model.specs.declared.journal.Asked.{Asked}
use Rattle.act_model.specs.declared.journal.Asked.TheVariants.{All, One}
use Rattle.act_model.specs.declared.journal.Item.{Item}
use Rattle.act_model.specs.declared.journal.Step.{Step}
use Rattle.act_model.specs.declared.journal.Step.TheVariants.{Append, Ask}
use Rattle.act_model.specs.declared.observed.Obs.{Obs}
use Rattle.act_model.specs.declared.observed.Obs.TheVariants.{Rate, Event}
use Rattle.act_model.specs.declared.observed.ObsKind.{ObsKind}
use Rattle.act_model.specs.declared.observed.ObsKind.TheVariants.{PP, DV, XD, DL, DQ, DF}
use Rattle.act_text.specs.Lines.{cells_text, close_text, line_of, name_of}
use Rattle.act_print.specs.Printed.{Block, Response}
use Rattle.act_print.specs.declared.printed.PrintedRow.{PrintedRow}

-- the kind of an event entry; the three credit events are one kind
abbrev pub kind_text : ObsKind → List ℕ
kind_text PP = codes "PP"
kind_text DV = codes "DV"
kind_text XD = codes "XD"
kind_text DL = codes "CE"
kind_text DQ = codes "CE"
kind_text DF = codes "CE"

-- the value of an event entry: an amount, and of a credit event which one it is
abbrev pub value_text : ObsKind → ℤ → List ℕ
value_text PP value = printed value
value_text DV value = printed value
value_text XD value = printed value
value_text DL value = codes "DL"
value_text DQ value = codes "DQ"
value_text DF value = codes "DF"

-- the words of an entry
abbrev pub entry_words : NameLists → Obs → List (List ℕ)
entry_words names (Rate code day value) =
    codes "rate" ∷ name_of names.codes code ∷ date_text day ∷ printed value ∷ []
entry_words names (Event contract kind day value) =
    codes "event" ∷ name_of names.contracts contract ∷ kind_text kind ∷ date_text day ∷ value_text kind value ∷ []

-- what is asked for: a star for every named contract, or the contract
abbrev pub asked_text : NameLists → Asked → List ℕ
asked_text names All = codes "*"
asked_text names (One contract) = name_of names.contracts contract

-- the words of a step
abbrev pub step_words : NameLists → Step → List (List ℕ)
step_words names (Append entry) = entry_words names entry
step_words names (Ask asked) = codes "ask" ∷ asked_text names asked ∷ []

-- the line of an item of the journal: the caller, and what it did
unfoldable pub item_text : NameLists → Item → List ℕ
item_text names item = line_of (decimal item.caller) (step_words names item.step)

-- the line above a journal of so many items
unfoldable pub journal_head_text : ℕ → List ℕ
journal_head_text count = line_of (codes "journal") (decimal count ∷ [])

-- the line above so many answers
unfoldable pub answers_head_text : ℕ → List ℕ
answers_head_text count = line_of (codes "answers") (decimal count ∷ [])

-- the line above an answer: the caller, the number of its ask, and the version
unfoldable pub answer_head_text : ℕ → ℕ → ℕ → List ℕ
answer_head_text caller number version =
    line_of (codes "answer") (decimal caller ∷ decimal number ∷ decimal version ∷ [])

-- the line above the rows of a contract
unfoldable pub block_head_text : NameLists → ℕ → List ℕ
block_head_text names contract = line_of (codes "contract") (name_of names.contracts contract ∷ [])

-- the line of a printed row
abbrev pub printed_row_text : NameLists → PrintedRow → List ℕ
printed_row_text names row =
    cells_text names row.day row.kind row.currency row.payoff row.nt row.ipnr row.ipac

-- the lines of a contract: its head, its rows, and how they close
unfoldable pub block_text : NameLists → Block → List ℕ
block_text names block =
    block_head_text names block.contract ++ flat_map (printed_row_text names) block.rows ++ close_text names block.close

-- the lines of an answer: its head, and its contracts
unfoldable pub answer_text : NameLists → Response → List ℕ
answer_text names answer =
    answer_head_text answer.caller answer.number answer.version ++ flat_map (block_text names) answer.blocks

-- the text of a journal and its answers
unfoldable pub text_of : NameLists → List Item → List Response → List ℕ
text_of names items answers =
    journal_head_text (length items) ++ flat_map (item_text names) items
    ++ answers_head_text (length answers) ++ flat_map (answer_text names) answers
