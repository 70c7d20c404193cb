-- What the calls below the audit answer. This profile's own.
use Rattle.std.specs.Prelude.{◌≡◌, ◌⊎◌, ◌<◌, ◌≤◌, ℕ, ◌+◌, ◌-◌, ◌^◌, true, List, [], ◌∷◌, ◌++◌, get_or, length, map, slice_set, None, Some, Vec}
use Rattle.std.specs.List.{All}
use Rattle.std.specs.declared.alloc.Global.{Global}
use Rattle.act_audit.specs.Journal.{first_past, right_text}
use Rattle.act_audit.specs.Order.{IsFirstDisorder, IsOfScripts}
use Rattle.act_audit.specs.Text.{first_difference, has_work_line, text_in}
use Rattle.act_audit.specs.declared.verdict.Verdict.{Verdict}
use Rattle.act_audit.specs.declared.verdict.Verdict.TheVariants.{Right, Wrong, Disorder}
use Rattle.act_model.specs.Answer.{Reply}
use Rattle.act_model.specs.Asks.{asks_of}
use Rattle.act_model.specs.Journal.{appends_entry, is_known}
use Rattle.act_model.specs.Limits.{most_callers}
use Rattle.act_model.specs.Names.{NameLists}
use Rattle.act_model.specs.declared.journal.Item.{Item}
use Rattle.act_model.specs.declared.journal.Line.{Line}
use Rattle.act_portfolio.specs.Reading.{Accepted}
use Rattle.act_print.specs.Faults.{IsFirstFault, IsTextOf}
use Rattle.act_print.specs.Printed.{Transcript}

-- what is true of a journal that a text has: its callers are from 1 to 16, what its steps name is named, what they append are entries, and its
-- lines can be counted
pub record AreItems (names : NameLists) (items : List Item) : Type 0 where
  pub from_one : All (λ (item : Item). 1 ≤ item.caller) items
  pub to_most : All (λ (item : Item). item.caller ≤ most_callers) items
  pub known : All (λ (item : Item). is_known names item.step ≡ true) items
  pub entries : All (λ (item : Item). appends_entry item.step ≡ true) items
  pub few : length items + 2 < 2 ^ 32

-- the answers of each caller
abbrev pub answer_lists : List (Vec Reply Global) → List (List Reply)
answer_lists lists = map (λ (replies : Vec Reply Global). replies.items) lists

-- the answers of each caller, with one more: to the next ask of a caller, of this version and with these runs
abbrev pub with_answer : List (List Reply) → ℕ → Reply → List (List Reply)
with_answer lists caller reply =
    let own = get_or lists (caller - 1) [] in
    slice_set lists (caller - 1) (own ++ record { caller = caller; number = length own + 1; version = reply.version; runs = reply.runs } ∷ [])

-- the items of a journal, and the names that its text is read with
pub record Journal : Type 0 where
  pub items : List Item
  pub names : NameLists

-- a text is the right one of a journal
pub record IsRightText (portfolio : Accepted) (names : NameLists) (text : List ℕ) (items : List Item) : Type 0 where
  pub within : first_past portfolio items ≡ None
  pub same : text ≡ right_text portfolio names items (has_work_line text)

-- the journal is too much in this line, or the text first differs there from the right one of the journal
abbrev pub DiffersAt : Accepted → NameLists → List ℕ → List Item → ℕ → Type 0
DiffersAt portfolio names text items line =
    (first_past portfolio items ≡ Some line)
    ⊎ ((first_past portfolio items ≡ None) × (line ≡ first_difference text (right_text portfolio names items (has_work_line text))))

-- what is so of a right text by the order of its journal
abbrev pub IsOrdered : List (List Line) → List Item → Verdict → Type 0
IsOrdered scripts items (Right answers) = IsOfScripts scripts items × (answers ≡ length (asks_of items))
IsOrdered scripts items (Wrong line) = ⊥
IsOrdered scripts items (Disorder line caller) = (1 ≤ length scripts) × IsFirstDisorder scripts items line caller

-- what is so of a text that begins with this journal
abbrev pub IsVerdictFor : Accepted → NameLists → List ℕ → List (List Line) → List Item → Verdict → Type 0
IsVerdictFor portfolio names text scripts items (Wrong line) =
    (¬ IsRightText portfolio names text items)
    × (IsFirstFault names (text_in text) line
    ⊎ (((printed : Transcript) × IsTextOf names (text_in text) printed) × DiffersAt portfolio names text items line))
IsVerdictFor portfolio names text scripts items verdict = IsRightText portfolio names text items × IsOrdered scripts items verdict
