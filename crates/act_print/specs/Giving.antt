-- What a reader of lines answers. This profile's own.
use Rattle.std.specs.Prelude.{◌≡◌, ℕ, ◌+◌, ◌<◌, ⊤, true, false, nat_eq, Bool, List, [], ◌∷◌, ◌++◌, length, codes, Option, Some, None, Result, Ok, Err}
use Rattle.std.specs.List.{ends_with}
use Rattle.act_model.specs.Names.{NameLists}
use Rattle.act_model.specs.declared.journal.Item.{Item}
use Rattle.act_print.specs.Faults.{lines_of}
use Rattle.act_print.specs.LineWords.{item_of_line}
use Rattle.act_print.specs.Printed.{Transcript}
use Rattle.act_print.specs.Reading.{Lines, journal_at, line_by, rows_at, with_row}
use Rattle.act_print.specs.declared.fault.TextFault.{TextFault}
use Rattle.act_print.specs.declared.fault.TextFault.TheVariants.{NotText, NoMemory}
use Rattle.act_print.specs.declared.line_fault.LineFault.{LineFault}
use Rattle.act_print.specs.declared.line_fault.LineFault.TheVariants as halt
use Rattle.act_print.specs.declared.reader.Next.{Next}
use Rattle.act_print.specs.declared.reader.Next.TheVariants.{Row, Last}

-- the fault at the line that is left in front; want of memory says nothing
abbrev pub Fails : {A : Type 0} → LineFault → Lines → Result A Lines → Type 0
Fails halt.Wrong left read = read ≡ Err left
Fails halt.NoMemory left read = ⊤

-- what was answered, seen by `view`, and the lines that are left, are what reading gives
abbrev pub Gives : {X A : Type 0} → (X → A) → Result X LineFault → Lines → Result (A × Lines) Lines → Type 0
Gives view (Ok x) left read = read ≡ Ok (view x, left)
Gives view (Err stop) left read = Fails stop left read

-- what was answered of a line among rows
abbrev pub GivesNext : NameLists → Lines → Result Next LineFault → Lines → Type 0
GivesNext names lines (Ok (Row row)) left = (rows_at names lines ≡ with_row row (rows_at names left)) × (length left < length lines)
GivesNext names lines (Ok (Last close)) left = rows_at names lines ≡ Ok (([], close), left)
GivesNext names lines (Err stop) left = Fails stop left (rows_at names lines)

-- what was answered of an item that is put behind others
abbrev pub GivesItem : NameLists → List Item → Lines → Result (Unit {0}) LineFault → List Item → Lines → Type 0
GivesItem names old lines (Ok done) new left = (item : Item) × (line_by (item_of_line names) lines ≡ Ok (item, left)) × (new ≡ old ++ item ∷ [])
GivesItem names old lines (Err stop) new left = Fails stop left (line_by (item_of_line names) lines)

-- the number of the line that is left in front, of so many lines
abbrev pub PointsAt : Lines → Lines → TextFault → Type 0
PointsAt lines left (NotText number) = number + length left ≡ length lines + 1
PointsAt lines left NoMemory = ⊥

-- the last line has a line feed
abbrev pub is_ended : List ℕ → Bool
is_ended bytes = ends_with nat_eq bytes (codes "\n")

-- what is read is given where no line is left and the last has a line feed, else the line that is left in front
abbrev pub Finishes : List ℕ → Lines → Transcript → Result Transcript TextFault → Type 0
Finishes bytes left read (Ok printed) = (printed ≡ read) × (left ≡ []) × (is_ended bytes ≡ true)
Finishes bytes left read (Err fault) = PointsAt (lines_of bytes) left fault × (left ≡ [] → is_ended bytes ≡ false)

-- the lines begin with a journal of these items, or with none
abbrev pub BeginsWithJournal : NameLists → List ℕ → Option (List Item) → Type 0
BeginsWithJournal names bytes (Some items) = (rest : Lines) × (journal_at names (lines_of bytes) ≡ Ok (items, rest))
BeginsWithJournal names bytes None = (left : Lines) × (journal_at names (lines_of bytes) ≡ Err left)
