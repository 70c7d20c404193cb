-- Lines of rows that are kept one behind the other. This profile's own.
use Rattle.std.specs.Prelude.{◌≡◌, ℕ, zero, suc, ◌+◌, List, [], ◌∷◌, length, map, Option, Some, None}
use Rattle.std.specs.Arc.{arc_value}
use Rattle.std.specs.List.{All, flat_map, slice_get}
use Rattle.std.specs.declared.alloc.Global.{Global}
use Rattle.std.specs.declared.sync.Arc.{Arc}
use Rattle.act_model.specs.Names.{NameLists}
use Rattle.act_model.specs.Run.{Stream}
use Rattle.act_model.specs.declared.run.Row.{Row}
use Rattle.act_text.specs.Lines.{row_text}

-- rows, the names that their lines are written with, and the bytes in front of the lines and behind them
pub record Lines : Type 0 where
  pub names : NameLists
  pub front : List ℕ
  pub rows : List Row
  pub back : List ℕ

-- lines that are written with these names
abbrev pub AreWrittenWith : NameLists → List Lines → Type 0
AreWrittenWith names = All (λ (lines : Lines). lines.names ≡ names)

-- where each line ends, of lines one behind the other
abbrev pub ends_of : ℕ → List (List ℕ) → List ℕ
ends_of begin [] = []
ends_of begin (line ∷ lines) = (begin + length line) ∷ ends_of (begin + length line) lines

-- a text is the lines of rows one behind the other, which end there
pub record AreLines (names : NameLists) (rows : List Row) (text ends : List ℕ) : Type 0 where
  pub together : text ≡ flat_map (row_text names) rows
  pub each : ends ≡ ends_of 0 (map (row_text names) rows)

-- where the line at a place begins: where the one before it ends
abbrev pub start_at : List ℕ → ℕ → Option ℕ
start_at ends zero = Some 0
start_at ends (suc before) = slice_get ends before

-- rows of which each has the line of the other at its place, whatever the names
abbrev pub ArePrintedAlike : List Row → List Row → Type 0
ArePrintedAlike one other = (names : NameLists) → map (row_text names) one ≡ map (row_text names) other

-- the rows of a run, if there is one
abbrev pub rows_of : Option (Arc Stream Global) → List Row
rows_of None = []
rows_of (Some run) = (arc_value run).rows
