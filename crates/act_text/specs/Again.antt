-- The line of a row that is written in place of another. This profile's own.
use Rattle.std.specs.Prelude.{◌≡◌, ℕ, ◌≤◌, List, ◌∷◌, [], drop, length, Option, Some, None}
use Rattle.act_num.specs.Decimal.{printed}
use Rattle.act_model.specs.Names.{NameLists}
use Rattle.act_model.specs.declared.run.Row.{Row}
use Rattle.act_text.specs.Lines.{name_of, rest_of_line, type_text}
use Rattle.act_text.specs.declared.row.OtherCells.{OtherCells}

-- a line, and the names that it is written with
pub record PrintedLine : Type 0 where
  pub names : NameLists
  pub bytes : List ℕ

-- what is printed of a row but its day
abbrev pub other_cells : Row → OtherCells
other_cells row = record {
  kind = row.kind;
  currency = row.currency;
  payoff = row.payoff;
  notional = row.state.nt;
  rate = row.state.ipnr;
  interest = row.state.ipac;
}

-- the text of it, which stands behind the day
abbrev pub other_cells_text : NameLists → OtherCells → List ℕ
other_cells_text names cells =
    rest_of_line (type_text cells.kind ∷ name_of names.currencies cells.currency ∷ printed cells.payoff ∷ printed cells.notional ∷ printed cells.rate ∷ printed cells.interest ∷ [])

-- where there was a row, a line has ten bytes, for a day, and then the text of the row's other cells
abbrev pub EndsAs : NameLists → Option OtherCells → List ℕ → Type 0
EndsAs names None line = Unit {0}
EndsAs names (Some cells) line = (10 ≤ length line) × (drop 10 line ≡ other_cells_text names cells)
