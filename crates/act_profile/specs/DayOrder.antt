-- Rows in the order of their days, as runs of children are handed on.
use Rattle.std.specs.Prelude.{List, All, ◌≤ℤ◌}
use Rattle.std.specs.List.{AllPairs}
use Rattle.act_model.specs.Run.{Stream}
use Rattle.act_model.specs.declared.run.Row.{Row}

-- none of the rows is dated before one that stands earlier
pub record AreInDayOrder (rows : List Row) : Type 0 where
  pub ascending : AllPairs (λ earlier later. earlier.day ≤ℤ later.day) rows

-- so it is in each of some runs
abbrev pub RunsAreInDayOrder : List Stream → Type 0
RunsAreInDayOrder runs = All (λ run. AreInDayOrder run.rows) runs
