-- Which part of a run a correction keeps. This profile's own.
use Rattle.std.specs.Prelude.{if◌then◌else◌, ℤ, Option, Some, None, List}
use Rattle.act_model.specs.Run.{Stream}
use Rattle.act_model.specs.declared.run.Close.{Close}
use Rattle.act_model.specs.declared.run.Row.{Row}
use Rattle.act_profile.specs.Stops.{comes_before, rows_before, stop_day}

-- what is kept of a run: its rows before the cut, and whether it is whole
pub record KeptRows : Type 0 where
  pub rows : List Row
  pub close : Option Close

-- the kept rows: the whole run, close included, where there is no cut or the run stops before it, and otherwise the rows before the cut
unfoldable pub kept_of : Stream → Option ℤ → KeptRows
kept_of run None = record { rows = run.rows; close = Some run.close }
kept_of run (Some cut) =
    if comes_before (stop_day run.close) (Some cut) then record { rows = run.rows; close = Some run.close }
    else record { rows = rows_before cut run; close = None }
