-- What clauses on the rows that a cap and floor takes say.
use Rattle.std.specs.Prelude.{ℕ, ℤ, ◌&&◌, Bool, List, Option, drop}
use Rattle.std.specs.List.{enumerate_from, filter}
use Rattle.act_model.specs.Run.{Stream}
use Rattle.act_model.specs.declared.event.EventType.TheVariants.{IP}
use Rattle.act_model.specs.declared.run.Row.{Row}
use Rattle.act_profile.specs.Dates.{is_within}
use Rattle.act_profile.specs.Legs.{PlacedRow}
use Rattle.act_profile.specs.Order.{is_type}

-- a row is interest, after the status date and not after the last day, where there is one
abbrev pub is_limited : ℤ → Option ℤ → Row → Bool
is_limited status last row = is_type row.kind IP && is_within status last row.day

-- such rows from a place on
abbrev pub limited_from : ℤ → Option ℤ → ℕ → Stream → List PlacedRow
limited_from status last place run = filter (λ row. is_limited status last row.1) (enumerate_from place (drop place run.rows))
