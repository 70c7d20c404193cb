-- What clauses on the settlement of an exercise say.
use Rattle.std.specs.Prelude.{ℤ, Option, option_and_then}
use Rattle.act_calendar.specs.Shift.{shift_of}
use Rattle.act_calendar.specs.declared.shifting.Shifted.{Shifted}
use Rattle.act_date.specs.Cycle.{plus_cycles}
use Rattle.act_date.specs.declared.cycle.Cycle.{Cycle}
use Rattle.act_model.specs.declared.terms.Common.{Common}

-- the day after a settlement period, shifted; undefined past 2299
abbrev pub settled_on : Common → Cycle → ℤ → Option Shifted
settled_on common period day =
    option_and_then (shift_of common.business_day_convention common.calendar) (plus_cycles day period 1)
