-- What the stops of children's runs bring about. This profile's own.
use Rattle.std.specs.Prelude.{if◌then◌else◌, Bool, true, false, ℤ, int_le, int_lt, List, map, Option, Some, None}
use Rattle.std.specs.Int.{int_min}
use Rattle.std.specs.List.{filter, fold}
use Rattle.act_model.specs.Run.{Stream}
use Rattle.act_model.specs.declared.event.EventType.TheVariants.{XD}
use Rattle.act_model.specs.declared.observed.Obs.{Obs}
use Rattle.act_model.specs.declared.run.Close.{Close}
use Rattle.act_model.specs.declared.run.Close.TheVariants.{End, Missing, Overflow}
use Rattle.act_model.specs.declared.run.Row.{Row}
use Rattle.act_model.specs.declared.terms.Common.{Common}
use Rattle.act_model.specs.declared.terms.Kind.{Kind}
use Rattle.act_model.specs.declared.terms.Kind.TheVariants as kind
use Rattle.act_profile.specs.Credit.{credit_day}

-- ---- stops

-- the day of a stop; an end has none
abbrev pub stop_day : Close → Option ℤ
stop_day End = None
stop_day (Missing code day) = Some day
stop_day (Overflow day kind) = Some day

-- a day comes before another; any day comes before none
abbrev pub comes_before : Option ℤ → Option ℤ → Bool
comes_before None limit = false
comes_before (Some day) None = true
comes_before (Some day) (Some limit) = int_lt day limit

-- of two closes the one that stops earlier, and of equal days the first
abbrev pub earlier_close : Close → Close → Close
earlier_close a b = if comes_before (stop_day b) (stop_day a) then b else a

-- the chosen stop of children: the one of the least day, and of equal days the first; an end where there is none
abbrev pub chosen_close : List Stream → Close
chosen_close children = fold earlier_close End (map (λ run. run.close) children)

-- ---- the rule

-- the earlier of two days, of those that are given
abbrev pub earlier_day : Option ℤ → Option ℤ → Option ℤ
earlier_day None b = b
earlier_day (Some a) None = Some a
earlier_day (Some a) (Some b) = Some (int_min a b)

-- Z, the last day on which a swap of two contracts or a cap and floor reads its children; none where it has none
abbrev pub last_reading_day : Common → Kind → Option ℤ
last_reading_day common (kind.CAPFL capfl) = earlier_day common.termination_date capfl.maturity_date
last_reading_day common other = common.termination_date

-- a day isn't after another, or there is no other
abbrev pub is_until : Option ℤ → ℤ → Bool
is_until None day = true
is_until (Some last) day = int_le day last

-- the rows dated before a day
abbrev pub rows_before : ℤ → Stream → List Row
rows_before day run = filter (λ row. int_lt row.day day) run.rows

-- a run that is stopped on a day keeps its rows dated before it, unless it stops by itself on an earlier day
abbrev pub stopped_on : ℤ → Close → Stream → Stream
stopped_on day stop run =
    if comes_before (stop_day run.close) (Some day) then run else record { rows = rows_before day run; close = stop }

-- a run is stopped by its children's chosen stop, where that isn't after the last reading day
abbrev pub stopped_by : Option ℤ → Close → Option ℤ → Stream → Stream
stopped_by last stop None run = run
stopped_by last stop (Some day) run = if is_until last day then stopped_on day stop run else run

-- a child's stop, as that of a guarantee on the day of the credit event
abbrev pub stop_at_credit : ℤ → Close → Close
stop_at_credit credit End = End
stop_at_credit credit (Missing code day) = Missing code credit
stop_at_credit credit (Overflow day kind) = Overflow credit XD

-- a guarantee's run is stopped on the day of the credit event, where its children's chosen stop isn't after it; without a credit event it
-- reads no child
abbrev pub stopped_at_credit : Option ℤ → Close → Option ℤ → Stream → Stream
stopped_at_credit None stop day run = run
stopped_at_credit (Some credit) stop None run = run
stopped_at_credit (Some credit) stop (Some day) run =
    if int_le day credit then stopped_on credit (stop_at_credit credit stop) run else run

-- a run under the rule on children's stops, of which this one is chosen
abbrev pub under_stop : Common → Kind → List Obs → Close → Stream → Stream
under_stop common (kind.SWAPS swaps) entries stop run = stopped_by (last_reading_day common (kind.SWAPS swaps)) stop (stop_day stop) run
under_stop common (kind.CAPFL capfl) entries stop run = stopped_by (last_reading_day common (kind.CAPFL capfl)) stop (stop_day stop) run
under_stop common (kind.CEG ceg) entries stop run = stopped_at_credit (credit_day entries common ceg) stop (stop_day stop) run
under_stop common (kind.CEC cec) entries stop run = stopped_at_credit (credit_day entries common cec.guarantee) stop (stop_day stop) run
under_stop common other entries stop run = run
