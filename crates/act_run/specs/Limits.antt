-- Where the runs of its children stop a contract's run: on which day, and how it closes then. This profile's own.
use Rattle.std.specs.Prelude.{if◌then◌else◌, ℤ, int_le, int_lt, List, take, Option, Some, None}
use Rattle.std.specs.List.{prefix_len}
use Rattle.act_model.specs.Run.{Stream}
use Rattle.act_model.specs.declared.event.Event.{Event}
use Rattle.act_model.specs.declared.observed.Obs.{Obs}
use Rattle.act_model.specs.declared.run.Close.{Close}
use Rattle.act_model.specs.declared.run.Close.TheVariants.{End}
use Rattle.act_model.specs.declared.terms.Common.{Common}
use Rattle.act_model.specs.declared.terms.Kind.{Kind}
use Rattle.act_model.specs.declared.terms.Kind.TheVariants as kind
use Rattle.act_profile.specs.Credit.{credit_day}
use Rattle.act_profile.specs.Stops.{is_until, last_reading_day, stop_at_credit, stop_day, stopped_on}
use Rattle.act_run.specs.declared.limit.Limit.{Limit}

-- a run that is stopped so, where it is
abbrev pub limited : Option Limit → Stream → Stream
limited None run = run
limited (Some limit) run = stopped_on limit.day limit.close run

-- a swap of two contracts or a cap and floor is stopped where its children are, by the last reading day
abbrev pub limit_until : Option ℤ → Close → Option ℤ → Option Limit
limit_until last stop None = None
limit_until last stop (Some day) = if is_until last day then Some (record { day = day; close = stop }) else None

-- a guarantee is stopped on the day of the credit event, where its children are stopped by then
abbrev pub limit_at_credit : Option ℤ → Close → Option ℤ → Option Limit
limit_at_credit None stop day = None
limit_at_credit (Some credit) stop None = None
limit_at_credit (Some credit) stop (Some day) =
    if int_le day credit then Some (record { day = credit; close = stop_at_credit credit stop }) else None

-- where a contract is stopped by the chosen stop of its children
abbrev pub limit_of : Common → Kind → List Obs → Close → Option Limit
limit_of common (kind.SWAPS swaps) entries stop = limit_until (last_reading_day common (kind.SWAPS swaps)) stop (stop_day stop)
limit_of common (kind.CAPFL capfl) entries stop = limit_until (last_reading_day common (kind.CAPFL capfl)) stop (stop_day stop)
limit_of common (kind.CEG ceg) entries stop = limit_at_credit (credit_day entries common ceg) stop (stop_day stop)
limit_of common (kind.CEC cec) entries stop = limit_at_credit (credit_day entries common cec.guarantee) stop (stop_day stop)
limit_of common other entries stop = None

-- ---- the run up to there

-- the events before the first that isn't before the day
abbrev pub before_limit : Option Limit → List Event → List Event
before_limit None events = events
before_limit (Some limit) events = take (prefix_len (λ (event : Event). int_lt event.day limit.day) events) events

-- a run of these events closes so where it hasn't stopped by itself
abbrev pub closed_so : Close → Stream → Close → Stream
closed_so close run End = record { rows = run.rows; close = close }
closed_so close run own = run

abbrev pub closed_by : Option Limit → Stream → Stream
closed_by None run = run
closed_by (Some limit) run = closed_so limit.close run run.close
