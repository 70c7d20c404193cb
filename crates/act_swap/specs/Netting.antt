-- What clauses on the rows of a swap's legs say.
use Rattle.std.specs.Prelude.{◌≡◌, ◌-◌, ◌≤◌, ℕ, not, ◌&&◌, ℤ, int_lt, Bool, List, [], ◌∷◌, Option, Some, None, option_map, slice_get}
use Rattle.std.specs.List.{flat_map, prefix_len}
use Rattle.act_model.specs.Run.{Stream}
use Rattle.act_model.specs.declared.event.Event.{Event}
use Rattle.act_model.specs.declared.event.EventType.TheVariants.{CE}
use Rattle.act_model.specs.declared.run.Row.{Row}
use Rattle.act_profile.specs.Legs.{PlacedRow, is_netted_with, leg_event, net_event, partner, taken_rows}
use Rattle.act_profile.specs.Order.{is_type}
use Rattle.act_swap.specs.declared.netting.Side.{Side}
use Rattle.act_swap.specs.declared.netting.Starts.{Starts}
use Rattle.act_swap.specs.declared.netting.Side.TheVariants.{First, Second}

-- a row is taken: it is after the status date, and no credit event
abbrev pub is_taken : ℤ → Row → Bool
is_taken status row = int_lt status row.day && not (is_type row.kind CE)

-- two rows are netted where they stand in different legs: both are interest of one day and currency
abbrev pub is_like : Row → Row → Bool
is_like a b = is_netted_with (0, a) (0, b)

-- how many rows stand before the first that isn't before a day
abbrev pub earlier_rows : ℤ → Stream → ℕ
earlier_rows day run = prefix_len (λ row. int_lt row.day day) run.rows

-- what is known before the row at a place: at the first one nothing, and at a later one where the rows of the day of the row before it begin
abbrev pub AreBefore : Stream → Stream → ℕ → Option Starts → Type 0
AreBefore run other place None = place ≡ 0
AreBefore run other place (Some starts) =
    (1 ≤ place) × ((row : Row) × (slice_get run.rows (place - 1) ≡ Some row) × (row.day ≡ starts.day)) × (starts.from ≡ earlier_rows starts.day run) × (starts.other_from ≡ earlier_rows starts.day other)

-- the place of a row's partner, where it has one
abbrev pub partner_place : List PlacedRow → List PlacedRow → PlacedRow → Option ℕ
partner_place rows others row = option_map (λ found. found.0) (partner rows others row)

-- the events that a row of a netted leg makes, by the place of its partner
abbrev pub row_events : Side → ℕ → PlacedRow → Option ℕ → List Event
row_events First leg row None = leg_event leg row ∷ []
row_events First leg row (Some other) = net_event row (other, row.1) ∷ []
row_events Second leg row None = leg_event leg row ∷ []
row_events Second leg row (Some other) = []

-- the same by the rows that are taken of both legs
abbrev pub events_beside : Side → ℕ → ℤ → Stream → Stream → PlacedRow → List Event
events_beside side leg status run other row = row_events side leg row (partner_place (taken_rows status run) (taken_rows status other) row)

-- the events that the rows of a netted leg make
abbrev pub netted_events : Side → ℕ → ℤ → Stream → Stream → List Event
netted_events side leg status run other = flat_map (events_beside side leg status run other) (taken_rows status run)
