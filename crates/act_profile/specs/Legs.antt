-- Swaps of two contracts, and caps and floors: their events are rows of their children, SWAPS and CAPFL. The names are those of ACTUS; which
-- rows are taken and what they pay is this profile's.
use Rattle.std.specs.Prelude.{ℕ, ◌==◌, ◌&&◌, not, nat_lt, if◌then◌else◌, Bool, true, false, ℤ, pos, int_lt, List, [], ◌∷◌, ◌++◌, map, Option, Some, None, option_map}
use Rattle.std.specs.List.{count_by, enumerate_from, filter, flat_map, slice_get, zip}
use Rattle.std.specs.Option.{unwrap_or}
use Rattle.std.specs.Ordering.{int_eq}
use Rattle.act_model.specs.Run.{Stream}
use Rattle.act_model.specs.declared.choice.DeliverySettlement.{DeliverySettlement}
use Rattle.act_model.specs.declared.choice.DeliverySettlement.TheVariants as delivery
use Rattle.act_model.specs.declared.event.Event.{Event}
use Rattle.act_model.specs.declared.event.EventType.TheVariants.{IP, CE}
use Rattle.act_model.specs.declared.event.Source.{Source}
use Rattle.act_model.specs.declared.event.Source.TheVariants.{Leg, Net}
use Rattle.act_model.specs.declared.run.Close.TheVariants.{End}
use Rattle.act_model.specs.declared.run.Row.{Row}
use Rattle.act_model.specs.declared.terms.Capfl.{Capfl}
use Rattle.act_model.specs.declared.terms.Common.{Common}
use Rattle.act_model.specs.declared.terms.Swaps.{Swaps}
use Rattle.act_profile.specs.Dates.{is_within}
use Rattle.act_profile.specs.Formula.{magnitude, minus, opposite, signed}
use Rattle.act_profile.specs.Order.{is_type}
use Rattle.act_profile.specs.Step.{StepLine, keeps, pays}

-- ---- rows of children

-- a row with its place in its run
abbrev pub PlacedRow : Type 0
PlacedRow = ℕ × Row

-- a run without rows
abbrev pub no_rows : Stream
no_rows = record { rows = []; close = End }

-- the run of a child, without rows where there is none
abbrev pub child : List Stream → ℕ → Stream
child children n = unwrap_or (slice_get children n) no_rows

-- the rows of a run with their places
abbrev pub placed_rows : Stream → List PlacedRow
placed_rows run = enumerate_from 0 run.rows

-- the event that a child's row makes
abbrev pub leg_event : ℕ → PlacedRow → Event
leg_event leg row = record { day = row.1.day; calc = row.1.day; kind = row.1.kind; value = pos 0; source = Leg leg row.0 }

-- the event that two interest rows make together
abbrev pub net_event : PlacedRow → PlacedRow → Event
net_event first second = record { day = first.1.day; calc = first.1.day; kind = IP; value = pos 0; source = Net first.0 second.0 }

-- ---- SWAPS

-- the child that FIL is, and the one that SEL is
abbrev pub first_leg : Swaps → ℕ
first_leg swaps = if swaps.swapped then 1 else 0

abbrev pub second_leg : Swaps → ℕ
second_leg swaps = if swaps.swapped then 0 else 1

-- the rows that are taken: those after the status date but for credit events
abbrev pub taken_rows : ℤ → Stream → List PlacedRow
taken_rows status run = filter (λ row. int_lt status row.1.day && not (is_type row.1.kind CE)) (placed_rows run)

-- two interest rows of one day and currency
abbrev pub is_netted_with : PlacedRow → PlacedRow → Bool
is_netted_with a b =
    is_type a.1.kind IP && is_type b.1.kind IP && int_eq a.1.day b.1.day && (a.1.currency == b.1.currency)

-- the rows of a list that stand before a row and are netted as it is
abbrev pub earlier_like : List PlacedRow → PlacedRow → ℕ
earlier_like rows row = count_by (λ r. nat_lt r.0 row.0 && is_netted_with row r) rows

-- the partner of a row: of the interest rows of one day and currency the k-th of one leg is netted with the k-th of the other
abbrev pub partner : List PlacedRow → List PlacedRow → PlacedRow → Option PlacedRow
partner rows others row = slice_get (filter (is_netted_with row) others) (earlier_like rows row)

-- the event of a first leg's row: with its partner, where it has one
abbrev pub netted_or_alone : ℕ → PlacedRow → Option PlacedRow → Event
netted_or_alone leg row None = leg_event leg row
netted_or_alone leg row (Some other) = net_event row other

-- the event of a second leg's row, where it has no partner
abbrev pub unless_netted : ℕ → PlacedRow → Option PlacedRow → List Event
unless_netted leg row None = leg_event leg row ∷ []
unless_netted leg row (Some other) = []

-- the events of both legs, the first leg's before the second's: with S interest is netted, at the first leg's place
abbrev pub leg_events : DeliverySettlement → ℕ → ℕ → List PlacedRow → List PlacedRow → List Event
leg_events delivery.D first second firsts seconds = map (leg_event first) firsts ++ map (leg_event second) seconds
leg_events delivery.S first second firsts seconds =
    map (λ row. netted_or_alone first row (partner firsts seconds row)) firsts
    ++ flat_map (λ row. unless_netted second row (partner seconds firsts row)) seconds

-- the events that a swap makes of its children's rows
abbrev pub swaps_events : Common → Swaps → List Stream → List Event
swaps_events common swaps children =
    leg_events swaps.delivery_settlement (first_leg swaps) (second_leg swaps)
    (taken_rows common.status_date (child children (first_leg swaps))) (taken_rows common.status_date (child children (second_leg swaps)))

-- the row of a child at a place
abbrev pub row_at : List Stream → ℕ → ℕ → Option Row
row_at children leg row = slice_get (child children leg).rows row

-- the payoff of a row
abbrev pub paid : Option Row → Option ℤ
paid row = option_map (λ r. r.payoff) row

-- R times the payoff of a row
abbrev pub signed_paid : Common → Option Row → Option ℤ
signed_paid common row = option_map (signed common.contract_role) (paid row)

-- what a row of a leg pays: FIL's with the role's sign, SEL's with the opposite one
abbrev pub leg_amount : Common → Bool → Option Row → Option ℤ
leg_amount common true row = signed_paid common row
leg_amount common false row = option_map (opposite common.contract_role) (paid row)

-- what an event of the legs' rows pays: of two netted rows the difference
abbrev pub swaps_amount : Common → Swaps → List Stream → Source → Option ℤ
swaps_amount common swaps children (Leg leg row) = leg_amount common (leg == first_leg swaps) (row_at children leg row)
swaps_amount common swaps children (Net first second) =
    minus (signed_paid common (row_at children (first_leg swaps) first)) (signed_paid common (row_at children (second_leg swaps) second))
swaps_amount common swaps children other = None

-- the line of an event of the legs' rows
abbrev pub swaps_line : Common → Swaps → List Stream → Event → StepLine
swaps_line common swaps children e = record { payoff = pays (λ s. swaps_amount common swaps children e.source); change = keeps }

-- the row that an event is of: of two the first leg's
abbrev pub swaps_row : Swaps → List Stream → Source → Option Row
swaps_row swaps children (Leg leg row) = row_at children leg row
swaps_row swaps children (Net first second) = row_at children (first_leg swaps) first
swaps_row swaps children other = None

-- ---- CAPFL

-- the interest rows after the status date and not after maturity, where there is one
abbrev pub limited_rows : Common → Capfl → Stream → List PlacedRow
limited_rows common capfl run =
    filter (λ row. is_type row.1.kind IP && is_within common.status_date capfl.maturity_date row.1.day) (placed_rows run)

-- the events that a cap and floor makes of its children's rows: the k-th of the underlying with the k-th of its shadow
abbrev pub capfl_events : Common → Capfl → List Stream → List Event
capfl_events common capfl children =
    map (λ rows. net_event rows.0 rows.1) (zip (limited_rows common capfl (child children 0)) (limited_rows common capfl (child children 1)))

-- what an event of two rows pays: the magnitude of their difference, with the role's sign
abbrev pub capfl_amount : Common → List Stream → Source → Option ℤ
capfl_amount common children (Net underlying shadow) =
    option_map (signed common.contract_role) (magnitude (minus (paid (row_at children 0 underlying)) (paid (row_at children 1 shadow))))
capfl_amount common children other = None

-- the line of an event of two rows
abbrev pub capfl_line : Common → List Stream → Event → StepLine
capfl_line common children e = record { payoff = pays (λ s. capfl_amount common children e.source); change = keeps }

-- the row that an event is of: the underlying's
abbrev pub capfl_row : List Stream → Source → Option Row
capfl_row children (Net underlying shadow) = row_at children 0 underlying
capfl_row children other = None
