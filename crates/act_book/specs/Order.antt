-- The order in which a run keeps its entries beside that of the book: rates by code and day, and then events by contract. This profile's own.
use Rattle.std.specs.Prelude.{ℕ, nat_lt, Bool, true, ℤ, pos, List}
use Rattle.std.specs.List.Sorted.{IsSortedBy, IsStableBy}
use Rattle.std.specs.declared.cmp.Ordering.{Ordering}
use Rattle.std.specs.Ordering.{nat_cmp, int_cmp, is_lt, on, then_cmp}
use Rattle.act_model.specs.declared.observed.Obs.{Obs}
use Rattle.act_model.specs.declared.observed.Obs.TheVariants.{Rate, Event}
use Rattle.act_model.specs.declared.observed.ObsKind.TheVariants.{PP}

-- rates stand before events
abbrev pub rank_of : Obs → ℕ
rank_of (Rate code day value) = 0
rank_of (Event contract kind day value) = 1

-- the number of a rate's code or of an event's contract
abbrev pub number_of : Obs → ℕ
number_of (Rate code day value) = code
number_of (Event contract kind day value) = contract

-- the day of a rate; events of a contract aren't told apart
abbrev pub day_of : Obs → ℤ
day_of (Rate code day value) = day
day_of (Event contract kind day value) = pos 0

-- how two entries stand to one another
abbrev pub order_of : Obs → Obs → Ordering
order_of = then_cmp (on rank_of nat_cmp) (then_cmp (on number_of nat_cmp) (on day_of int_cmp))

-- a rate of a code on a day, and an event of a contract, as far as the order tells them from others
abbrev pub rate_on : ℕ → ℤ → Obs
rate_on code day = Rate code day (pos 0)

abbrev pub event_of : ℕ → Obs
event_of contract = Event contract PP (pos 0) (pos 0)

-- the first stands before the second
abbrev pub before : Obs → Obs → Bool
before first second = is_lt (order_of first second)

-- an entry stands before the events of the contract
abbrev pub is_before : ℕ → Obs → Bool
is_before contract (Rate code day value) = true
is_before contract (Event c kind day value) = nat_lt c contract

-- the entries in that order; those that it doesn't tell apart stand as in the list
pub record AreSorted (entries sorted : List Obs) : Type 0 where
  pub rising : IsSortedBy before sorted
  pub stable : IsStableBy before entries sorted
