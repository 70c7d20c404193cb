-- What runs and plans hold: lists in place of vectors. ACTUS event sequences.
use Rattle.std.specs.Prelude.{◌≡◌, ℕ, ℤ, List, map, Bool, true, false}
use Rattle.act_date.specs.Fraction.{Fraction}
use Rattle.act_model.specs.declared.event.Event.{Event}
use Rattle.act_model.specs.declared.event.EventType.{EventType}
use Rattle.act_model.specs.declared.event.EventType.TheVariants.{TD, MD}
use Rattle.act_model.specs.declared.run.Close.{Close}
use Rattle.act_model.specs.declared.run.Row.{Row}
use Rattle.act_model.specs.declared.run.RowHead.{RowHead}
use Rattle.act_model.specs.declared.state.State.{State}

-- the row with a head, and with a state behind it
abbrev pub row_with : RowHead → State → Row
row_with head state = record { day = head.day; kind = head.kind; currency = head.currency; payoff = head.payoff; state = state }

-- what is printed of a row: day, type, currency and payoff, and of the state the notional, the rate and the interest accrued
pub record Cells : Type 0 where
  pub day : ℤ
  pub kind : EventType
  pub currency : ℕ
  pub payoff : ℤ
  pub notional : ℤ
  pub rate : ℤ
  pub interest : ℤ

-- what is printed of a row
abbrev pub cells_of : Row → Cells
cells_of row = record {
  day = row.day;
  kind = row.kind;
  currency = row.currency;
  payoff = row.payoff;
  notional = row.state.nt;
  rate = row.state.ipnr;
  interest = row.state.ipac;
}

-- rows of which the same is printed
abbrev pub HaveSameCells : List Row → List Row → Type 0
HaveSameCells ones others = map cells_of ones ≡ map cells_of others

-- the rows of a contract, and why there are no more
pub record Stream : Type 0 where
  pub rows : List Row
  pub close : Close

-- the scheduled events in order; of an annuity the days that redemptions and maturity go by, and the parts of a year between them
pub record EventPlan : Type 0 where
  pub events : List Event
  pub redemptions : List ℤ
  pub periods : List Fraction

-- the types of events that can end a contract
abbrev pub can_end : EventType → Bool
can_end TD = true
can_end MD = true
can_end other = false

-- an event is a termination or a maturity
abbrev pub may_end : Event → Bool
may_end event = can_end event.kind
