-- The order of a contract's events, and which of them count. The order on one day and the rules are this profile's own.
use Rattle.std.specs.Prelude.{ℕ, ◌==◌, ◌&&◌, ◌||◌, not, nat_lt, if◌then◌else◌, Bool, true, false, ℤ, int_lt, List, [], ◌∷◌, Option, Some, None}
use Rattle.std.specs.List.{filter, list_any}
use Rattle.std.specs.Option.{is_some}
use Rattle.std.specs.Ordering.{int_eq}
use Rattle.act_model.specs.declared.event.Event.{Event}
use Rattle.act_model.specs.declared.event.EventType.{EventType}
use Rattle.act_model.specs.declared.event.EventType.TheVariants.{IED, PR, PP, PY, FP, PRD, TD, IP, IPCI, RRF, RR, PRF, IPCB, SC, DV, MD, CE, XD, STD}
use Rattle.act_model.specs.declared.event.Source.{Source}
use Rattle.act_model.specs.declared.event.Source.TheVariants.{Scheduled, Observed, Leg, Net}
use Rattle.act_model.specs.declared.terms.Kind.{Kind}
use Rattle.act_model.specs.Kind.{exchange_of}
use Rattle.act_profile.specs.Lists.{insert_by}

-- ---- order

-- the place of a type of events among those of one day
abbrev pub place_in_day : EventType → ℕ
place_in_day IED = 0
place_in_day PR = 1
place_in_day PP = 2
place_in_day PY = 3
place_in_day FP = 4
place_in_day PRD = 5
place_in_day TD = 6
place_in_day IP = 7
place_in_day IPCI = 8
place_in_day RRF = 9
place_in_day RR = 10
place_in_day PRF = 11
place_in_day IPCB = 12
place_in_day SC = 13
place_in_day DV = 14
place_in_day MD = 15
place_in_day CE = 16
place_in_day XD = 17
place_in_day STD = 18

-- two types are the same
abbrev pub is_type : EventType → EventType → Bool
is_type a b = place_in_day a == place_in_day b

-- an event comes before another: on an earlier day, or on the same day by its type
abbrev pub precedes : Event → Event → Bool
precedes a b = int_lt a.day b.day || (int_eq a.day b.day && nat_lt (place_in_day a.kind) (place_in_day b.kind))

-- the events by day and type; those of one day and type stay as they were
unfoldable pub in_order : List Event → List Event
in_order [] = []
in_order (event ∷ events) = insert_by precedes event (in_order events)

-- ---- which events count

-- it is an event of the contract itself, and no row of a child
abbrev pub is_own : Source → Bool
is_own (Scheduled place) = true
is_own (Observed place) = true
is_own (Leg leg row) = false
is_own (Net first second) = false

-- the MD of a loan or a plain swap ends the contract; these are the kinds that have an initial exchange
abbrev pub ends_at_maturity : Kind → Bool
ends_at_maturity kind = is_some (exchange_of kind)

-- it ends the contract: its termination, or the maturity of a loan or a plain swap
abbrev pub ends : Kind → Event → Bool
ends kind event =
    is_own event.source && (is_type event.kind TD || (is_type event.kind MD && ends_at_maturity kind))

-- the events up to the first that ends the contract
unfoldable pub up_to_end : Kind → List Event → List Event
up_to_end kind [] = []
up_to_end kind (event ∷ events) = if ends kind event then event ∷ [] else event ∷ up_to_end kind events

-- it comes before an initial exchange that is after the status date
abbrev pub is_before_exchange : ℤ → Option ℤ → ℤ → Bool
is_before_exchange status None day = false
is_before_exchange status (Some exchange) day = int_lt status exchange && int_lt day exchange

-- an event of that day counts: it is after the status date, and not before such an initial exchange
abbrev pub counts : ℤ → Kind → ℤ → Bool
counts status kind day = int_lt status day && not (is_before_exchange status (exchange_of kind) day)

-- those of some events in order that count. One that ends the contract does so even where it doesn't count itself
abbrev pub counting : ℤ → Kind → List Event → List Event
counting status kind events = filter (λ e. counts status kind e.day) (up_to_end kind events)

-- ---- purchase

-- an event comes before a purchase on a day that counts: none of the scheduled events that end the contract comes before the purchase
abbrev pub is_before_purchase : ℤ → Kind → List Event → Event → Event → Bool
is_before_purchase status kind scheduled purchase event =
    precedes event purchase && counts status kind purchase.day && not (list_any (λ e. ends kind e && precedes e purchase) scheduled)
