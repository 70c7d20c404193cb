-- What is observed: the value of a market object on a day, and what happened to a contract. This profile's own.
use Rattle.std.specs.Prelude.{◌≡◌, ℕ, ◌<◌, ◌&&◌, ◌==◌, if◌then◌else◌, Bool, true, false, ℤ, pos, ◌<ℤ◌, ◌≤ℤ◌, int_le, List, map, slice_get, Option, Some, None, option_map, option_and_then}
use Rattle.std.specs.Int.{int_max}
use Rattle.std.specs.Ordering.{int_eq}
use Rattle.std.specs.List.{filter, filter_map, last_or, reduce}
use Rattle.act_model.specs.declared.observed.Obs.{Obs}
use Rattle.act_model.specs.declared.observed.Obs.TheVariants.{Rate, Event}
use Rattle.act_model.specs.declared.observed.ObsKind.{ObsKind}
use Rattle.act_model.specs.declared.observed.ObsKind.TheVariants.{PP, DV, XD, DL, DQ, DF}

-- a credit event
abbrev pub is_credit_event : ObsKind → Bool
is_credit_event PP = false
is_credit_event DV = false
is_credit_event XD = false
is_credit_event DL = true
is_credit_event DQ = true
is_credit_event DF = true

-- an entry of a book: the value of a credit event is 0
abbrev pub is_entry : Obs → Bool
is_entry (Rate code day value) = true
is_entry (Event contract kind day value) = if is_credit_event kind then int_eq value (pos 0) else true

-- the day and the value of an entry, where it is a rate of the code dated not after the day t
abbrev pub rate_until : ℕ → ℤ → Obs → Option (ℤ × ℤ)
rate_until code t (Rate c day value) = if (c == code) && int_le day t then Some (day, value) else None
rate_until code t (Event c kind day value) = None

-- the rates of a code dated not after the day t, in the order of the list
abbrev pub rates_until : List Obs → ℕ → ℤ → List (ℤ × ℤ)
rates_until entries code t = filter_map (rate_until code t) entries

-- the value of the last of the rates of a day
abbrev pub last_of_day : List (ℤ × ℤ) → ℤ → Option ℤ
last_of_day rates day = option_map (λ rate. rate.1) (last_or None (filter (λ rate. int_eq rate.0 day) rates))

-- the value of the last of those rates of a code that have the greatest day not after t; none where there is none
unfoldable pub observation : List Obs → ℕ → ℤ → Option ℤ
observation entries code t =
    let rates = rates_until entries code t in
    option_and_then (last_of_day rates) (reduce int_max (map (λ rate. rate.0) rates))

-- the entry at a place is a rate of the code, with a day and a value, dated not after the day t
abbrev pub IsRateAt : List Obs → ℕ → ℤ → ℕ → ℤ → ℤ → Type 0
IsRateAt entries code t place day value = (slice_get entries place ≡ Some (Rate code day value)) × (day ≤ℤ t)

-- no entry is a rate of the code dated not after the day t
abbrev pub HasNoRate : List Obs → ℕ → ℤ → Type 0
HasNoRate entries code t = (place : ℕ) (day value : ℤ) → ¬ IsRateAt entries code t place day value

-- such a rate stands at the place; none of them has a later day, and those behind it have earlier days
pub record IsLatestRateAt (entries : List Obs) (code : ℕ) (t : ℤ) (place : ℕ) (day value : ℤ) : Type 0 where
  pub here : IsRateAt entries code t place day value
  pub latest : (other : ℕ) (d v : ℤ) → IsRateAt entries code t other d v → d ≤ℤ day
  pub last : (other : ℕ) (d v : ℤ) → IsRateAt entries code t other d v → place < other → d <ℤ day

-- the value is that of the last of the rates of the code that have the latest day not after t
abbrev pub IsLatestRate : List Obs → ℕ → ℤ → ℤ → Type 0
IsLatestRate entries code t value = (place : ℕ) × (day : ℤ) × IsLatestRateAt entries code t place day value

-- an event entry of the contract
abbrev pub is_event_of : ℕ → Obs → Bool
is_event_of contract (Rate c day value) = false
is_event_of contract (Event c kind day value) = c == contract

-- the event entries of a contract, in the order of the list
abbrev pub observed_events : List Obs → ℕ → List Obs
observed_events entries contract = filter (is_event_of contract) entries
