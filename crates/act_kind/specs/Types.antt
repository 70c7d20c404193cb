-- What the code answers of dates: those dates, or why there are none. The dates of each type of event follow one another.
use Rattle.std.specs.Prelude.{◌≡◌, ◌≢◌, ℕ, ◌+◌, ◌≤◌, ◌⊎◌, List, [], ◌∷◌, length, Option, Some, None, Result, Ok, Err, IsOk, IsSomeAnd, All}
use Rattle.std.specs.Global.{Vec}
use Rattle.act_model.specs.declared.event.Event.{Event}
use Rattle.act_model.specs.declared.run.PlanFault.{PlanFault}
use Rattle.act_model.specs.declared.run.PlanFault.TheVariants.{TooManyDates, DateRange, NoMemory}
use Rattle.act_model.specs.declared.terms.Common.{Common}
use Rattle.act_profile.specs.Planning.{Planned, type_events}
use Rattle.act_model.specs.Limits.{most_dates}

-- an answer of dates that may be undefined: the dates; that they are undefined; or that they are as many as a contract may have at most, or
-- more. Want of memory says nothing
abbrev pub IsAnswer : {A : Type 0} → Result (Vec A) PlanFault → Option (List A) → Type 0
IsAnswer (Ok dates) defined = defined ≡ Some dates.items
IsAnswer (Err DateRange) defined = defined ≡ None
IsAnswer (Err TooManyDates) defined = IsSomeAnd defined (λ dates. most_dates ≤ length dates)
IsAnswer (Err NoMemory) defined = Unit {0}

-- the answers of the types of events, one for each: a type is only asked for where those before it have dates
abbrev pub AreTypes : List (Result (Vec Planned) PlanFault) → List (Option (List Planned)) → Type 0
AreTypes [] [] = Unit {0}
AreTypes (answer ∷ answers) (dates ∷ types) = IsAnswer answer dates × (IsOk answer → AreTypes answers types)
AreTypes answers types = ⊥

-- the fault of a type's events, or else a later one
abbrev pub or_later : Result (List Event) PlanFault → Option PlanFault → Option PlanFault
or_later (Ok events) later = later
or_later (Err fault) later = Some fault

-- the fault that the answers come to, after so many dates of earlier types: the first answer's that is one, or that of the first dates that are
-- too many or undefined
unfoldable pub first_fault : Common → ℕ → List (Result (Vec Planned) PlanFault) → Option PlanFault
first_fault common n [] = None
first_fault common n (Err fault ∷ answers) = Some fault
first_fault common n (Ok dates ∷ answers) = or_later (type_events common n dates.items) (first_fault common (n + length dates.items) answers)

-- the first type has one date, as one that begins with its initial exchange
abbrev pub StartsWithOne : List (Option (List Planned)) → Type 0
StartsWithOne (Some (date ∷ []) ∷ types) = Unit {0}
StartsWithOne types = ⊥

-- no type has too many dates by itself
abbrev pub IsNoneTooMany : List (Result (Vec Planned) PlanFault) → Type 0
IsNoneTooMany answers = All (λ answer. answer ≢ Err TooManyDates) answers

-- a type that has as many dates as a contract may have at most has too many: it isn't the first with a date
abbrev pub IsCounted : List (Result (Vec Planned) PlanFault) → List (Option (List Planned)) → Type 0
IsCounted answers types = StartsWithOne types ⊎ IsNoneTooMany answers
