-- Terms that are required, that may be left out, and that have a bound. This profile's own.
use Rattle.std.specs.Prelude.{ℕ, ℤ, pos, int_le, int_lt, if◌then◌else◌, Bool, List, Option, Some, None, Result, Ok, Err}
use Rattle.act_date.specs.declared.cycle.Cycle.{Cycle}
use Rattle.act_json.specs.Fields.{cycle_field, day_field, decimal_field, field_of, meaning_of}
use Rattle.act_json.specs.declared.fault.JsonFault.{JsonFault}
use Rattle.act_json.specs.declared.fault.JsonFault.TheVariants as json
use Rattle.act_terms.specs.Fault.{fault_at, refused}
use Rattle.act_terms.specs.declared.fault.TermCause.TheVariants.{MissingTerm}
use Rattle.act_terms.specs.declared.fault.TermsFault.{TermsFault}
use Rattle.serde_json.specs.Data.{Data}

-- a term that may be left out
abbrev pub optional : {A : Type 0} → List ℕ → Result (Option A) JsonFault → Result (Option A) TermsFault
optional term (Ok found) = Ok found
optional term (Err fault) = Err (fault_at term fault)

-- a term that is required where something holds
abbrev pub needed_where : {A : Type 0} → Bool → List ℕ → Result (Option A) JsonFault → Result (Option A) TermsFault
needed_where wanted term (Ok None) = if wanted then refused MissingTerm term else Ok None
needed_where wanted term (Ok (Some value)) = Ok (Some value)
needed_where wanted term (Err fault) = Err (fault_at term fault)

-- a term that is required
abbrev pub needed : {A : Type 0} → List ℕ → Result (Option A) JsonFault → Result A TermsFault
needed term (Ok None) = refused MissingTerm term
needed term (Ok (Some value)) = Ok value
needed term (Err fault) = Err (fault_at term fault)

-- a value that has to keep a bound, where it is given
abbrev pub bounded : {A : Type 0} → (A → Bool) → Result (Option A) JsonFault → Result (Option A) JsonFault
bounded holds (Ok None) = Ok None
bounded holds (Ok (Some value)) = if holds value then Ok (Some value) else Err json.BadValue
bounded holds (Err fault) = Err fault

-- a day after another one
unfoldable pub day_after : ℤ → List ℕ → Data → Result (Option ℤ) JsonFault
day_after first term contract = bounded (int_lt first) (day_field term contract)

-- a number that isn't negative, and one above 0
unfoldable pub not_negative : List ℕ → Data → Result (Option ℤ) JsonFault
not_negative term contract = bounded (int_le (pos 0)) (decimal_field term contract)

unfoldable pub positive : List ℕ → Data → Result (Option ℤ) JsonFault
positive term contract = bounded (int_lt (pos 0)) (decimal_field term contract)

-- one of some choices among texts
unfoldable pub choice_field : {A : Type 0} → (List ℕ → Option A) → List ℕ → Data → Result (Option A) JsonFault
choice_field choices term contract = meaning_of choices json.BadValue (field_of term contract)

-- the day, the number or the cycle of a term that may be left out
unfoldable pub optional_day : List ℕ → Data → Result (Option ℤ) TermsFault
optional_day term contract = optional term (day_field term contract)

unfoldable pub optional_decimal : List ℕ → Data → Result (Option ℤ) TermsFault
optional_decimal term contract = optional term (decimal_field term contract)

unfoldable pub optional_cycle : List ℕ → Data → Result (Option Cycle) TermsFault
optional_cycle term contract = optional term (cycle_field term contract)

-- the cycle of a term that is required where something holds
unfoldable pub cycle_where : Bool → List ℕ → Data → Result (Option Cycle) TermsFault
cycle_where wanted term contract = needed_where wanted term (cycle_field term contract)

-- the day of a term that is required
unfoldable pub needed_day : List ℕ → Data → Result ℤ TermsFault
needed_day term contract = needed term (day_field term contract)
