-- Terms that are refused, and reading one term after another. This profile's own.
use Rattle.std.specs.Prelude.{ℕ, List, codes, Result, Ok, Err}
use Rattle.act_json.specs.declared.fault.JsonFault.{JsonFault}
use Rattle.act_json.specs.declared.fault.JsonFault.TheVariants as json
use Rattle.act_profile.specs.Outcomes.{then_ok}
use Rattle.act_terms.specs.declared.fault.TermCause.{TermCause}
use Rattle.act_terms.specs.declared.fault.TermCause.TheVariants.{WrongShape, MissingTerm, BadValue, BadName, UnknownKind}
use Rattle.act_terms.specs.declared.fault.TermsFault.{TermsFault}
use Rattle.act_terms.specs.declared.fault.TermsFault.TheVariants.{Refused, NoMemory}

infixl 10 ◌>>=◌
-- the next term behind one that is read
abbrev pub ◌>>=◌ : {A B : Type 0} → Result A TermsFault → (A → Result B TermsFault) → Result B TermsFault
read >>= next = then_ok next read

-- a reading seen through a view
abbrev pub read_map : {A B : Type 0} → (A → B) → Result A TermsFault → Result B TermsFault
read_map f (Ok value) = Ok (f value)
read_map f (Err fault) = Err fault

-- a term is refused
abbrev pub refused : {A : Type 0} → TermCause → List ℕ → Result A TermsFault
refused cause term = Err (Refused (record { cause = cause; term = term }))

-- the fault of a field, with the term's name; the value that has the field was read as JSON
abbrev pub fault_at : List ℕ → JsonFault → TermsFault
fault_at term json.NotJson = Refused (record { cause = WrongShape; term = term })
fault_at term json.WrongShape = Refused (record { cause = WrongShape; term = term })
fault_at term json.MissingTerm = Refused (record { cause = MissingTerm; term = term })
fault_at term json.BadValue = Refused (record { cause = BadValue; term = term })
fault_at term json.BadName = Refused (record { cause = BadName; term = term })
fault_at term json.NoMemory = NoMemory

-- the number of a cause among the refusals of a portfolio
abbrev pub refusal_number : TermCause → ℕ
refusal_number WrongShape = 11
refusal_number MissingTerm = 12
refusal_number BadValue = 13
refusal_number BadName = 14
refusal_number UnknownKind = 15

-- a contract that isn't even an object
abbrev pub no_object : {A : Type 0} → Result A TermsFault
no_object = refused WrongShape (codes "-")
