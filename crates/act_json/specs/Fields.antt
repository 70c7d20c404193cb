-- The fields of a JSON object: a text, or what a text of some form says. This profile's own.
use Rattle.std.specs.Prelude.{ℕ, ℤ, if◌then◌else◌, List, [], ◌∷◌, Option, Some, None, Result, Ok, Err}
use Rattle.std.specs.Option.{ok_or}
use Rattle.std.specs.Result.{result_ok}
use Rattle.act_num.specs.Decimal.{decimal_of}
use Rattle.act_date.specs.CycleText.{cycle_of, period_of}
use Rattle.act_date.specs.Text.{day_of}
use Rattle.act_date.specs.declared.cycle.Cycle.{Cycle}
use Rattle.act_model.specs.Name.{is_name}
use Rattle.act_json.specs.Results.{result_map}
use Rattle.act_json.specs.declared.fault.JsonFault.{JsonFault}
use Rattle.act_json.specs.declared.fault.JsonFault.TheVariants.{WrongShape, BadValue, BadName}
use Rattle.serde_json.specs.Data.{Data, null, string, object}
use Rattle.serde_json.specs.Find.{get_member}

-- the text that a value gives: null and the empty text give none, and another value than a text has the wrong shape
abbrev pub text_of : Data → Result (Option (List ℕ)) JsonFault
text_of null = Ok None
text_of (string []) = Ok None
text_of (string (first ∷ rest)) = Ok (Some (first ∷ rest))
text_of value = Err WrongShape

-- the text that a member of an object gives, where the object has it
abbrev pub member_text : Option Data → Result (Option (List ℕ)) JsonFault
member_text None = Ok None
member_text (Some value) = text_of value

-- the text of an object's field of that name; another value than an object has the wrong shape
unfoldable pub field_of : List ℕ → Data → Result (Option (List ℕ)) JsonFault
field_of name (object members) = member_text (get_member name members)
field_of name value = Err WrongShape

-- what the text of a field says, where it is given, or the fault of a text that says nothing
abbrev pub meaning_of : {A : Type 0} → (List ℕ → Option A) → JsonFault → Result (Option (List ℕ)) JsonFault → Result (Option A) JsonFault
meaning_of says fault (Ok None) = Ok None
meaning_of says fault (Ok (Some text)) = result_map Some (ok_or (says text) fault)
meaning_of says fault (Err other) = Err other

-- the number of a field, in units of 10^-9
abbrev pub decimal_field : List ℕ → Data → Result (Option ℤ) JsonFault
decimal_field name value = meaning_of (λ text. result_ok (decimal_of text)) BadValue (field_of name value)

-- the day of a field
abbrev pub day_field : List ℕ → Data → Result (Option ℤ) JsonFault
day_field name value = meaning_of (λ text. result_ok (day_of text)) BadValue (field_of name value)

-- the cycle of a field
abbrev pub cycle_field : List ℕ → Data → Result (Option Cycle) JsonFault
cycle_field name value = meaning_of (λ text. result_ok (cycle_of text)) BadValue (field_of name value)

-- the period of a field, which is a cycle whose count may be 0
abbrev pub period_field : List ℕ → Data → Result (Option Cycle) JsonFault
period_field name value = meaning_of (λ text. result_ok (period_of text)) BadValue (field_of name value)

-- a text that is a name
abbrev pub name_of : List ℕ → Option (List ℕ)
name_of text = if is_name text then Some text else None

-- the name of a field
abbrev pub word_field : List ℕ → Data → Result (Option (List ℕ)) JsonFault
word_field name value = meaning_of name_of BadName (field_of name value)
