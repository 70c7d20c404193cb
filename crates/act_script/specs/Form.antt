-- What a line says: one of three forms, or none. This profile's own.
use Rattle.std.specs.Prelude.{ℕ, ℤ, pos, if◌then◌else◌, List, Option, Some, None, option_and_then, option_map, unwrap_or, Result, codes}
use Rattle.std.specs.Option.{option_flatten}
use Rattle.std.specs.Result.{result_ok}
use Rattle.std.specs.Str.{bytes_eq}
use Rattle.act_json.specs.Fields.{day_field, decimal_field, field_of, word_field}
use Rattle.act_json.specs.Reading.{reading_of}
use Rattle.act_json.specs.declared.fault.JsonFault.{JsonFault}
use Rattle.act_model.specs.Name.{is_name}
use Rattle.act_model.specs.declared.observed.ObsKind.{ObsKind}
use Rattle.act_model.specs.declared.observed.ObsKind.TheVariants.{PP, DV, XD, DL, DQ, DF}
use Rattle.act_script.specs.declared.form.Form.{Form}
use Rattle.act_script.specs.declared.form.Form.TheVariants.{Rate, Event, AskAll, AskOne}
use Rattle.serde_json.specs.Data.{Data, string, object, member, no_members}

infixl 10 ◌>>=◌
-- the next step over what the first gives, if it gives something
abbrev pub ◌>>=◌ : {A B : Type 0} → Option A → (A → Option B) → Option B
found >>= next = option_and_then next found

-- what a field gives that has to be given: none where it isn't, or has another form
abbrev pub given : {A : Type 0} → Result (Option A) JsonFault → Option A
given field = option_flatten (result_ok field)

-- a rate: the name of its code, its day and its value
unfoldable pub rate_form : Data → Option Form
rate_form rate = do
  code ← given (word_field (codes "code") rate)
  day ← given (day_field (codes "date") rate)
  value ← given (decimal_field (codes "value") rate)
  Some (Rate code day value)

-- the kind of a credit event, by its name
unfoldable pub credit_kind : List ℕ → Option ObsKind
credit_kind name =
    if bytes_eq name (codes "DL") then Some DL
    else (if bytes_eq name (codes "DQ") then Some DQ
    else (if bytes_eq name (codes "DF") then Some DF else None))

-- the kind and the value of an event, by its type: a prepayment and a dividend have a value, an exercise may leave it out and has 0 then,
-- and of a credit event the value is the name of its kind
unfoldable pub happening : List ℕ → Data → Option (ObsKind × ℤ)
happening type event =
    let amount = decimal_field (codes "value") event in
    if bytes_eq type (codes "PP") then option_map (λ value. (PP, value)) (given amount)
    else (if bytes_eq type (codes "DV") then option_map (λ value. (DV, value)) (given amount)
    else (if bytes_eq type (codes "XD") then option_map (λ value. (XD, unwrap_or value (pos 0))) (result_ok amount)
    else (if bytes_eq type (codes "CE") then option_map (λ kind. (kind, pos 0)) (option_and_then credit_kind (given (field_of (codes "value") event)))
    else None)))

-- an event: the name of its contract, its day, and what happened
unfoldable pub event_form : Data → Option Form
event_form event = do
  contract ← given (word_field (codes "contract") event)
  day ← given (day_field (codes "date") event)
  type ← given (field_of (codes "type") event)
  what ← happening type event
  Some (Event contract what.0 day what.1)

-- an ask: a star for all, or the name of a contract
unfoldable pub ask_form : Data → Option Form
ask_form (string text) = if is_name text then Some (if bytes_eq text (codes "*") then AskAll else AskOne text) else None
ask_form other = None

-- what the one name of a line says, and its value
unfoldable pub named_form : List ℕ → Data → Option Form
named_form name value =
    if bytes_eq name (codes "rate") then rate_form value
    else (if bytes_eq name (codes "event") then event_form value
    else (if bytes_eq name (codes "ask") then ask_form value else None))

-- the name and the value of an object that has exactly one name
abbrev pub only_member : Data → Option (List ℕ × Data)
only_member (object (member name value no_members)) = Some (name, value)
only_member other = None

-- what a line says, once bare numbers are in quotes: nothing where it isn't of one of the forms
unfoldable pub form_of : List ℕ → Option Form
form_of line = option_and_then (λ one. named_form one.0 one.1) (option_and_then only_member (reading_of line))
