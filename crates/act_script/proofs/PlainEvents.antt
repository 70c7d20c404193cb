-- A line with the tokens of a prepayment or a dividend says that event.
use Rattle.std.proofs.Common.{◌≡◌, ℕ, ℤ, true, false, List, [], ◌∷◌, Option, Some, None, refl, sym, ap, ◌∙◌, ⊎_elim, inl, inr}
use Rattle.std.proofs.lemmas.Bool.{cases_Bool}
use Rattle.std.proofs.lemmas.Str.{is_utf8-from_IsUtf8}
use Rattle.std.specs.Prelude.{codes, option_map}
use Rattle.std.specs.Result.{result_ok}
use Rattle.std.specs.Str.{IsUtf8, bytes_eq}
use Rattle.json.specs.Lex.{tokens}
use Rattle.json.specs.Json.{members, value}
use Rattle.serde_json.specs.Data.{Data, string, object, member, no_members}
use Rattle.serde_json.proofs.OnLiterals.{serde_json_on_literals}
use Rattle.act_json.specs.Quoting.{quoted}
use Rattle.act_json.specs.Reading.{reading_of}
use Rattle.act_json.specs.Fields.{field_of, meaning_of, name_of, text_of}
use Rattle.act_json.specs.declared.fault.JsonFault.TheVariants.{BadName, BadValue}
use Rattle.act_model.specs.Name.{is_name}
use Rattle.act_model.specs.declared.observed.ObsKind.{ObsKind}
use Rattle.act_model.specs.declared.observed.ObsKind.TheVariants.{PP, DV}
use Rattle.act_date.specs.Text.{day_of}
use Rattle.act_num.specs.Decimal.{decimal_of}
use Rattle.act_script.proofs.PlainRates.{field_says, no_day, no_name, no_number, read_tokens}
use Rattle.act_script.specs.Form.{◌>>=◌, event_form, form_of, given, happening, named_form}
use Rattle.act_script.specs.Plain.{event_tokens, plain_event, plain_kind}
use Rattle.act_script.specs.declared.form.Form.{Form}
use Rattle.act_script.specs.declared.form.Form.TheVariants.{Event}

-- the value of an event's object, whose members stand by their names
abbrev event_data : List ℕ → List ℕ → List ℕ → List ℕ → Data
event_data contract type date number =
    object (member (codes "contract") (string contract) (member (codes "date") (string date) (member (codes "type") (string type) (member (codes "value") (string number) no_members))))

-- the value of a line's object
abbrev line_data : List ℕ → List ℕ → List ℕ → List ℕ → Data
line_data contract type date number = object (member (codes "event") (event_data contract type date number) no_members)

tokens_read : (contract type date number : List ℕ) → read_tokens (event_tokens contract type date number) ≡ Some (line_data contract type date number)
unfolding value members serde_json_on_literals
tokens_read contract type date number = refl

line_read : (line contract type date number : List ℕ) → IsUtf8 line → quoted line ≡ line → tokens line ≡ event_tokens contract type date number
    → reading_of line ≡ Some (line_data contract type date number)
unfolding reading_of
line_read line contract type date number utf8 same are = rw (same, is_utf8-from_IsUtf8 line utf8, are) (tokens_read contract type date number)

-- ---- the event of four fields

-- by what happened
abbrev event_with : Option (List ℕ) → Option ℤ → Option (ObsKind × ℤ) → Option Form
event_with name day what = do
  contract ← name
  date ← day
  w ← what
  Some (Event contract w.0 date w.1)

-- by its kind and its value
abbrev event_by : Option (List ℕ) → Option ℤ → Option ObsKind → Option ℤ → Option Form
event_by name day kind number = do
  contract ← name
  date ← day
  k ← kind
  amount ← number
  Some (Event contract k date amount)

with_kind : (name : Option (List ℕ)) (day number : Option ℤ) (kind : ObsKind) → event_with name day (option_map (λ amount. (kind, amount)) number) ≡ event_by name day (Some kind) number
with_kind None day number kind = refl
with_kind (Some contract) None number kind = refl
with_kind (Some contract) (Some date) None kind = refl
with_kind (Some contract) (Some date) (Some amount) kind = refl

event_by_texts : (contract type date number : List ℕ) → event_by (name_of contract) (result_ok (day_of date)) (plain_kind type) (result_ok (decimal_of number)) ≡ plain_event contract type date number
unfolding plain_event
event_by_texts contract type date number =
    ⊎_elim (λ (yes : is_name contract ≡ true). rw yes refl) (λ (no : is_name contract ≡ false). rw no refl) (cases_Bool (is_name contract))

-- the amount of an event's object
abbrev amount_of : List ℕ → Option ℤ
amount_of number = given (meaning_of (λ text. result_ok (decimal_of text)) BadValue (text_of (string number)))

amount_is : (number : List ℕ) → amount_of number ≡ result_ok (decimal_of number)
amount_is number = field_says (λ text. result_ok (decimal_of text)) BadValue number no_number

-- a type is given where its text isn't empty
type_is : (type : List ℕ) (kind : ObsKind) → plain_kind type ≡ Some kind → given (text_of (string type)) ≡ Some type
type_is [] kind is = absurd (cc)
type_is (t ∷ type) kind is = refl

-- what happened, by its type
happened : (contract type date number : List ℕ) (kind : ObsKind) → plain_kind type ≡ Some kind → happening type (event_data contract type date number) ≡ option_map (λ amount. (kind, amount)) (result_ok (decimal_of number))
unfolding happening field_of
happened contract type date number kind is =
    let kinds : ObsKind → Option (ObsKind × ℤ) = λ k. option_map (λ amount. (k, amount)) (result_ok (decimal_of number)) in
    elim (cases_Bool (bytes_eq type (codes "PP"))) [
      | inl pp ↦
          let found : Some PP ≡ Some kind = rw pp at is in
          let same : PP ≡ kind = cc in
          rw pp (ap (option_map (λ amount. (PP, amount))) (amount_is number) ∙ ap kinds same)
      | inr no_pp ↦ elim (cases_Bool (bytes_eq type (codes "DV"))) [
        | inl dv ↦
            let found : Some DV ≡ Some kind = rw (no_pp, dv) at is in
            let same : DV ≡ kind = cc in
            rw (no_pp, dv) (ap (option_map (λ amount. (DV, amount))) (amount_is number) ∙ ap kinds same)
        | inr no_dv ↦ let none : None ≡ Some kind = rw (no_pp, no_dv) at is in absurd (cc)
      ]
    ]

-- an event has a kind
some_kind : (contract : List ℕ) (day number : Option ℤ) (kind : Option ObsKind) (form : Form) → event_by (Some contract) day kind number ≡ Some form → (k : ObsKind) × (kind ≡ Some k)
some_kind contract None number kind form is = absurd (cc)
some_kind contract (Some date) number None form is = absurd (cc)
some_kind contract (Some date) number (Some k) form is = (k, refl)

kind_of : (contract type date number : List ℕ) (form : Form) → plain_event contract type date number ≡ Some form → (kind : ObsKind) × (plain_kind type ≡ Some kind)
unfolding plain_event
kind_of contract type date number form is =
    ⊎_elim (λ (yes : is_name contract ≡ true). some_kind contract (result_ok (day_of date)) (result_ok (decimal_of number)) (plain_kind type) form (rw yes at is))
    (λ (no : is_name contract ≡ false). let none : None ≡ Some form = rw no at is in absurd (cc)) (cases_Bool (is_name contract))

event_read : (contract type date number : List ℕ) (form : Form) → plain_event contract type date number ≡ Some form → event_form (event_data contract type date number) ≡ Some form
unfolding event_form field_of
event_read contract type date number form is =
    let known = kind_of contract type date number form is in
    let fields = event_data contract type date number in
    let name = given (meaning_of name_of BadName (text_of (string contract))) in
    let day = given (meaning_of (λ text. result_ok (day_of text)) BadValue (text_of (string date))) in
    let names = field_says name_of BadName contract no_name in
    let days = field_says (λ text. result_ok (day_of text)) BadValue date no_day in
    let by : Option (List ℕ) → Option ℤ → Option (List ℕ) → Option Form = λ name day type. (do
      c ← name
      d ← day
      t ← type
      what ← happening t fields
      Some (Event c what.0 d what.1)) in
    ap (λ (found : Option (List ℕ)). by found day (given (text_of (string type)))) names
    ∙ ap (λ (found : Option ℤ). by (name_of contract) found (given (text_of (string type)))) days
    ∙ ap (λ (found : Option (List ℕ)). by (name_of contract) (result_ok (day_of date)) found) (type_is type known.0 known.1)
    ∙ ap (λ (what : Option (ObsKind × ℤ)). event_with (name_of contract) (result_ok (day_of date)) what) (happened contract type date number known.0 known.1)
    ∙ with_kind (name_of contract) (result_ok (day_of date)) (result_ok (decimal_of number)) known.0
    ∙ ap (λ (kind : Option ObsKind). event_by (name_of contract) (result_ok (day_of date)) kind (result_ok (decimal_of number))) (sym known.1)
    ∙ event_by_texts contract type date number ∙ is

-- a line in that form says its event
pub event_of_line : (line contract type date number : List ℕ) (form : Form) → IsUtf8 line → quoted line ≡ line → tokens line ≡ event_tokens contract type date number
    → plain_event contract type date number ≡ Some form → form_of line ≡ Some form
unfolding form_of named_form
event_of_line line contract type date number form utf8 same are is = rw (line_read line contract type date number utf8 same are) (event_read contract type date number form is)
