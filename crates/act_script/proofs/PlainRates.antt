-- A line with the tokens of a rate says that rate.
use Rattle.std.proofs.Common.{◌≡◌, ℕ, ℤ, true, false, List, [], ◌∷◌, Option, Some, None, refl, sym, ap, ◌∙◌, ⊎_elim}
use Rattle.std.proofs.lemmas.Bool.{cases_Bool}
use Rattle.std.proofs.lemmas.Str.{is_utf8-from_IsUtf8}
use Rattle.std.specs.Prelude.{codes, option_and_then, Result, Ok, Err, IfOk}
use Rattle.std.specs.Result.{result_ok}
use Rattle.std.specs.Str.{IsUtf8}
use Rattle.json.specs.Lex.{tokens}
use Rattle.json.specs.Json.{members, value}
use Rattle.json.specs.Token.{Token}
use Rattle.serde_json.specs.Data.{Data, string, object, member, no_members}
use Rattle.serde_json.specs.Read.{of_json}
use Rattle.serde_json.proofs.OnLiterals.{serde_json_on_literals}
use Rattle.act_json.specs.Quoting.{quoted}
use Rattle.act_json.specs.Reading.{reading_of}
use Rattle.act_json.specs.Fields.{field_of, meaning_of, name_of, text_of}
use Rattle.act_json.specs.Results.{result_map}
use Rattle.act_json.specs.declared.fault.JsonFault.{JsonFault}
use Rattle.act_json.specs.declared.fault.JsonFault.TheVariants.{BadName, BadValue}
use Rattle.std.specs.Option.{ForSome, ok_or}
use Rattle.act_model.specs.Name.{has_form, is_name}
use Rattle.act_date.specs.Text.{day_of, has_digits_behind}
use Rattle.act_num.specs.Decimal.{decimal_of, decimal_parts}
use Rattle.act_script.specs.Form.{◌>>=◌, form_of, given, named_form, rate_form}
use Rattle.act_script.specs.Plain.{plain_rate, rate_tokens}
use Rattle.act_script.specs.declared.form.Form.{Form}
use Rattle.act_script.specs.declared.form.Form.TheVariants.{Rate}

-- the value of a rate's object
abbrev rate_data : List ℕ → List ℕ → List ℕ → Data
rate_data code date number =
    object (member (codes "code") (string code) (member (codes "date") (string date) (member (codes "value") (string number) no_members)))

-- the value of a line's object
abbrev line_data : List ℕ → List ℕ → List ℕ → Data
line_data code date number = object (member (codes "rate") (rate_data code date number) no_members)

abbrev pub read_tokens : List Token → Option Data
read_tokens ts = option_and_then of_json (option_and_then (λ p. Rattle.json.specs.Json.if_last p.0 p.1) (value 127 ts))

tokens_read : (code date number : List ℕ) → read_tokens (rate_tokens code date number) ≡ Some (line_data code date number)
unfolding value members serde_json_on_literals
tokens_read code date number = refl

line_read : (line code date number : List ℕ) → IsUtf8 line → quoted line ≡ line → tokens line ≡ rate_tokens code date number
    → reading_of line ≡ Some (line_data code date number)
unfolding reading_of
line_read line code date number utf8 same are = rw (same, is_utf8-from_IsUtf8 line utf8, are) (tokens_read code date number)

-- ---- a text that isn't empty gives what it says, and the empty text says nothing

pub no_name : name_of [] ≡ None
unfolding has_form
no_name = refl

pub no_day : result_ok (day_of []) ≡ None
unfolding day_of has_digits_behind
no_day = refl

pub no_number : result_ok (decimal_of []) ≡ None
unfolding decimal_parts
no_number = refl

what_is_said : {A : Type 0} (fault : JsonFault) (found : Option A) → given (result_map Some (ok_or found fault)) ≡ found
what_is_said fault None = refl
what_is_said fault (Some a) = refl

pub field_says : {A : Type 0} (says : List ℕ → Option A) (fault : JsonFault) (text : List ℕ) → says [] ≡ None
    → given (meaning_of says fault (text_of (string text))) ≡ says text
field_says says fault [] none = sym none
field_says says fault (t ∷ text) none = what_is_said fault (says (t ∷ text))

-- ---- the rate of three fields

abbrev rate_by : Option (List ℕ) → Option ℤ → Option ℤ → Option Form
rate_by name day number = do
  code ← name
  date ← day
  value ← number
  Some (Rate code date value)

rate_by_texts : (code date number : List ℕ) → rate_by (name_of code) (result_ok (day_of date)) (result_ok (decimal_of number)) ≡ plain_rate code date number
unfolding plain_rate
rate_by_texts code date number =
    ⊎_elim (λ (yes : is_name code ≡ true). rw yes refl) (λ (no : is_name code ≡ false). rw no refl) (cases_Bool (is_name code))

rate_read : (code date number : List ℕ) (form : Form) → plain_rate code date number ≡ Some form → rate_form (rate_data code date number) ≡ Some form
unfolding rate_form field_of
rate_read code date number form is =
    let names = field_says name_of BadName code no_name in
    let days = field_says (λ text. result_ok (day_of text)) BadValue date no_day in
    let numbers = field_says (λ text. result_ok (decimal_of text)) BadValue number no_number in
    let day = given (meaning_of (λ text. result_ok (day_of text)) BadValue (text_of (string date))) in
    let amount = given (meaning_of (λ text. result_ok (decimal_of text)) BadValue (text_of (string number))) in
    ap (λ (found : Option (List ℕ)). rate_by found day amount) names ∙ ap (λ (found : Option ℤ). rate_by (name_of code) found amount) days
    ∙ ap (λ (found : Option ℤ). rate_by (name_of code) (result_ok (day_of date)) found) numbers ∙ rate_by_texts code date number ∙ is

-- a line in that form says its rate
pub rate_of_line : (line code date number : List ℕ) (form : Form) → IsUtf8 line → quoted line ≡ line → tokens line ≡ rate_tokens code date number
    → plain_rate code date number ≡ Some form → form_of line ≡ Some form
unfolding form_of named_form
rate_of_line line code date number form utf8 same are is = rw (line_read line code date number utf8 same are) (rate_read code date number form is)

-- what is found has the one property where it has the other
pub found_too : {E : Type 0} (P Q : Form → Type 0) → ((form : Form) → P form → Q form) → (result : Result (Option Form) E)
    → IfOk result (λ found. ForSome found P) → IfOk result (λ found. ForSome found Q)
found_too P Q holds (Err fault) all = all
found_too P Q holds (Ok found) all = λ form is. holds form (all form is)
