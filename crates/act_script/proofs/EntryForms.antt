-- What lines say are entries: the value of a credit event is 0.
use Rattle.std.proofs.Common.{◌≡◌, ℕ, ℤ, pos, Bool, true, false, if◌then◌else◌, List, Option, Some, None, IfSome, option_map, refl}
use Rattle.std.specs.Prelude.{option_and_then, codes, unwrap_or}
use Rattle.std.specs.Result.{result_ok}
use Rattle.std.specs.Str.{bytes_eq}
use Rattle.act_json.specs.Fields.{day_field, decimal_field, field_of, word_field}
use Rattle.act_model.specs.Name.{is_name}
use Rattle.act_model.specs.Observed.{is_entry}
use Rattle.act_model.specs.declared.observed.Obs.TheVariants as obs
use Rattle.act_model.specs.declared.observed.ObsKind.{ObsKind}
use Rattle.act_model.specs.declared.observed.ObsKind.TheVariants.{PP, DV, XD, DL, DQ, DF}
use Rattle.serde_json.specs.Data.{Data, null, boolean, number, string, array, object}
use Rattle.act_script.specs.Form.{ask_form, credit_kind, event_form, form_of, given, happening, named_form, rate_form}
use Rattle.act_script.specs.declared.form.Form.{Form}
use Rattle.act_script.specs.declared.form.Form.TheVariants.{Rate, Event, AskAll, AskOne}

-- what happened is an entry of any contract on any day
abbrev IsHappening : ObsKind × ℤ → Type 0
IsHappening what = is_entry (obs.Event 0 what.0 (pos 0) what.1) ≡ true

-- what a form says is an entry, where it is one
abbrev pub IsEntryForm : Form → Type 0
IsEntryForm (Rate code day value) = Unit {0}
IsEntryForm (Event contract kind day value) = IsHappening (kind, value)
IsEntryForm AskAll = Unit {0}
IsEntryForm (AskOne contract) = Unit {0}

-- ---- steps that may give nothing

module _ {B : Type 0} (Q : B → Type 0) where
  bound : {A : Type 0} (found : Option A) (next : A → Option B) → ((a : A) → IfSome (next a) Q) → IfSome (option_and_then next found) Q
  bound None next holds = tt
  bound (Some a) next holds = holds a

  bound_by : {A : Type 0} (P : A → Type 0) (found : Option A) (next : A → Option B) → IfSome found P → ((a : A) → P a → IfSome (next a) Q) → IfSome (option_and_then next found) Q
  bound_by P None next is holds = tt
  bound_by P (Some a) next is holds = holds a is

  mapped : {A : Type 0} (found : Option A) (f : A → B) → ((a : A) → Q (f a)) → IfSome (option_map f found) Q
  mapped None f holds = tt
  mapped (Some a) f holds = holds a

  either : (test : Bool) (one other : Option B) → IfSome one Q → IfSome other Q → IfSome (if test then one else other) Q
  either true one other a b = a
  either false one other a b = b

-- ---- forms

-- a credit event of value 0
zero_event : (kind : ObsKind) → IsHappening (kind, pos 0)
zero_event PP = refl
zero_event DV = refl
zero_event XD = refl
zero_event DL = refl
zero_event DQ = refl
zero_event DF = refl

happening_holds : (type : List ℕ) (event : Data) → IfSome (happening type event) IsHappening
unfolding happening
happening_holds type event =
    let amount = decimal_field (codes "value") event in
    either IsHappening (bytes_eq type (codes "PP")) _ _ (mapped IsHappening (given amount) (λ value. (PP, value)) (λ value. refl))
    (either IsHappening (bytes_eq type (codes "DV")) _ _ (mapped IsHappening (given amount) (λ value. (DV, value)) (λ value. refl))
    (either IsHappening (bytes_eq type (codes "XD")) _ _ (mapped IsHappening (result_ok amount) (λ value. (XD, unwrap_or value (pos 0))) (λ value. refl))
    (either IsHappening (bytes_eq type (codes "CE")) _ _ (mapped IsHappening (option_and_then credit_kind (given (field_of (codes "value") event))) (λ kind. (kind, pos 0)) zero_event)
    tt)))

event_holds : (event : Data) → IfSome (event_form event) IsEntryForm
unfolding event_form
event_holds event =
    let contract = given (word_field (codes "contract") event) in
    let day = given (day_field (codes "date") event) in
    let type = given (field_of (codes "type") event) in
    bound IsEntryForm contract (λ c. option_and_then (λ d. option_and_then (λ t. option_and_then (λ what. Some (Event c what.0 d what.1)) (happening t event)) type) day) (λ c.
    bound IsEntryForm day (λ d. option_and_then (λ t. option_and_then (λ what. Some (Event c what.0 d what.1)) (happening t event)) type) (λ d.
    bound IsEntryForm type (λ t. option_and_then (λ what. Some (Event c what.0 d what.1)) (happening t event)) (λ t.
    bound_by IsEntryForm IsHappening (happening t event) (λ what. Some (Event c what.0 d what.1)) (happening_holds t event) (λ what is. is))))

rate_holds : (rate : Data) → IfSome (rate_form rate) IsEntryForm
unfolding rate_form
rate_holds rate =
    let code = given (word_field (codes "code") rate) in
    let day = given (day_field (codes "date") rate) in
    let value = given (decimal_field (codes "value") rate) in
    bound IsEntryForm code (λ c. option_and_then (λ d. option_and_then (λ v. Some (Rate c d v)) value) day) (λ c.
    bound IsEntryForm day (λ d. option_and_then (λ v. Some (Rate c d v)) value) (λ d.
    bound IsEntryForm value (λ v. Some (Rate c d v)) (λ v. tt {0})))

asked_holds : (star : Bool) (text : List ℕ) → IsEntryForm (if star then AskAll else AskOne text)
asked_holds true text = tt
asked_holds false text = tt

ask_holds : (ask : Data) → IfSome (ask_form ask) IsEntryForm
unfolding ask_form
ask_holds null = tt
ask_holds (boolean b) = tt
ask_holds (number n) = tt
ask_holds (string text) = either IsEntryForm (is_name text) _ None (asked_holds (bytes_eq text (codes "*")) text) tt
ask_holds (array items) = tt
ask_holds (object inside) = tt

named_holds : (name : List ℕ) (value : Data) → IfSome (named_form name value) IsEntryForm
unfolding named_form
named_holds name value =
    either IsEntryForm (bytes_eq name (codes "rate")) _ _ (rate_holds value)
    (either IsEntryForm (bytes_eq name (codes "event")) _ _ (event_holds value)
    (either IsEntryForm (bytes_eq name (codes "ask")) _ None (ask_holds value) tt))

pub form_holds : (line : List ℕ) → IfSome (form_of line) IsEntryForm
unfolding form_of
form_holds line = bound IsEntryForm _ _ (λ one. named_holds one.0 one.1)
