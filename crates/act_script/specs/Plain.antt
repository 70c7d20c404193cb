-- Rates and events in the form that they are mostly written in. This profile's own.
use Rattle.std.specs.Prelude.{ℕ, if◌then◌else◌, List, [], ◌∷◌, Option, Some, None, codes}
use Rattle.std.specs.Result.{result_ok}
use Rattle.act_date.specs.Text.{day_of}
use Rattle.act_num.specs.Decimal.{decimal_of}
use Rattle.act_model.specs.Name.{is_name}
use Rattle.act_model.specs.declared.observed.ObsKind.{ObsKind}
use Rattle.act_model.specs.declared.observed.ObsKind.TheVariants.{PP, DV}
use Rattle.std.specs.Str.{bytes_eq}
use Rattle.act_script.specs.Form.{◌>>=◌}
use Rattle.act_script.specs.declared.form.Form.{Form}
use Rattle.act_script.specs.declared.form.Form.TheVariants.{Rate, Event}
use Rattle.json.specs.Token.{Token, begin_object, end_object, key, string}

-- the tokens of a line with a rate of these texts
abbrev pub rate_tokens : List ℕ → List ℕ → List ℕ → List Token
rate_tokens code date value =
    begin_object ∷ key (codes "rate") ∷ begin_object
    ∷ key (codes "code") ∷ string code ∷ key (codes "date") ∷ string date ∷ key (codes "value") ∷ string value
    ∷ end_object ∷ end_object ∷ []

-- the rate of three texts, where each has its form
unfoldable pub plain_rate : List ℕ → List ℕ → List ℕ → Option Form
plain_rate code date value =
    if is_name code
    then (do
      day ← result_ok (day_of date)
      number ← result_ok (decimal_of value)
      Some (Rate code day number))
    else None

-- the tokens of a line with an event of these texts
abbrev pub event_tokens : List ℕ → List ℕ → List ℕ → List ℕ → List Token
event_tokens contract type date value =
    begin_object ∷ key (codes "event") ∷ begin_object
    ∷ key (codes "contract") ∷ string contract ∷ key (codes "type") ∷ string type ∷ key (codes "date") ∷ string date ∷ key (codes "value") ∷ string value
    ∷ end_object ∷ end_object ∷ []

-- the kind of an event of that type, where its value is an amount
abbrev pub plain_kind : List ℕ → Option ObsKind
plain_kind type = if bytes_eq type (codes "PP") then Some PP else (if bytes_eq type (codes "DV") then Some DV else None)

-- the event of four texts, where each has its form
unfoldable pub plain_event : List ℕ → List ℕ → List ℕ → List ℕ → Option Form
plain_event contract type date value =
    if is_name contract
    then (do
      day ← result_ok (day_of date)
      kind ← plain_kind type
      number ← result_ok (decimal_of value)
      Some (Event contract kind day number))
    else None
