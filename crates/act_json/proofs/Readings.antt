-- What bytes are read as.
use Rattle.std.proofs.Common.{◌≡◌, ◌≢◌, ◌≤◌, ◌+◌, ◌*◌, ℕ, List, length, None, Some, Ok, Err, Result, IfOk, IfErr, true, false, refl, sym, ap, ⊎_elim}
use Rattle.std.proofs.lemmas.Bool.{cases_Bool}
use Rattle.std.proofs.lemmas.Str.{IsUtf8-from_is_utf8, is_utf8-from_IsUtf8}
use Rattle.std.specs.Str.{IsUtf8, is_utf8}
use Rattle.serde_json.specs.Data.{Data}
use Rattle.serde_json.specs.Read.{read}
use Rattle.act_json.specs.Quoting.{quoted}
use Rattle.act_json.specs.Reading.{json_of, reading_of}
use Rattle.act_json.specs.Results.{result_map}
use Rattle.act_json.specs.declared.fault.JsonFault.{JsonFault}
use Rattle.act_json.specs.declared.fault.JsonFault.TheVariants.{NotJson, NoMemory}
use Rattle.act_json.proofs.Lengths.{few_items}
use Rattle.std.specs.Option.{ForSome}
use Rattle.serde_json.specs.Events.{items_len}
use Rattle.serde_json.specs.Find.{as_array}
use Rattle.serde_json.specs.View.{view}
use Rattle.serde_json.specs.declared.value.Value.{Value}

-- what the quoted bytes are read as, where they are UTF-8
pub reading_is : (bytes text : List ℕ) (value : Data) → text ≡ quoted bytes → IsUtf8 text → read text ≡ Some value → reading_of bytes ≡ Some value
unfolding reading_of
reading_is bytes text value same utf8 is = rw (sym same, is_utf8-from_IsUtf8 text utf8) is

-- bytes without a reading
pub no_reading : (bytes text : List ℕ) → text ≡ quoted bytes → (IsUtf8 text → read text ≡ None) → reading_of bytes ≡ None
unfolding reading_of
no_reading bytes text same none =
    rw (sym same) (⊎_elim (λ (yes : is_utf8 text ≡ true). rw yes (none (IsUtf8-from_is_utf8 text yes))) (λ (no : is_utf8 text ≡ false). rw no refl) (cases_Bool (is_utf8 text)))

-- what reading the quoted bytes answers, where memory is enough
pub json_is : (bytes text : List ℕ) (answer : Result Value JsonFault) → text ≡ quoted bytes → IfOk answer (λ value. IsUtf8 text × (read text ≡ Some (view value))) → IfErr answer (λ fault. fault ≢ NoMemory → (fault ≡ NotJson) × (IsUtf8 text → read text ≡ None)) → answer ≢ Err NoMemory → result_map view answer ≡ json_of bytes
json_is bytes text (Ok value) same is refused never = rw (reading_is bytes text (view value) same is.0 is.1) refl
json_is bytes text (Err fault) same is refused never =
    let none = refused (λ out_of_memory. never (ap Err out_of_memory)) in
    rw (none.0, no_reading bytes text same none.1) refl

-- a list that is read from the quoted bytes has few values
pub few_in : (bytes text : List ℕ) (answer : Result Value JsonFault) → text ≡ quoted bytes → IfOk answer (λ value. IsUtf8 text × (read text ≡ Some (view value))) → IfOk answer (λ value. ForSome (as_array (view value)) (λ items. items_len items ≤ 3 * length bytes + 1))
few_in bytes text (Ok value) same is = few_items bytes text (view value) same is.1
few_in bytes text (Err fault) same is = tt
