-- The one name of an object.
use Rattle.std.proofs.Common.{◌≡◌, ◌≢◌, List, [], ◌∷◌, length, slice_get, Some, None, refl, arith, String, Global, string_bytes}
use Rattle.serde_json.specs.Data.{Data, object, Members}
use Rattle.serde_json.specs.Find.{as_object}
use Rattle.serde_json.specs.View.{members_view, view}
use Rattle.serde_json.specs.declared.value.Value.{Value}
use Rattle.act_script.specs.Form.{only_member}

pub is_object : (value : Data) (members : Members) → Some members ≡ as_object value → value ≡ object members
is_object (object inside) others e = (cc)
is_object value others e = absurd (cc)

pub another_length : (entries : List (String Global × Value)) → length entries ≢ 1 → only_member (object (members_view entries)) ≡ None
another_length [] other = refl
another_length (entry ∷ []) other = absurd (other refl)
another_length (entry ∷ next ∷ entries) other = refl

pub one_entry : (entries : List (String Global × Value)) (name : String Global) (inner : Value) → length entries ≡ 1 → slice_get entries 0 ≡ Some (name, inner)
    → only_member (object (members_view entries)) ≡ Some (string_bytes name, view inner)
one_entry [] name inner one first = absurd (omega arith)
one_entry (entry ∷ []) name inner one first = (cc)
one_entry (entry ∷ next ∷ entries) name inner one first = absurd (omega arith)
