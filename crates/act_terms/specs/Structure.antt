-- What a contract refers to: the elements of its contractStructure. The names are those of the ACTUS data dictionary; the shapes, the refusals and
-- their order are this profile's own. Each refusal is of the term contractStructure.
use Rattle.std.specs.Prelude.{ℕ, if◌then◌else◌, Bool, true, false, List, [], ◌∷◌, codes, Option, Some, None, Result, Ok}
use Rattle.act_json.specs.Fields.{field_of}
use Rattle.act_json.specs.declared.fault.JsonFault.{JsonFault}
use Rattle.act_model.specs.Name.{is_name}
use Rattle.act_model.specs.Names.{NameLists, number_of, with_name}
use Rattle.act_model.specs.declared.choice.ContractType.{ContractType}
use Rattle.act_model.specs.declared.choice.ContractType.TheVariants as type
use Rattle.act_terms.specs.Choices.{reference_role_named, reference_type_named}
use Rattle.act_terms.specs.Fault.{◌>>=◌, refused}
use Rattle.act_terms.specs.Fields.{choice_field}
use Rattle.act_terms.specs.Reference.{Reference, Target, to_contract, to_market}
use Rattle.act_terms.specs.declared.fault.TermCause.{TermCause}
use Rattle.act_terms.specs.declared.fault.TermCause.TheVariants.{WrongShape, MissingTerm, BadValue, BadName}
use Rattle.act_terms.specs.declared.fault.TermsFault.{TermsFault}
use Rattle.act_terms.specs.declared.reference.ReferenceType.{ReferenceType}
use Rattle.act_terms.specs.declared.reference.ReferenceType.TheVariants.{CNT, CID, MOC}
use Rattle.serde_json.specs.Data.{Data, null, string, array, object, Items, no_items, item}
use Rattle.serde_json.specs.Find.{get}

-- a structure is refused
abbrev pub bad_structure : {A : Type 0} → TermCause → Result A TermsFault
bad_structure cause = refused cause (codes "contractStructure")

-- ---- the name of what is referred to

-- what was found has to be a name: not given, or of another shape than a text, is 11, and a text that is no name is 14
abbrev pub name_or_refusal : Result (Option (List ℕ)) JsonFault → Result (List ℕ) TermsFault
name_or_refusal (Ok (Some text)) = if is_name text then Ok text else bad_structure BadName
name_or_refusal other = bad_structure WrongShape

-- a value that is an object itself
abbrev pub if_object : Option Data → Option Data
if_object (Some (object members)) = Some (object members)
if_object other = None

-- the member `object` of an element, where it is an object itself
abbrev pub inner_object : Data → Option Data
inner_object element = if_object (get (codes "object") element)

-- the text that names a market object: that of an inner object's marketObjectCode, or `object` itself
abbrev pub market_text_of : Option Data → Data → Result (Option (List ℕ)) JsonFault
market_text_of (Some inner) element = field_of (codes "marketObjectCode") inner
market_text_of None element = field_of (codes "object") element

unfoldable pub market_text : Data → Result (Option (List ℕ)) JsonFault
market_text element = market_text_of (inner_object element) element

-- a field, or another one where it isn't given
abbrev pub given_or : Result (Option (List ℕ)) JsonFault → Result (Option (List ℕ)) JsonFault → Result (Option (List ℕ)) JsonFault
given_or (Ok None) other = other
given_or found other = found

-- the text that names a contract: that of an inner object's contractIdentifier, where it is given, or of its contractID, or `object` itself
abbrev pub contract_text_of : Option Data → Data → Result (Option (List ℕ)) JsonFault
contract_text_of (Some inner) element = given_or (field_of (codes "contractIdentifier") inner) (field_of (codes "contractID") inner)
contract_text_of None element = field_of (codes "object") element

unfoldable pub contract_text : Data → Result (Option (List ℕ)) JsonFault
contract_text element = contract_text_of (inner_object element) element

-- ---- what is referred to

-- the text of a field, or none
abbrev pub text_or_none : Result (Option (List ℕ)) JsonFault → List ℕ
text_or_none (Ok (Some text)) = text
text_or_none other = []

-- a contract that stands in the element, by the name that it gives itself. Where it gives no name, it is refused for that, behind the one in which it
-- stands
abbrev pub contract_inside_by : Option Data → Result Target TermsFault
contract_inside_by (Some inner) = Ok (to_contract (text_or_none (field_of (codes "contractID") inner)))
contract_inside_by None = bad_structure WrongShape

unfoldable pub contract_inside : Data → Result Target TermsFault
contract_inside element = contract_inside_by (inner_object element)

-- a contract that the element names
unfoldable pub contract_named : Data → Result Target TermsFault
contract_named element = do
  name ← name_or_refusal (contract_text element)
  Ok (to_contract name)

-- a market object, by the number of its code, and the names with it
unfoldable pub market_named : NameLists → Data → Result (Target × NameLists) TermsFault
market_named names element = do
  code ← name_or_refusal (market_text element)
  Ok (to_market (number_of code names.codes), record names { codes = with_name code names.codes })

-- what was read, with names that it adds none to
abbrev pub with_names : {A : Type 0} → NameLists → Result A TermsFault → Result (A × NameLists) TermsFault
with_names names read = read >>= (λ value. Ok (value, names))

-- what an element of that type refers to, and the names with it
unfoldable pub referred_of : ReferenceType → NameLists → Data → Result (Target × NameLists) TermsFault
referred_of CNT names element = with_names names (contract_inside element)
referred_of CID names element = with_names names (contract_named element)
referred_of MOC names element = market_named names element

-- ---- an element

-- a choice that has to be given: where it isn't, or is none, it is 13
abbrev pub choice_or_refusal : {A : Type 0} → Result (Option A) JsonFault → Result A TermsFault
choice_or_refusal (Ok (Some choice)) = Ok choice
choice_or_refusal other = bad_structure BadValue

-- the reference that the members of an element make: its type, its role, and what it refers to
unfoldable pub reference_within : NameLists → Data → Result (Reference × NameLists) TermsFault
reference_within names element = do
  reference_type ← choice_or_refusal (choice_field reference_type_named (codes "referenceType") element)
  role ← choice_or_refusal (choice_field reference_role_named (codes "referenceRole") element)
  referred ← referred_of reference_type names element
  Ok (record { role = role; object = referred.0 }, referred.1)

-- the reference that an element is, and the names with the code that it gives
unfoldable pub reference_of : NameLists → Data → Result (Reference × NameLists) TermsFault
reference_of names (object members) = reference_within names (object members)
reference_of names other = bad_structure WrongShape

-- ---- the structure

-- the references of elements in their order, and the names with the codes that they give; or the first that is refused
unfoldable pub references_from : NameLists → List Data → Result (List Reference × NameLists) TermsFault
references_from names [] = Ok ([], names)
references_from names (element ∷ elements) = do
  first ← reference_of names element
  rest ← references_from first.1 elements
  Ok (first.0 ∷ rest.0, rest.1)

-- the elements of a list
abbrev pub listed : Items → List Data
listed no_items = []
listed (item value items) = value ∷ listed items

-- the elements of a structure, which has to be given and to be a list
abbrev pub elements_in : Option Data → Result (List Data) TermsFault
elements_in None = bad_structure MissingTerm
elements_in (Some null) = bad_structure MissingTerm
elements_in (Some (string [])) = bad_structure MissingTerm
elements_in (Some (array items)) = Ok (listed items)
elements_in (Some other) = bad_structure WrongShape

unfoldable pub elements_of : Data → Result (List Data) TermsFault
elements_of contract = elements_in (get (codes "contractStructure") contract)

-- the references of a structure, and the names with the codes that they give
unfoldable pub structure_of : NameLists → Data → Result (List Reference × NameLists) TermsFault
structure_of names contract = do
  elements ← elements_of contract
  references_from names elements

-- the types that use contractStructure
abbrev pub has_structure : ContractType → Bool
has_structure type.SWAPS = true
has_structure type.CAPFL = true
has_structure type.OPTNS = true
has_structure type.FUTUR = true
has_structure type.CEG = true
has_structure type.CEC = true
has_structure other = false

-- the references of a contract of a type; of one that doesn't use contractStructure nothing is read
unfoldable pub references_of : ContractType → NameLists → Data → Result (List Reference × NameLists) TermsFault
references_of type names contract = if has_structure type then structure_of names contract else Ok ([], names)
