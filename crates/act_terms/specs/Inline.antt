-- The contracts of a file in portfolio order: those that stand in the structure of another directly behind it. This profile's own.
use Rattle.std.specs.Prelude.{ℕ, zero, suc, if◌then◌else◌, Bool, true, false, List, [], ◌∷◌, codes, Option, Some, None, is_some, Result, Ok, Err}
use Rattle.std.specs.List.{filter_map, flat_map}
use Rattle.act_json.specs.declared.fault.JsonFault.{JsonFault}
use Rattle.act_model.specs.declared.choice.ContractType.{ContractType}
use Rattle.act_terms.specs.Choices.{reference_type_named}
use Rattle.act_terms.specs.Contract.{contract_type}
use Rattle.act_terms.specs.Fields.{choice_field}
use Rattle.act_terms.specs.Structure.{has_structure, inner_object, listed}
use Rattle.act_terms.specs.declared.fault.TermsFault.{TermsFault}
use Rattle.act_terms.specs.declared.reference.ReferenceType.{ReferenceType}
use Rattle.act_terms.specs.declared.reference.ReferenceType.TheVariants.{CNT}
use Rattle.serde_json.specs.Data.{Data, array, depth}
use Rattle.serde_json.specs.Find.{get}

-- ---- the contracts that stand in a contract

-- contracts may stand in one of a type that has a structure
abbrev pub has_inline_by : Result ContractType TermsFault → Bool
has_inline_by (Ok type) = has_structure type
has_inline_by (Err fault) = false

abbrev pub has_inline : Data → Bool
has_inline contract = has_inline_by (contract_type contract)

-- the elements of a structure that is a list
abbrev pub elements_where_listed : Option Data → List Data
elements_where_listed (Some (array items)) = listed items
elements_where_listed other = []

-- the elements of a contract's structure, where its type has one
abbrev pub elements_in_structure : Data → List Data
elements_in_structure contract =
    if has_inline contract then elements_where_listed (get (codes "contractStructure") contract) else []

-- a reference is to a contract that stands in its element
abbrev pub is_inside : Result (Option ReferenceType) JsonFault → Bool
is_inside (Ok (Some CNT)) = true
is_inside other = false

-- the contract that stands in an element, where one does
abbrev pub contract_in : Data → Option Data
contract_in element =
    if is_inside (choice_field reference_type_named (codes "referenceType") element) then inner_object element else None

-- an object stands in an element
abbrev pub has_object : Data → Bool
has_object element = is_some (inner_object element)

-- the contracts that stand in a contract, in the order of its structure
unfoldable pub inline_contracts : Data → List Data
inline_contracts contract = filter_map contract_in (elements_in_structure contract)

-- ---- portfolio order

-- a contract and behind it those that stand in it, and so on over so many levels
unfoldable pub nested : ℕ → Data → List Data
nested zero contract = contract ∷ []
nested (suc n) contract = contract ∷ flat_map (nested n) (inline_contracts contract)

-- a contract and behind it those that stand in it, each with those that stand in that; they nest less deep than the contract's own JSON
abbrev pub with_inline : Data → List Data
with_inline contract = nested (depth contract) contract

-- the contracts of a file in portfolio order
abbrev pub in_portfolio_order : List Data → List Data
in_portfolio_order contracts = flat_map with_inline contracts
