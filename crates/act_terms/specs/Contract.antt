-- A contract of a portfolio file: its name, its terms and what it refers to, or the first of its terms that is refused.
use Rattle.std.specs.Prelude.{ℕ, List, codes, Option, Some, None, Result, Ok}
use Rattle.act_json.specs.Fields.{field_of}
use Rattle.act_json.specs.declared.fault.JsonFault.{JsonFault}
use Rattle.act_model.specs.Names.{NameLists}
use Rattle.act_model.specs.declared.choice.ContractType.{ContractType}
use Rattle.act_model.specs.declared.choice.ContractType.TheVariants as type
use Rattle.act_model.specs.declared.terms.Kind.{Kind}
use Rattle.act_model.specs.declared.terms.Kind.TheVariants as kind
use Rattle.act_model.specs.declared.terms.Terms.{Terms}
use Rattle.act_model.specs.Kind.{type_named}
use Rattle.act_terms.specs.Common.{common_of}
use Rattle.act_terms.specs.Credit.{cec_of, ceg_of}
use Rattle.act_terms.specs.Exchange.{fxout_of}
use Rattle.act_terms.specs.Exercise.{futur_of, optns_of}
use Rattle.act_terms.specs.Fault.{◌>>=◌, no_object, refused}
use Rattle.act_terms.specs.Fields.{needed}
use Rattle.act_terms.specs.Loan.{pam_of}
use Rattle.act_terms.specs.Names.{contract_id}
use Rattle.act_terms.specs.Redemption.{ann_of, lam_of, nam_of}
use Rattle.act_terms.specs.Reference.{Reference}
use Rattle.act_terms.specs.Structure.{references_of}
use Rattle.act_terms.specs.Swap.{capfl_of, swaps_of, swppv_of}
use Rattle.act_terms.specs.declared.fault.TermCause.TheVariants.{UnknownKind}
use Rattle.act_terms.specs.declared.fault.TermsFault.{TermsFault}
use Rattle.serde_json.specs.Data.{Data, object}

-- a contract's name, its terms, and what it refers to in the order of its structure; the terms aren't bound to that yet
pub record NamedTerms : Type 0 where
  pub id : List ℕ
  pub terms : Terms
  pub references : List Reference

-- the type that a text names
abbrev pub type_or_refusal : Option ContractType → Result ContractType TermsFault
type_or_refusal None = refused UnknownKind (codes "contractType")
type_or_refusal (Some type) = Ok type

-- the type that the text of contractType names
abbrev pub type_given : Result (Option (List ℕ)) JsonFault → Result ContractType TermsFault
type_given said = needed (codes "contractType") said >>= (λ text. type_or_refusal (type_named text))

-- contractType
unfoldable pub contract_type : Data → Result ContractType TermsFault
contract_type contract = type_given (field_of (codes "contractType") contract)

-- ---- the own terms of a type

-- terms that name things, as those of a kind, with the names
abbrev pub naming_kind : {A : Type 0} → (A → Kind) → Result (A × NameLists) TermsFault → Result (Kind × NameLists) TermsFault
naming_kind kind read = read >>= (λ terms. Ok (kind terms.0, terms.1))

-- terms that name nothing, as those of a kind
abbrev pub plain_kind : {A : Type 0} → (A → Kind) → NameLists → Result A TermsFault → Result (Kind × NameLists) TermsFault
plain_kind kind names read = read >>= (λ terms. Ok (kind terms, names))

-- the own terms of a type, and the names with those that they give
unfoldable pub kind_of : ContractType → NameLists → Data → Result (Kind × NameLists) TermsFault
kind_of type.PAM names contract = naming_kind kind.PAM (pam_of names contract)
kind_of type.LAM names contract = naming_kind kind.LAM (lam_of names contract)
kind_of type.NAM names contract = naming_kind kind.NAM (nam_of names contract)
kind_of type.ANN names contract = naming_kind kind.ANN (ann_of names contract)
kind_of type.STK names contract = Ok (kind.STK (record {}), names)
kind_of type.FXOUT names contract = naming_kind kind.FXOUT (fxout_of names contract)
kind_of type.SWPPV names contract = naming_kind kind.SWPPV (swppv_of names contract)
kind_of type.SWAPS names contract = plain_kind kind.SWAPS names (swaps_of contract)
kind_of type.CAPFL names contract = plain_kind kind.CAPFL names (capfl_of contract)
kind_of type.OPTNS names contract = plain_kind kind.OPTNS names (optns_of contract)
kind_of type.FUTUR names contract = plain_kind kind.FUTUR names (futur_of contract)
kind_of type.CEG names contract = plain_kind kind.CEG names (ceg_of contract)
kind_of type.CEC names contract = plain_kind kind.CEC names (cec_of contract)

-- the terms of a contract of a type and number, and the names with those that they give: those that every contract has, and then its own
unfoldable pub terms_of : ContractType → ℕ → NameLists → Data → Result (Terms × NameLists) TermsFault
terms_of type number names contract = do
  common ← common_of type number names contract
  own ← kind_of type common.1 contract
  Ok (record { common = common.0; kind = own.0 }, own.1)

-- the name, the terms and the references of an object
unfoldable pub named_terms_of : ℕ → NameLists → Data → Result (NamedTerms × NameLists) TermsFault
named_terms_of number names contract = do
  id ← contract_id contract
  type ← contract_type contract
  terms ← terms_of type number names contract
  references ← references_of type terms.1 contract
  Ok (record { id = id; terms = terms.0; references = references.0 }, references.1)

-- the contract of that number among the names of those before it, and the names with those that its terms and its structure give; or the first of
-- its terms that is refused, the structure behind the others
unfoldable pub contract_of : ℕ → NameLists → Data → Result (NamedTerms × NameLists) TermsFault
contract_of number names (object members) = named_terms_of number names (object members)
contract_of number names other = no_object
