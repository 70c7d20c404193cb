-- What a contract refers to. ACTUS data dictionary.
use Rattle.std.specs.Prelude.{ℕ, List, string_bytes}
use Rattle.act_terms.specs.declared.reference.ReferenceRole.{ReferenceRole}
use Rattle.act_terms.specs.declared.reference.Referred.{Referred}
use Rattle.act_terms.specs.declared.reference.Referred.TheVariants.{Contract, Market}

-- what a reference is to: a contract by its name, or a market object by the number of its code
pub data Target : Type 0 where
  to_contract : List ℕ → Target
  to_market : ℕ → Target

-- a reference: what it is to the contract that has it, and what is referred to
pub record Reference : Type 0 where
  pub role : ReferenceRole
  pub object : Target

-- what is referred to, with the bytes of a name
abbrev pub target_of : Referred → Target
target_of (Contract name) = to_contract (string_bytes name)
target_of (Market code) = to_market code
