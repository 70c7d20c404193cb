-- What is named by the terms of a contract is among the names. This profile's own.
use Rattle.std.specs.Prelude.{ℕ, ◌<◌, ◌≤◌, List, [], length}
use Rattle.std.specs.List.{All}
use Rattle.act_model.specs.Names.{NameLists}
use Rattle.act_model.specs.declared.terms.Kind.{Kind}
use Rattle.act_model.specs.declared.terms.Kind.TheVariants as kind
use Rattle.act_profile.specs.Printable.{IsBelow, OtherIsNamed}
use Rattle.act_profile.specs.Reads.{kind_codes}
use Rattle.act_terms.specs.Contract.{NamedTerms}
use Rattle.act_terms.specs.Reference.{Reference, Target, to_contract, to_market}

-- what a reference is to, where it is a market object, is one of so many codes
abbrev pub TargetIsNamed : ℕ → Target → Type 0
TargetIsNamed codes (to_contract name) = Unit {0}
TargetIsNamed codes (to_market code) = code < codes

-- the codes of a kind but for those that references give
abbrev pub unbound_codes : Kind → List ℕ
unbound_codes (kind.OPTNS optns) = []
unbound_codes (kind.FUTUR futur) = []
unbound_codes (kind.CEG ceg) = []
unbound_codes (kind.CEC cec) = []
unbound_codes other = kind_codes other

-- what the terms of a contract and its references name is among the names
pub record IsNamedIn (names : NameLists) (contract : NamedTerms) : Type 0 where
  pub factor : IsBelow (length names.codes) contract.terms.common.factor
  pub market : IsBelow (length names.codes) contract.terms.common.market_object_code
  pub codes_read : All (λ code. code < length names.codes) (unbound_codes contract.terms.kind)
  pub currency : contract.terms.common.currency < length names.currencies
  pub settlement : IsBelow (length names.currencies) contract.terms.common.settlement_currency
  pub other : OtherIsNamed (length names.currencies) contract.terms.kind
  pub references : All (λ (r : Reference). TargetIsNamed (length names.codes) r.object) contract.references

-- there are as many codes and currencies as before, or more
pub record Grow (before after : NameLists) : Type 0 where
  pub codes : length before.codes ≤ length after.codes
  pub currencies : length before.currencies ≤ length after.currencies
