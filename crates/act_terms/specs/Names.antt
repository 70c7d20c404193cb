-- The names that terms give, and their numbers. This profile's own.
use Rattle.std.specs.Prelude.{ℕ, ◌&&◌, not, if◌then◌else◌, Bool, true, false, List, ◌++◌, codes, Option, Some, None, Result, Ok}
use Rattle.std.specs.Str.{bytes_eq}
use Rattle.act_json.specs.Fields.{field_of, meaning_of, word_field}
use Rattle.act_json.specs.declared.fault.JsonFault.{JsonFault}
use Rattle.act_json.specs.declared.fault.JsonFault.TheVariants.{BadName}
use Rattle.act_model.specs.Name.{is_currency, is_name}
use Rattle.act_model.specs.Names.{NameLists, number_of, with_name}
use Rattle.act_model.specs.declared.choice.ContractType.{ContractType}
use Rattle.act_model.specs.declared.choice.ContractType.TheVariants as type
use Rattle.act_terms.specs.Fault.{◌>>=◌}
use Rattle.act_terms.specs.Fields.{needed, needed_where, optional}
use Rattle.act_terms.specs.declared.currencies.Currencies.{Currencies}
use Rattle.act_terms.specs.declared.fault.TermsFault.{TermsFault}
use Rattle.serde_json.specs.Data.{Data}

-- ---- names of contracts

-- the name of a contract: any name but a star
abbrev pub id_named : List ℕ → Option (List ℕ)
id_named text = if is_name text && not (bytes_eq text (codes "*")) then Some text else None

-- contractID
unfoldable pub contract_id : Data → Result (List ℕ) TermsFault
contract_id contract = needed (codes "contractID") (meaning_of id_named BadName (field_of (codes "contractID") contract))

-- ---- names of market objects, which are called codes

-- the number of a code, where it is given, and the names with it
abbrev pub numbered : Option (List ℕ) → NameLists → Option ℕ × NameLists
numbered None names = (None, names)
numbered (Some code) names = (Some (number_of code names.codes), record names { codes = with_name code names.codes })

-- a term that names a market object, required where something holds
unfoldable pub code_where : Bool → List ℕ → NameLists → Data → Result (Option ℕ × NameLists) TermsFault
code_where wanted term names contract = do
  code ← needed_where wanted term (word_field term contract)
  Ok (numbered code names)

-- ---- currencies

-- the name of a currency
abbrev pub currency_named : List ℕ → Option (List ℕ)
currency_named text = if is_currency text then Some text else None

abbrev pub currency_field : List ℕ → Data → Result (Option (List ℕ)) JsonFault
currency_field term contract = meaning_of currency_named BadName (field_of term contract)

-- the number of a currency, and the names with it
abbrev pub with_currency : List ℕ → NameLists → ℕ × NameLists
with_currency currency names = (number_of currency names.currencies, record names { currencies = with_name currency names.currencies })

-- the code of the rate between two currencies, as `EUR/USD`
abbrev pub pair_name : List ℕ → List ℕ → List ℕ
pair_name currency other = currency ++ codes "/" ++ other

-- the number of the code of the rate between a currency and the one of settlement, where they differ, and the names with it
abbrev pub with_factor : List ℕ → List ℕ → NameLists → Option ℕ × NameLists
with_factor currency settlement names =
    if bytes_eq currency settlement then (None, names) else numbered (Some (pair_name currency settlement)) names

-- the numbers of a currency, of the one of settlement where it is given, and of the code between the two where they differ
abbrev pub numbered_currencies : List ℕ → Option (List ℕ) → NameLists → Currencies × NameLists
numbered_currencies currency None names =
    let first = with_currency currency names in
    (record { currency = first.0; settlement_currency = None; factor = None }, first.1)
numbered_currencies currency (Some settlement) names =
    let first = with_currency currency names in
    let second = with_currency settlement first.1 in
    let factor = with_factor currency settlement second.1 in
    (record { currency = first.0; settlement_currency = Some second.0; factor = factor.0 }, factor.1)

-- contracts of a type may be settled in another currency; an outright is not, and doesn't use settlementCurrency
abbrev pub may_settle : ContractType → Bool
may_settle type.FXOUT = false
may_settle other = true

-- settlementCurrency, of a type that uses it
unfoldable pub settlement_of : ContractType → Data → Result (Option (List ℕ)) TermsFault
settlement_of type contract =
    if may_settle type then optional (codes "settlementCurrency") (currency_field (codes "settlementCurrency") contract) else Ok None

-- currency and settlementCurrency of a contract of that type
unfoldable pub currencies_of : ContractType → NameLists → Data → Result (Currencies × NameLists) TermsFault
currencies_of type names contract = do
  currency ← needed (codes "currency") (currency_field (codes "currency") contract)
  settlement ← settlement_of type contract
  Ok (numbered_currencies currency settlement names)
