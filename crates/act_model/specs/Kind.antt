-- The kinds of contracts, their types and the names of these. ACTUS data dictionary.
use Rattle.std.specs.Prelude.{ℕ, ℤ, List, [], ◌∷◌, codes, Option, Some, None}
use Rattle.std.specs.List.{find}
use Rattle.std.specs.Str.{bytes_eq}
use Rattle.act_model.specs.declared.choice.ContractType.{ContractType}
use Rattle.act_model.specs.declared.choice.ContractType.TheVariants as type
use Rattle.act_model.specs.declared.terms.Kind.{Kind}
use Rattle.act_model.specs.declared.terms.Kind.TheVariants as kind
use Rattle.act_model.specs.declared.terms.Loan.{Loan}

-- the types of contracts
abbrev pub contract_types : List ContractType
contract_types =
    type.PAM ∷ type.LAM ∷ type.NAM ∷ type.ANN ∷ type.STK ∷ type.FXOUT ∷ type.SWPPV ∷ type.SWAPS ∷ type.CAPFL ∷ type.OPTNS ∷ type.FUTUR ∷ type.CEG ∷ type.CEC ∷ []

-- the ACTUS name of a type
abbrev pub type_name : ContractType → List ℕ
type_name type.PAM = codes "PAM"
type_name type.LAM = codes "LAM"
type_name type.NAM = codes "NAM"
type_name type.ANN = codes "ANN"
type_name type.STK = codes "STK"
type_name type.FXOUT = codes "FXOUT"
type_name type.SWPPV = codes "SWPPV"
type_name type.SWAPS = codes "SWAPS"
type_name type.CAPFL = codes "CAPFL"
type_name type.OPTNS = codes "OPTNS"
type_name type.FUTUR = codes "FUTUR"
type_name type.CEG = codes "CEG"
type_name type.CEC = codes "CEC"

-- the type of that name
unfoldable pub type_named : List ℕ → Option ContractType
type_named name = find (λ type. bytes_eq (type_name type) name) contract_types

-- the type of a contract
abbrev pub type_of : Kind → ContractType
type_of (kind.PAM pam) = type.PAM
type_of (kind.LAM lam) = type.LAM
type_of (kind.NAM nam) = type.NAM
type_of (kind.ANN ann) = type.ANN
type_of (kind.STK stk) = type.STK
type_of (kind.FXOUT fxout) = type.FXOUT
type_of (kind.SWPPV swppv) = type.SWPPV
type_of (kind.SWAPS swaps) = type.SWAPS
type_of (kind.CAPFL capfl) = type.CAPFL
type_of (kind.OPTNS optns) = type.OPTNS
type_of (kind.FUTUR futur) = type.FUTUR
type_of (kind.CEG ceg) = type.CEG
type_of (kind.CEC cec) = type.CEC

-- the terms that all loans have
abbrev pub loan_of : Kind → Option Loan
loan_of (kind.PAM pam) = Some pam.loan
loan_of (kind.LAM lam) = Some lam.loan
loan_of (kind.NAM nam) = Some nam.loan
loan_of (kind.ANN ann) = Some ann.loan
loan_of other = None

-- the initial exchange of a loan or a plain swap; the other kinds have none
abbrev pub exchange_of : Kind → Option ℤ
exchange_of (kind.PAM pam) = Some pam.loan.initial_exchange_date
exchange_of (kind.LAM lam) = Some lam.loan.initial_exchange_date
exchange_of (kind.NAM nam) = Some nam.loan.initial_exchange_date
exchange_of (kind.ANN ann) = Some ann.loan.initial_exchange_date
exchange_of (kind.SWPPV swppv) = Some swppv.initial_exchange_date
exchange_of other = None
