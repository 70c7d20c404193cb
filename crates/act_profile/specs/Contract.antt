-- What terms say of a contract, whatever its kind. ACTUS data dictionary.
use Rattle.std.specs.Prelude.{ℕ, Bool, true, false, ℤ, Option, None}
use Rattle.std.specs.Option.{unwrap_or}
use Rattle.act_model.specs.declared.choice.ContractType.{ContractType}
use Rattle.act_model.specs.declared.choice.ContractType.TheVariants as type
use Rattle.act_model.specs.declared.terms.Common.{Common}
use Rattle.act_model.specs.declared.terms.Kind.{Kind}
use Rattle.act_model.specs.declared.terms.Kind.TheVariants as kind

-- a loan
abbrev pub is_loan_type : ContractType → Bool
is_loan_type type.PAM = true
is_loan_type type.LAM = true
is_loan_type type.NAM = true
is_loan_type type.ANN = true
is_loan_type other = false

-- the contract whose observed events count: a shadow has those of its underlying
abbrev pub observed_as : Common → ℕ
observed_as common = unwrap_or common.underlying common.contract

-- the purchase date; a guarantee isn't bought
abbrev pub purchase_of : Common → Kind → Option ℤ
purchase_of common (kind.CEG ceg) = None
purchase_of common (kind.CEC cec) = None
purchase_of common other = common.purchase_date

-- the code of the settlement factor, which an outright doesn't have
abbrev pub factor_of : Common → Kind → Option ℕ
factor_of common (kind.FXOUT fxout) = None
factor_of common other = common.factor
