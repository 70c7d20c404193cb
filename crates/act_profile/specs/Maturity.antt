-- The maturity of a contract, where it has one; of a LAM that gives none the derived one. ACTUS data dictionary.
use Rattle.std.specs.Prelude.{ℤ, Option, Some, None, option_map}
use Rattle.act_model.specs.declared.terms.Common.{Common}
use Rattle.act_model.specs.declared.terms.Kind.{Kind}
use Rattle.act_model.specs.declared.terms.Kind.TheVariants as kind
use Rattle.act_model.specs.declared.terms.Terms.{Terms}
use Rattle.act_profile.specs.LoanTerms.{loan_terms_of}

-- the maturity by kind
abbrev pub maturity_by : Common → Kind → Option ℤ
maturity_by common (kind.STK stk) = None
maturity_by common (kind.FXOUT fxout) = Some fxout.maturity_date
maturity_by common (kind.SWPPV swppv) = Some swppv.maturity_date
maturity_by common (kind.SWAPS swaps) = None
maturity_by common (kind.CAPFL capfl) = capfl.maturity_date
maturity_by common (kind.OPTNS optns) = Some optns.maturity_date
maturity_by common (kind.FUTUR futur) = Some futur.maturity_date
maturity_by common (kind.CEG ceg) = ceg.maturity_date
maturity_by common (kind.CEC cec) = cec.guarantee.maturity_date
maturity_by common loan = option_map (λ l. l.maturity) (loan_terms_of common loan)

-- the maturity of a contract
unfoldable pub maturity_of : Terms → Option ℤ
maturity_of terms = maturity_by terms.common terms.kind
