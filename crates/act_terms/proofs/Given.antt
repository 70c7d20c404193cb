-- What a LAM without a maturity has to give.
use Rattle.std.proofs.Common.{◌≡◌, ℕ, ℤ, pos, int_lt, if◌then◌else◌, Bool, true, false, List, IsTrue, is_some, Option, Some, None, Result, Ok, Err, IfOk, refl}
use Rattle.std.specs.Option.{ForSome}
use Rattle.act_json.specs.Fields.{decimal_field}
use Rattle.act_json.specs.declared.fault.JsonFault.{JsonFault}
use Rattle.act_json.specs.declared.fault.JsonFault.TheVariants as json
use Rattle.act_model.specs.declared.terms.Lam.{Lam}
use Rattle.act_profile.specs.Built.{DerivesMaturity}
use Rattle.act_terms.specs.Fields.{bounded, needed_where, positive}
use Rattle.serde_json.specs.Data.{Data}

-- a term that is required and has a bound keeps it
bound_kept : (maturity : Option ℤ) (holds : ℤ → Bool) (term : List ℕ) (value : ℤ) (b : Bool) → holds value ≡ b
    → IfOk (needed_where true term (if b then Ok (Some value) else Err json.BadValue)) (λ read. maturity ≡ None → ForSome read (λ v. holds v ≡ true))
bound_kept maturity holds term value true is = λ none v e. cc
bound_kept maturity holds term value false is = tt

within_bound : (maturity : Option ℤ) (holds : ℤ → Bool) (term : List ℕ) (found : Result (Option ℤ) JsonFault)
    → IfOk (needed_where true term (bounded holds found)) (λ read. maturity ≡ None → ForSome read (λ v. holds v ≡ true))
within_bound maturity holds term (Ok (Some value)) = bound_kept maturity holds term value (holds value) refl
within_bound maturity holds term (Ok None) = tt
within_bound maturity holds term (Err fault) = tt

-- the payment is above 0
pub payment_above_zero : (maturity : Option ℤ) (term : List ℕ) (contract : Data) → IfOk (needed_where true term (positive term contract)) (λ payment. maturity ≡ None → ForSome payment (λ p. int_lt (pos 0) p ≡ true))
unfolding positive
payment_above_zero maturity term contract = within_bound maturity (int_lt (pos 0)) term (decimal_field term contract)

-- what is asked of a LAM: where no maturity is given, the payment is, above 0, and so is the cycle
pub derives : (lam : Lam) (maturity : Option ℤ) → (maturity ≡ None → ForSome lam.next_principal_redemption_payment (λ p. int_lt (pos 0) p ≡ true))
    → (maturity ≡ None → IsTrue (is_some lam.next_principal_redemption_payment)) → (is_some maturity ≡ false → IsTrue (is_some lam.redemption.cycle_of_principal_redemption)) → DerivesMaturity lam maturity
derives lam (Some maturity) above given cycle = tt
derives lam None above given cycle = (above refl, given refl, cycle refl)
