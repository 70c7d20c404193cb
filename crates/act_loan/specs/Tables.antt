-- The table of steps of a contract that is a loan. This profile's own.
use Rattle.std.specs.Prelude.{◌≡◌, Some}
use Rattle.act_model.specs.Run.{EventPlan}
use Rattle.act_model.specs.declared.terms.Terms.{Terms}
use Rattle.act_profile.specs.LoanTerms.{LoanTerms, loan_terms_of}

-- a table is that of a contract's terms as a loan's and of its plan
pub record IsTableOf (table : LoanTerms × EventPlan) (terms : Terms) (plan : EventPlan) : Type 0 where
  pub loan : loan_terms_of terms.common terms.kind ≡ Some table.0
  pub planned : table.1 ≡ plan
