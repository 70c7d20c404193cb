-- The plan of a LAM, a NAM or an ANN by its terms as a loan's.
use Rattle.std.proofs.Common.{◌≡◌, true, Some, Result, Ok, Err, sym, ap, ◌∙◌}
use Rattle.act_amort.specs.Kinds.{amortizes}
use Rattle.act_model.specs.Kind.{type_of}
use Rattle.act_model.specs.Run.{EventPlan}
use Rattle.act_model.specs.declared.run.PlanFault.{PlanFault}
use Rattle.act_model.specs.declared.terms.Common.{Common}
use Rattle.act_model.specs.declared.terms.Kind.{Kind}
use Rattle.act_model.specs.declared.terms.Kind.TheVariants as kind
use Rattle.act_model.specs.declared.terms.Terms.{Terms}
use Rattle.act_profile.specs.LoanPlan.{loan_plan}
use Rattle.act_profile.specs.LoanTerms.{LoanTerms, loan_terms_or_fault}
use Rattle.act_profile.specs.Outcomes.{then_ok}
use Rattle.act_profile.specs.Plan.{loan_terms_plan, plan_by, plan_of}

plan_by_terms : (common : Common) (contract : Kind) (lending : Result LoanTerms PlanFault) → amortizes (type_of contract) ≡ true → loan_terms_or_fault common contract ≡ Some lending →
    plan_by common contract ≡ then_ok loan_plan lending
plan_by_terms common (kind.LAM lam) lending is terms = ap loan_terms_plan terms
plan_by_terms common (kind.NAM nam) lending is terms = ap loan_terms_plan terms
plan_by_terms common (kind.ANN ann) lending is terms = ap loan_terms_plan terms
plan_by_terms common other lending is terms = absurd (cc)

pub plan_of_terms : (terms : Terms) (lending : Result LoanTerms PlanFault) → amortizes (type_of terms.kind) ≡ true → loan_terms_or_fault terms.common terms.kind ≡ Some lending →
    plan_of terms ≡ then_ok loan_plan lending
plan_of_terms terms lending is lent = plan_by_terms terms.common terms.kind lending is lent

-- without a maturity there is no plan
pub no_plan_without_terms : (terms : Terms) (plan : EventPlan) (fault : PlanFault) → amortizes (type_of terms.kind) ≡ true → plan_of terms ≡ Ok plan →
    loan_terms_or_fault terms.common terms.kind ≡ Some (Err fault) → ⊥
no_plan_without_terms terms plan fault is planned lent =
    let none : Err fault ≡ Ok plan = sym (plan_of_terms terms (Err fault) is lent) ∙ planned in cc
