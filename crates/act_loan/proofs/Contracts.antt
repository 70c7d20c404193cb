-- A loan's plan, starting state and steps as those of a contract.
use Rattle.std.proofs.Common.{◌≡◌, ℤ, List, [], Some, Result, Ok, Err, refl, sym, ap, ◌∙◌}
use Rattle.std.proofs.lemmas.Option.{none-some, same_Some}
use Rattle.std.specs.Option.{ok_or}
use Rattle.std.specs.Result.{result_ok}
use Rattle.act_model.specs.Run.{EventPlan, Stream}
use Rattle.act_model.specs.declared.event.Event.{Event}
use Rattle.act_model.specs.declared.event.EventType.{EventType}
use Rattle.act_model.specs.declared.event.EventType.TheVariants.{IED, XD}
use Rattle.act_model.specs.declared.observed.Obs.{Obs}
use Rattle.act_model.specs.declared.run.PlanFault.{PlanFault}
use Rattle.act_model.specs.declared.run.Stop.TheVariants.{Overflow}
use Rattle.act_model.specs.declared.state.State.{State}
use Rattle.act_model.specs.declared.terms.Common.{Common}
use Rattle.act_model.specs.declared.terms.Kind.{Kind}
use Rattle.act_model.specs.declared.terms.Kind.TheVariants as kind
use Rattle.act_model.specs.declared.terms.Terms.{Terms}
use Rattle.act_profile.specs.Dates.{maturity_of_lam}
use Rattle.act_profile.specs.Loan.{before_event, loan_line, loan_state}
use Rattle.act_profile.specs.LoanPlan.{loan_plan, parts_between}
use Rattle.act_profile.specs.LoanTerms.{LoanTerms, loan_terms_of}
use Rattle.act_profile.specs.Outcomes.{map_ok, then_ok}
use Rattle.act_profile.specs.Plan.{plan_by, plan_of}
use Rattle.act_profile.specs.Steps.{accrual_by, guarantee_step_by, line_by, loan_accrual_by, loan_line_by, loan_state_of, start_of, state_by, step_by_line, step_of}
use Rattle.act_loan.proofs.Plans.{periods_of_plan}

-- ---- the plan

derived_plan : (f : ℤ → LoanTerms) (maturity : Result ℤ PlanFault) (l : LoanTerms) → result_ok (map_ok f maturity) ≡ Some l → then_ok loan_plan (map_ok f maturity) ≡ loan_plan l
derived_plan f (Ok maturity) l is = ap loan_plan (same_Some (f maturity) l is)
derived_plan f (Err fault) l is = absurd (none-some l is)

plan_by_loan : (common : Common) (contract : Kind) (l : LoanTerms) → loan_terms_of common contract ≡ Some l → plan_by common contract ≡ loan_plan l
plan_by_loan common (kind.PAM pam) l is = ap loan_plan (same_Some _ l is)
plan_by_loan common (kind.LAM lam) l is = derived_plan _ (maturity_of_lam lam) l is
plan_by_loan common (kind.NAM nam) l is = ap loan_plan (same_Some _ l is)
plan_by_loan common (kind.ANN ann) l is = ap loan_plan (same_Some _ l is)
plan_by_loan common other l is = absurd (none-some l is)

pub plan_of_loan : (terms : Terms) (l : LoanTerms) → loan_terms_of terms.common terms.kind ≡ Some l → plan_of terms ≡ loan_plan l
plan_of_loan terms l is = plan_by_loan terms.common terms.kind l is

pub periods_of : (terms : Terms) (l : LoanTerms) (plan : EventPlan) → loan_terms_of terms.common terms.kind ≡ Some l → plan_of terms ≡ Ok plan → plan.periods ≡ parts_between l plan.redemptions
periods_of terms l plan is planned = periods_of_plan l plan (sym (plan_of_loan terms l is) ∙ planned)

-- ---- the starting state

state_by_loan : (common : Common) (contract : Kind) (plan : EventPlan) (l : LoanTerms) → loan_terms_of common contract ≡ Some l → state_by common contract plan ≡ loan_state l plan
state_by_loan common (kind.PAM pam) plan l is = ap (loan_state_of plan) is
state_by_loan common (kind.LAM lam) plan l is = ap (loan_state_of plan) is
state_by_loan common (kind.NAM nam) plan l is = ap (loan_state_of plan) is
state_by_loan common (kind.ANN ann) plan l is = ap (loan_state_of plan) is
state_by_loan common other plan l is = absurd (none-some l is)

pub start_of_loan : (terms : Terms) (plan : EventPlan) (l : LoanTerms) → loan_terms_of terms.common terms.kind ≡ Some l → start_of terms plan ≡ ok_or (loan_state l plan) (Overflow terms.common.status_date IED)
unfolding start_of
start_of_loan terms plan l is = ap (λ state. ok_or state (Overflow terms.common.status_date IED)) (state_by_loan terms.common terms.kind plan l is)

-- ---- the steps

line_by_loan : (common : Common) (contract : Kind) (plan : EventPlan) (children : List Stream) (event : Event) (l : LoanTerms) → loan_terms_of common contract ≡ Some l → line_by common contract plan children event ≡ loan_line l plan event
line_by_loan common (kind.PAM pam) plan children event l is = ap (loan_line_by plan event) is
line_by_loan common (kind.LAM lam) plan children event l is = ap (loan_line_by plan event) is
line_by_loan common (kind.NAM nam) plan children event l is = ap (loan_line_by plan event) is
line_by_loan common (kind.ANN ann) plan children event l is = ap (loan_line_by plan event) is
line_by_loan common other plan children event l is = absurd (none-some l is)

accrual_by_loan : (common : Common) (contract : Kind) (event : Event) (l : LoanTerms) → loan_terms_of common contract ≡ Some l → accrual_by common contract event ≡ before_event l event.kind event.calc
accrual_by_loan common (kind.PAM pam) event l is = ap (loan_accrual_by event) is
accrual_by_loan common (kind.LAM lam) event l is = ap (loan_accrual_by event) is
accrual_by_loan common (kind.NAM nam) event l is = ap (loan_accrual_by event) is
accrual_by_loan common (kind.ANN ann) event l is = ap (loan_accrual_by event) is
accrual_by_loan common other event l is = absurd (none-some l is)

no_guarantee : (type : EventType) (terms : Terms) (plan : EventPlan) (entries : List Obs) (children : List Stream) (s : State) (event : Event) (contract : Kind) (l : LoanTerms) → loan_terms_of terms.common contract ≡ Some l →
    guarantee_step_by type terms plan entries children s event contract ≡ step_by_line terms plan entries children s event
no_guarantee XD terms plan entries children s event (kind.CEG ceg) l is = absurd (none-some l is)
no_guarantee XD terms plan entries children s event (kind.CEC cec) l is = absurd (none-some l is)
no_guarantee XD terms plan entries children s event contract l is = refl
no_guarantee type terms plan entries children s event contract l is = refl

pub step_of_loan : (terms : Terms) (plan : EventPlan) (entries : List Obs) (s : State) (event : Event) (l : LoanTerms) → loan_terms_of terms.common terms.kind ≡ Some l →
    step_by_line terms plan entries [] s event ≡ step_of terms plan entries [] s event
unfolding step_of
step_of_loan terms plan entries s event l is = sym (no_guarantee event.kind terms plan entries [] s event terms.kind l is)

-- ---- a loan's table

module _ (terms : Terms) (plan : EventPlan) (event : Event) (l : LoanTerms) (table : LoanTerms × EventPlan) (is : loan_terms_of terms.common terms.kind ≡ Some l) (parts : table ≡ (l, plan)) where
  pub line_of_table : loan_line table.0 table.1 event ≡ line_by terms.common terms.kind plan [] event
  line_of_table = rw parts (sym (line_by_loan terms.common terms.kind plan [] event l is))

  pub accrual_of_table : (λ state. before_event table.0 event.kind event.calc state) ≡ accrual_by terms.common terms.kind event
  accrual_of_table = rw parts (sym (accrual_by_loan terms.common terms.kind event l is))
