-- The plan of any contract: its scheduled events in order, or the first fault.
use Rattle.std.specs.Prelude.{ℕ, length, Option, Some, None, Result, Ok, Err}
use Rattle.act_model.specs.Run.{EventPlan}
use Rattle.act_model.specs.declared.run.PlanFault.{PlanFault}
use Rattle.act_model.specs.declared.run.PlanFault.TheVariants.{DateRange}
use Rattle.act_model.specs.declared.terms.Common.{Common}
use Rattle.act_model.specs.declared.terms.Kind.{Kind}
use Rattle.act_model.specs.declared.terms.Kind.TheVariants as kind
use Rattle.act_model.specs.declared.terms.Terms.{Terms}
use Rattle.act_profile.specs.Credit.{guarantee_plan}
use Rattle.act_profile.specs.Equity.{outright_plan}
use Rattle.act_profile.specs.Exercise.{exercise_plan}
use Rattle.act_profile.specs.LoanTerms.{LoanTerms, loan_terms_or_fault}
use Rattle.act_profile.specs.LoanPlan.{loan_plan}
use Rattle.act_profile.specs.Order.{in_order}
use Rattle.act_profile.specs.Outcomes.{then_ok}
use Rattle.act_profile.specs.Swap.{plain_swap_plan}
use Rattle.act_profile.specs.Trade.{plain_plan, trade_events}

-- the plan of a loan, or why it has no maturity; other kinds don't come here
abbrev pub loan_terms_plan : Option (Result LoanTerms PlanFault) → Result EventPlan PlanFault
loan_terms_plan None = Err DateRange
loan_terms_plan (Some lending) = then_ok loan_plan lending

-- the purchase and the termination alone
abbrev pub trade_plan : Common → Result EventPlan PlanFault
trade_plan common = Ok (plain_plan (in_order (trade_events common)))

-- the plan by kind
abbrev pub plan_by : Common → Kind → Result EventPlan PlanFault
plan_by common (kind.STK stk) = trade_plan common
plan_by common (kind.FXOUT fxout) = outright_plan common fxout
plan_by common (kind.SWPPV swppv) = plain_swap_plan common swppv
plan_by common (kind.SWAPS swaps) = trade_plan common
plan_by common (kind.CAPFL capfl) = trade_plan common
plan_by common (kind.OPTNS optns) = Ok (exercise_plan common optns.settlement_period optns.maturity_date)
plan_by common (kind.FUTUR futur) = Ok (exercise_plan common futur.settlement_period futur.maturity_date)
plan_by common (kind.CEG ceg) = guarantee_plan common ceg
plan_by common (kind.CEC cec) = guarantee_plan common cec.guarantee
plan_by common loan = loan_terms_plan (loan_terms_or_fault common loan)

-- the plan of terms
abbrev pub plan_of : Terms → Result EventPlan PlanFault
plan_of terms = plan_by terms.common terms.kind

-- how many scheduled events a plan counts: of a guarantee two, a credit event and its settlement
abbrev pub own_count : Kind → EventPlan → ℕ
own_count (kind.CEG ceg) plan = 2
own_count (kind.CEC cec) plan = 2
own_count other plan = length plan.events
