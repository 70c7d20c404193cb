use Rattle.std.proofs.Common.{sym, ◌∙◌, Ok}
use Rattle.act_amort.proofs.LoanPlans.{plan_of_terms}
use Rattle.act_amort.proofs.amort.schedule.Goals as goal

pub returns-in-Ok : goal.returns-in-Ok
returns-in-Ok c memory = c.plan.ensures memory ∙ sym (plan_of_terms c.args.terms.now (Ok c.in-Ok.loan) c.requires.kind c.in-Ok.ensures.loan)
