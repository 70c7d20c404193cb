use Rattle.act_equity.proofs.Outrights.{few_of_outright, few_of_stock}
use Rattle.act_equity.proofs.equity.schedule.Goals as goal

pub returns-in-STK-clause-never_too_many : goal.returns-in-STK-clause-never_too_many
returns-in-STK-clause-never_too_many c = few_of_stock c.args.terms.now.common c.trade_plan.result c.trade_plan.ensures

pub returns-in-FXOUT-clause-never_too_many : goal.returns-in-FXOUT-clause-never_too_many
returns-in-FXOUT-clause-never_too_many c = few_of_outright _ _ c.plan.result c.plan.ensures
