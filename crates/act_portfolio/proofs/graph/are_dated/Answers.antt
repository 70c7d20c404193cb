use Rattle.std.proofs.Common.{subst}
use Rattle.std.proofs.lemmas.List.{take_all}
use Rattle.std.proofs.lemmas.List.Elements.{All-more}
use Rattle.std.specs.List.{All}
use Rattle.act_model.specs.Bounds.{IsDated}
use Rattle.act_portfolio.proofs.graph.are_dated.Goals as goal

pub loop-plan-preserved : goal.loop-plan-preserved
loop-plan-preserved c =
    All-more IsDated c.args.plans.now c.loop-plan.plan-index c.plan-item.result c.loop-plan-test.true c.loop-plan.invariant (subst IsDated c.plan-item.is c.is_dated.ensures)

pub returns : goal.returns
returns c = subst (All IsDated) (take_all c.loop-plan.plan-index c.args.plans.now c.loop-plan-test.false) c.loop-plan.invariant
