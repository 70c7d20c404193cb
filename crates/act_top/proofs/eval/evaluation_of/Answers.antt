use Rattle.std.proofs.Common.{length, sym, ap, subst, ◌∙◌}
use Rattle.std.specs.Arc.{arc_value}
use Rattle.act_eval.specs.Evaluation.{IsEvaluable}
use Rattle.act_job.specs.Job.{Job}
use Rattle.act_model.specs.Names.{NameLists}
use Rattle.act_portfolio.specs.Reading.{Accepted}
use Rattle.act_top.proofs.Evals.{only-lines, ready-one}
use Rattle.act_top.proofs.eval.evaluation_of.Goals as goal

pub invariant_of-result : goal.invariant_of-result
invariant_of-result c =
    let j = c.args.job.now in
    let portfolio = ap (λ i. arc_value i.portfolio) c.job-inside.view_is ∙ ap (λ (job : Job). job.portfolio) c.job.view_is in
    let names = ap (λ i. i.scripts.names) c.job-inside.view_is ∙ ap (λ (job : Job). job.scripts.names) c.job.view_is in
    let lists = c.lists.ensures.lists in
    let one = sym lists ∙ only-lines c.lists.result.now c.index-lists-0.result c.deref.result.now (ap length lists ∙ c.requires) c.index-lists-0.is c.deref.ensures.value in
    subst (λ (p : Accepted). IsEvaluable p c.job-inside.inside.0.1.0.names c.deref.result.now) (sym portfolio)
    (subst (λ (n : NameLists). IsEvaluable j.portfolio n c.deref.result.now) (sym names) (ready-one j.portfolio j.scripts j.workers c.deref.result.now c.lists.ensures.ready one))
