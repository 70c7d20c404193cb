use Rattle.std.proofs.Common.{List, Vec, Global, ap, arith}
use Rattle.act_history.specs.History.{replies_of}
use Rattle.act_top.specs.declared.totals.Totals.{Totals}
use Rattle.act_top.proofs.Counting.{added-from-none, unadded-all, unadded-next, unadded-none}
use Rattle.act_engine.proofs.Lists.{drop-next, drop-past}
use Rattle.act_top.proofs.totals.Totals.of_lists.Goals as goal

pub loop-others-init : goal.loop-others-init
loop-others-init c = unadded-all _ _ (omega arith)

pub loop-others-preserved : goal.loop-others-preserved
loop-others-preserved c =
    let here = drop-next c.args.lists.now c.loop-others.others-index c.others-item.result c.loop-others-test.true c.others-item.is in
    unadded-next _ _ _ _ _ _ _ c.loop-others.invariant (ap (λ (ls : List (Vec Totals Global)). replies_of ls) here) (rw c.deref.ensures.value at c.in_ok-add_all.ensures)

pub returns : goal.returns
returns c =
    added-from-none _ _ (unadded-none _ _ _ _ c.loop-others.invariant
    (ap (λ (ls : List (Vec Totals Global)). replies_of ls) (drop-past c.args.lists.now c.loop-others.others-index c.loop-others-test.false)))
