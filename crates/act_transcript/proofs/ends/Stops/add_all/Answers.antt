use Rattle.std.proofs.Common.{refl, ap}
use Rattle.std.specs.List.{list_all}
use Rattle.act_engine.proofs.Lists.{drop-next, drop-past}
use Rattle.act_transcript.specs.Ends.{ends_well}
use Rattle.act_transcript.proofs.Adding.{and-done, and-next}
use Rattle.act_transcript.proofs.ends.Stops.add_all.Goals as goal

pub loop-answer-init : goal.loop-answer-init
loop-answer-init c = refl

pub loop-answer-preserved : goal.loop-answer-preserved
loop-answer-preserved c =
    let here = drop-next c.args.answers.now c.loop-answer.answer-index c.answer-item.result c.loop-answer-test.true c.answer-item.is in
    and-next _ _ _ _ _ _ c.loop-answer.invariant (ap (list_all ends_well) here) c.add.ensures

pub returns : goal.returns
returns c = and-done _ _ _ c.loop-answer.invariant (ap (list_all ends_well) (drop-past c.args.answers.now c.loop-answer.answer-index c.loop-answer-test.false))
