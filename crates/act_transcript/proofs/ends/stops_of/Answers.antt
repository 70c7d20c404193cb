use Rattle.std.proofs.Common.{◌+◌, List, Vec, Global, drop, refl, ap, ◌∙◌}
use Rattle.std.specs.List.{list_all}
use Rattle.std.proofs.lemmas.List.Folds.{list_all-append}
use Rattle.act_engine.proofs.Lists.{drop-next, drop-past}
use Rattle.act_history.specs.History.{replies_of}
use Rattle.act_model.specs.Answer.{Reply}
use Rattle.act_transcript.specs.Ends.{ends_well}
use Rattle.act_transcript.proofs.Adding.{and-done, and-next}
use Rattle.act_transcript.proofs.ends.stops_of.Goals as goal

pub loop-answers-init : goal.loop-answers-init
loop-answers-init c = refl

pub loop-answers-preserved : goal.loop-answers-preserved
loop-answers-preserved c =
    let items = c.answers-item.result.items in
    let left = drop (c.loop-answers.answers-index + 1) c.args.lists.now in
    let here = drop-next c.args.lists.now c.loop-answers.answers-index c.answers-item.result c.loop-answers-test.true c.answers-item.is in
    and-next _ _ _ _ (list_all ends_well items) _ c.loop-answers.invariant
    (ap (λ (ls : List (Vec Reply Global)). list_all ends_well (replies_of ls)) here ∙ list_all-append ends_well items (replies_of left))
    (rw c.deref.ensures.value at c.add_all.ensures)

pub returns : goal.returns
returns c =
    and-done _ _ _ c.loop-answers.invariant
    (ap (λ (ls : List (Vec Reply Global)). list_all ends_well (replies_of ls)) (drop-past c.args.lists.now c.loop-answers.answers-index c.loop-answers-test.false))
