use Rattle.std.proofs.Common.{length, ap, ◌∙◌, arith}
use Rattle.std.proofs.lemmas.List.Folds.{length-flat_map-take}
use Rattle.std.specs.Arc.{arc_value}
use Rattle.act_book.proofs.recent.count_of.Goals as goal

pub overflow_add-count : goal.overflow_add-count
overflow_add-count c =
    let run = c.run-item.result in
    let most = length-flat_map-take arc_value c.args.runs.now c.loop-run.run-index run c.loop-run-test.true in
    let counted = c.loop-run.invariant in
    omega (arith, ap length (c.entries.ensures ∙ c.deref.ensures), ap (λ run. length (arc_value run)) c.run-item.is)
