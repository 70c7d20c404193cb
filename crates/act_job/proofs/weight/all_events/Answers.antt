use Rattle.std.proofs.Common.{◌+◌, List, Vec, Global, drop, arith, ap, ◌∙◌}
use Rattle.std.specs.List.{count_by, sum_by}
use Rattle.std.proofs.lemmas.List.Sums.{sum_by-cons}
use Rattle.act_model.specs.declared.journal.Line.{Line}
use Rattle.act_script.specs.Asks.{line_lists}
use Rattle.act_job.specs.Weight.{is_event}
use Rattle.act_job.proofs.Asking.{events-few}
use Rattle.act_engine.proofs.Lists.{drop-next}
use Rattle.act_job.proofs.weight.all_events.Goals as goal

pub overflow_add-events : goal.overflow_add-events
overflow_add-events c =
    let scripts = c.args.scripts.now in
    let i = c.loop-script.script-index in
    let here = ap (λ (ls : List (Vec Line Global)). sum_by (count_by is_event) (line_lists ls)) (drop-next scripts i c.script-item.result c.loop-script-test.true c.script-item.is)
    ∙ sum_by-cons (count_by is_event) c.script-item.result.items (line_lists (drop (i + 1) scripts)) in
    let count = c.event_count-events.ensures ∙ ap (count_by is_event) c.deref.ensures.value in
    omega (arith, c.requires.few, events-few (line_lists scripts), c.loop-script.invariant, here, count)
