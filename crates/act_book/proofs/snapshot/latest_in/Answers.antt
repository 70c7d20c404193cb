use Rattle.std.proofs.Common.{[], take, sym, ap, ◌∙◌}
use Rattle.std.specs.Arc.{arc_value}
use Rattle.act_model.specs.Latest.{later}
use Rattle.act_book.specs.Rates.{latest_rate}
use Rattle.act_book.specs.Runs.{entries_of}
use Rattle.act_book.proofs.LatestRate.{latest_joined, walked}
use Rattle.act_book.proofs.RunLists.{entries_more}
use Rattle.act_book.proofs.snapshot.latest_in.Goals as goal

pub loop-run-init : goal.loop-run-init
loop-run-init c = sym (walked c.args.code c.args.until [])

pub loop-run-preserved : goal.loop-run-preserved
loop-run-preserved c =
    let code = c.args.code in
    let until = c.args.until in
    let runs = c.args.runs.now in
    let i = c.loop-run.run-index in
    let run = c.run-item.result in
    c.later-latest.ensures ∙ ap (λ first. later first c.latest.result) c.loop-run.invariant
    ∙ ap (later (latest_rate (entries_of (take i runs)) code until)) (c.latest.ensures ∙ ap (λ entries. latest_rate entries code until) c.deref.ensures)
    ∙ sym (latest_joined code until (entries_of (take i runs)) (arc_value run))
    ∙ ap (λ entries. latest_rate entries code until) (sym (entries_more runs i run c.loop-run-test.true c.run-item.is))
