use Rattle.std.proofs.Common.{ℕ, List, ap, ◌∙◌, arith}
use Rattle.std.specs.declared.alloc.Global.{Global}
use Rattle.std.specs.declared.sync.Arc.{Arc}
use Rattle.act_model.specs.Run.{Stream}
use Rattle.act_top.specs.Totals.{rows_of_runs}
use Rattle.act_transcript.specs.Text.{shared_runs}
use Rattle.act_top.proofs.Counting.{counted-from-none, uncounted-all, uncounted-next, uncounted-none}
use Rattle.act_engine.proofs.Lists.{drop-next, drop-past}
use Rattle.act_top.proofs.totals.Totals.of_runs.Goals as goal

pub loop-run-init : goal.loop-run-init
loop-run-init c = record { counted = uncounted-all _ _ (omega arith); few = omega arith }

pub add_rows-requires : goal.add_rows-requires
add_rows-requires c = omega (arith, c.loop-run.invariant.few, c.loop-run-test.true)

pub loop-run-preserved : goal.loop-run-preserved
loop-run-preserved c =
    let here = drop-next c.args.runs.now c.loop-run.run-index c.run-item.result c.loop-run-test.true c.run-item.is in
    let rows = ap (λ (run : Stream). run.rows) (c.behind-run.view_is ∙ c.deref.ensures) in
    record {
      counted = uncounted-next _ _ _ _ _ _ _ c.loop-run.invariant.counted (ap (λ (rs : List (ℕ × Arc Stream Global)). rows_of_runs (shared_runs rs)) here) (rw rows at c.add_rows.ensures.counted);
      few = omega (arith, c.loop-run.invariant.few, c.add_rows.ensures.few);
    }

pub returns : goal.returns
returns c =
    let none = drop-past c.args.runs.now c.loop-run.run-index c.loop-run-test.false in
    counted-from-none _ _ (uncounted-none _ _ _ _ c.loop-run.invariant.counted (ap (λ (rs : List (ℕ × Arc Stream Global)). rows_of_runs (shared_runs rs)) none))
