use Rattle.std.proofs.Common.{◌≤◌, ◌*◌, ◌^◌, drop}
use Rattle.act_top.specs.Totals.{rows_of_runs}
use Rattle.act_transcript.specs.Text.{shared_runs}
use Rattle.act_top.proofs.Counting.{Uncounted}
use Rattle.act_top.proofs.totals.Totals.of_runs.Given as goal

-- the rows of the runs from this one on are still to be counted, and each run before it has fewer than 2^64
abbrev pub invariant-loop-run : goal.invariant-loop-run
invariant-loop-run l = record {
  counted : Uncounted (record { rows = 0; sum = 0 }) l.totals (rows_of_runs (shared_runs l.runs)) (rows_of_runs (shared_runs (drop l.run-index l.runs)));
  few : l.totals.rows ≤ l.run-index * 2 ^ 64;
}
