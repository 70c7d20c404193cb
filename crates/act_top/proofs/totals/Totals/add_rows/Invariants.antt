use Rattle.std.proofs.Common.{drop}
use Rattle.act_top.proofs.Counting.{Uncounted}
use Rattle.act_top.proofs.totals.Totals.add_rows.Given as goal

-- the rows from this one on are still to be counted
abbrev pub invariant-loop-place : goal.invariant-loop-place
invariant-loop-place l = Uncounted l.fn.self l.self l.rows (drop l.place l.rows)
