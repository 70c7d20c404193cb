use Rattle.std.proofs.Common.{drop}
use Rattle.act_top.proofs.Counting.{Unadded}
use Rattle.act_top.proofs.totals.Totals.add_all.Given as goal

-- the totals from these on are still to be added
abbrev pub invariant-loop-other : goal.invariant-loop-other
invariant-loop-other l = Unadded l.fn.self l.self l.others (drop l.other-index l.others)
