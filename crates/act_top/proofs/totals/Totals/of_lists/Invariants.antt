use Rattle.std.proofs.Common.{drop}
use Rattle.act_history.specs.History.{replies_of}
use Rattle.act_top.proofs.Counting.{Unadded}
use Rattle.act_top.proofs.totals.Totals.of_lists.Given as goal

-- the totals of the lists from this one on are still to be added
abbrev pub invariant-loop-others : goal.invariant-loop-others
invariant-loop-others l = Unadded (record { rows = 0; sum = 0 }) l.totals (replies_of l.lists) (replies_of (drop l.others-index l.lists))
