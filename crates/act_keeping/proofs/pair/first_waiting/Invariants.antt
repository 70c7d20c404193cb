use Rattle.std.proofs.Common.{◌-◌, length}
use Rattle.act_keeping.specs.Keeping.{IsPast}
use Rattle.act_keeping.proofs.pair.first_waiting.Given as goal

-- the pairs before this place don't wait
abbrev pub invariant-loop-place : goal.invariant-loop-place
invariant-loop-place l = IsPast l.pairs l.place

abbrev pub decreases-loop-place : goal.decreases-loop-place
decreases-loop-place l = length l.pairs - l.place
