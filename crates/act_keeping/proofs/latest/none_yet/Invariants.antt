use Rattle.std.proofs.Common.{◌-◌, ◌≤◌, length}
use Rattle.act_keeping.specs.Latest.{NoneYet}
use Rattle.act_keeping.proofs.latest.none_yet.Given as goal

abbrev pub invariant-loop-latest : goal.invariant-loop-latest
invariant-loop-latest l = NoneYet (length l.latest.items) l.latest.items × (length l.latest.items ≤ l.contracts)

abbrev pub decreases-loop-latest : goal.decreases-loop-latest
decreases-loop-latest l = l.contracts - length l.latest.items
