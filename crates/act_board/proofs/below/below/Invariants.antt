use Rattle.std.proofs.Common.{◌-◌, ◌≤◌, length}
use Rattle.std.specs.List.{range_with_len}
use Rattle.act_keeping.proofs.Marking.{AreMarked}
use Rattle.act_board.proofs.below.below.Given as goal

-- what the contracts from this place of the order on refer to is marked
abbrev pub invariant-loop-place : goal.invariant-loop-place
invariant-loop-place l = record {
  within : l.place ≤ length l.order;
  marked : AreMarked l.portfolio.contracts (range_with_len l.first (l.end - l.first)) l.order l.below.items l.place;
}

abbrev pub decreases-loop-place : goal.decreases-loop-place
decreases-loop-place l = l.place
