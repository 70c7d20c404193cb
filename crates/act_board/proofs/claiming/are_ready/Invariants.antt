use Rattle.std.proofs.Common.{◌≡◌, ℕ, ◌<◌, ◌≤◌, true}
use Rattle.act_history.specs.History.{History, has_result}
use Rattle.act_keeping.specs.Keeping.{Keeps}
use Rattle.act_board.proofs.claiming.are_ready.Given as goal

-- those from this one on have results
abbrev pub invariant-loop-left : goal.invariant-loop-left
invariant-loop-left l = record {
  within : l.left ≤ l.end;
  ready : (history : History) → Keeps l.portfolio l.pairs history → (k : ℕ) → l.left ≤ k → k < l.end → has_result history k l.version ≡ true;
}

abbrev pub decreases-loop-left : goal.decreases-loop-left
decreases-loop-left l = l.left
