use Rattle.std.proofs.Common.{◌≡◌, ◌≤◌, not, take}
use Rattle.std.specs.List.{count_by}
use Rattle.act_history.specs.History.{History, has_result}
use Rattle.act_keeping.specs.Keeping.{Keeps}
use Rattle.act_board.proofs.ready.lacking_at.Given as goal

-- those before this one that lack a result are counted
abbrev pub invariant-loop-child : goal.invariant-loop-child
invariant-loop-child l = record {
  few : l.count ≤ l.child-index;
  counted : (history : History) → Keeps l.portfolio l.pairs history → l.count ≡ count_by (λ child. not (has_result history child l.version)) (take l.child-index l.children);
}
