use Rattle.std.proofs.Common.{◌≡◌, ◌≤◌}
use Rattle.act_history.specs.History.{History}
use Rattle.act_keeping.specs.Keeping.{Keeps, answered, numbered}
use Rattle.act_board.proofs.claiming.results_of.Given as goal

-- those of the contracts before this one
abbrev pub invariant-loop-contract : goal.invariant-loop-contract
invariant-loop-contract l = record {
  order : l.first ≤ l.contract;
  runs : (history : History) → Keeps l.portfolio l.pairs history → numbered l.runs.items ≡ answered history l.version l.first l.contract;
}
