use Rattle.std.proofs.Common.{◌≡◌, ◌≤◌, ◌++◌, length, take}
use Rattle.act_book.specs.Runs.{entries_of}
use Rattle.act_book.proofs.recent.push_within.Given as goal

abbrev pub invariant-loop-run : goal.invariant-loop-run
invariant-loop-run l = record {
  within : l.count ≤ l.most;
  counted : l.count ≡ length (entries_of (take l.run-index l.runs));
  shared : entries_of l.shared.items ≡ entries_of l.initial.shared.items ++ entries_of (take l.run-index l.runs);
}
