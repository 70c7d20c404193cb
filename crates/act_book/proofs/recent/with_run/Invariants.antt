use Rattle.std.proofs.Common.{◌≡◌, ◌≤◌, ◌++◌, length, take}
use Rattle.act_book.specs.Runs.{entries_of}
use Rattle.act_book.proofs.recent.with_run.Given as goal

abbrev pub invariant-loop-front : goal.invariant-loop-front
invariant-loop-front l = record {
  within : l.front ≤ length l.runs;
  joined : entries_of (take l.front l.runs) ++ l.last ≡ entries_of l.runs ++ l.fn.next;
}

abbrev pub decreases-loop-front : goal.decreases-loop-front
decreases-loop-front l = l.front

abbrev pub invariant-loop-run : goal.invariant-loop-run
invariant-loop-run l = entries_of l.more.items ≡ entries_of (take l.run-index l.run-items)
