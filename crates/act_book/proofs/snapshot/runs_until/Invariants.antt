use Rattle.std.proofs.Common.{◌≡◌, ◌*◌, ◌≤◌, ◌++◌, length, take, reverse}
use Rattle.act_book.specs.Runs.{chunk, entries_of}
use Rattle.act_book.proofs.snapshot.runs_until.Given as goal

abbrev pub invariant-loop-front : goal.invariant-loop-front
invariant-loop-front l = record {
  within : l.front ≤ length l.runs;
  joined : take (chunk * l.front) l.entries.items ++ entries_of (reverse l.shared.items) ≡ take (chunk * l.chunks) l.entries.items;
}

abbrev pub decreases-loop-front : goal.decreases-loop-front
decreases-loop-front l = l.front
