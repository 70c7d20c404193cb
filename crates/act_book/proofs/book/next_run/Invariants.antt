use Rattle.std.proofs.Common.{◌≡◌, ◌+◌, ◌*◌, ◌<◌, ◌++◌, length, take}
use Rattle.std.specs.Arc.{arc_value}
use Rattle.act_book.specs.Runs.{chunk}
use Rattle.act_book.proofs.book.next_run.Given as goal

abbrev pub invariant-loop-front : goal.invariant-loop-front
invariant-loop-front l = record {
  all : l.front + l.chunks ≡ length l.runs + 1;
  some : 0 < l.chunks;
  joined : take (chunk * l.front) l.entries.items ++ arc_value l.run ≡ take (chunk * (length l.runs + 1)) l.entries.items;
}

abbrev pub decreases-loop-front : goal.decreases-loop-front
decreases-loop-front l = l.front
