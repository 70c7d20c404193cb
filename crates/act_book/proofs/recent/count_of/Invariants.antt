use Rattle.std.proofs.Common.{◌≡◌, length, take}
use Rattle.act_book.specs.Runs.{entries_of}
use Rattle.act_book.proofs.recent.count_of.Given as goal

abbrev pub invariant-loop-run : goal.invariant-loop-run
invariant-loop-run l = l.count ≡ length (entries_of (take l.run-index l.runs))
