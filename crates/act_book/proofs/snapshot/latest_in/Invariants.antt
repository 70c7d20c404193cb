use Rattle.std.proofs.Common.{◌≡◌, take}
use Rattle.act_book.specs.Rates.{latest_rate}
use Rattle.act_book.specs.Runs.{entries_of}
use Rattle.act_book.proofs.snapshot.latest_in.Given as goal

abbrev pub invariant-loop-run : goal.invariant-loop-run
invariant-loop-run l = l.latest ≡ latest_rate (entries_of (take l.run-index l.runs)) l.code l.until
