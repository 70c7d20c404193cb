use Rattle.std.proofs.Common.{◌≡◌, ◌++◌, drop, slice_get}
use Rattle.act_book.specs.Runs.{entries_of}
use Rattle.act_book.proofs.snapshot.SeenObserved.entry.Given as goal

abbrev pub invariant-loop-run : goal.invariant-loop-run
invariant-loop-run l =
    slice_get (entries_of (drop l.run-index l.self-inside.runs.items) ++ l.self-inside.rest.items) l.left ≡ slice_get (entries_of l.self-inside.runs.items ++ l.self-inside.rest.items) l.place
