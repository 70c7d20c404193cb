use Rattle.std.proofs.Common.{◌≡◌, take}
use Rattle.act_model.specs.Observed.{observed_events}
use Rattle.act_book.specs.Runs.{entries_of}
use Rattle.act_book.proofs.snapshot.SeenObserved.events_of.Given as goal

abbrev pub invariant-loop-run : goal.invariant-loop-run
invariant-loop-run l = l.events.items ≡ observed_events (entries_of (take l.run-index l.self-inside.runs.items)) l.contract
