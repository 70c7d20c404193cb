use Rattle.std.proofs.Common.{◌≡◌, ◌++◌, take}
use Rattle.act_model.specs.Observed.{observed_events}
use Rattle.act_book.proofs.run.push_events.Given as goal

abbrev pub invariant-loop-entry : goal.invariant-loop-entry
invariant-loop-entry l = l.events.items ≡ l.initial.events.items ++ observed_events (take l.entry-index l.entries) l.contract
