use Rattle.act_run.proofs.Observations.{HasAdded}
use Rattle.act_run.proofs.events.add_all.Given as goal

abbrev pub invariant-entries : goal.invariant-entries
invariant-entries l = HasAdded l.kind l.entries l.initial.events.items l.events.items l.place
