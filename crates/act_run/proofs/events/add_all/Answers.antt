use Rattle.act_run.proofs.Observations.{added_all, added_one}
use Rattle.act_run.proofs.events.add_all.Goals as goal

pub entries-preserved : goal.entries-preserved
entries-preserved c = rw c.in_ok-add_events.ensures (added_one _ _ _ _ c.entries.place c.index-entries-place.result c.entries.invariant c.entries-test.true c.index-entries-place.is)

pub returns : goal.returns
returns c = added_all _ _ _ _ c.entries.place c.entries.invariant c.entries-test.false
