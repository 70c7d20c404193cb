use Rattle.act_causality.proofs.Facts.{events_stay}
use Rattle.act_causality.proofs.events_dated_before_a_change_stay.Goals as goal

pub returns : goal.returns
returns c = record { events = events_stay }
