use Rattle.act_causality.proofs.Facts.{steps_stay, stops_stay}
use Rattle.act_causality.proofs.steps_dated_before_a_change_stay.Goals as goal

pub returns-clause-steps : goal.returns-clause-steps
returns-clause-steps c = steps_stay

pub returns-clause-stops : goal.returns-clause-stops
returns-clause-stops c = stops_stay
