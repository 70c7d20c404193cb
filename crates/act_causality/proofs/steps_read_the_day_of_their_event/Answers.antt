use Rattle.act_causality.proofs.Facts.{steps_read_rows_until_their_day, steps_read_their_day}
use Rattle.act_causality.proofs.steps_read_the_day_of_their_event.Goals as goal

pub returns-clause-codes : goal.returns-clause-codes
returns-clause-codes c = steps_read_their_day

pub returns-clause-rows : goal.returns-clause-rows
returns-clause-rows c = steps_read_rows_until_their_day
