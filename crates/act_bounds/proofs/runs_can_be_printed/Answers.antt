use Rattle.act_bounds.proofs.Runs.{runs_hold}
use Rattle.act_bounds.proofs.runs_can_be_printed.Goals as goal

pub returns : goal.returns
returns c = record { runs = runs_hold }
