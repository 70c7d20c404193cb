use Rattle.act_run.proofs.KeptRuns.{runs_are_kept}
use Rattle.act_run.proofs.laws.runs_before_a_change_are_kept.Goals as goal

pub returns : goal.returns
returns c = record { kept = runs_are_kept }
