use Rattle.act_causality.proofs.KeptRows.{kept_between}
use Rattle.act_run.proofs.laws.runs_are_kept_between_versions.Goals as goal

pub returns : goal.returns
returns c = record { kept = kept_between }
