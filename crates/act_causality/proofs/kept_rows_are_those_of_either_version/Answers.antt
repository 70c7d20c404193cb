use Rattle.act_causality.proofs.KeptRows.{kept_rows}
use Rattle.act_causality.proofs.kept_rows_are_those_of_either_version.Goals as goal

pub returns : goal.returns
returns c = record { kept = kept_rows }
