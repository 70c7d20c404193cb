use Rattle.act_audit.proofs.Telling.{statuses-tell-faults}
use Rattle.act_audit.proofs.laws.statuses_tell_faults.Goals as goal

pub returns : goal.returns
returns c = statuses-tell-faults
