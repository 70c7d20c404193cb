use Rattle.act_top.proofs.Telling.{statuses-tell-faults}
use Rattle.act_top.proofs.laws.statuses_tell_faults.Goals as goal

pub returns : goal.returns
returns c = statuses-tell-faults
