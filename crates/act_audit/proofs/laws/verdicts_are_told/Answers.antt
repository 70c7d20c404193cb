use Rattle.act_audit.proofs.Telling.{verdicts-are-told}
use Rattle.act_audit.proofs.laws.verdicts_are_told.Goals as goal

pub returns : goal.returns
returns c = verdicts-are-told
