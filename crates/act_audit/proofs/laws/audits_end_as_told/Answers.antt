use Rattle.act_audit.proofs.Telling.{audits-end-as-told}
use Rattle.act_audit.proofs.laws.audits_end_as_told.Goals as goal

pub returns : goal.returns
returns c = audits-end-as-told
