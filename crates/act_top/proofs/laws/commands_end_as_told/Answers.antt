use Rattle.act_top.proofs.Telling.{commands-end-as-told}
use Rattle.act_top.proofs.laws.commands_end_as_told.Goals as goal

pub returns : goal.returns
returns c = commands-end-as-told
