use Rattle.act_top.proofs.Telling.{boards-are-handed}
use Rattle.act_top.proofs.laws.boards_are_handed.Goals as goal

pub returns : goal.returns
returns c = boards-are-handed
