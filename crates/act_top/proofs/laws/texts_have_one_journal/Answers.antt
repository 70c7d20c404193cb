use Rattle.act_top.proofs.Readable.{texts-have-one-journal}
use Rattle.act_top.proofs.laws.texts_have_one_journal.Goals as goal

pub returns : goal.returns
returns c = texts-have-one-journal
