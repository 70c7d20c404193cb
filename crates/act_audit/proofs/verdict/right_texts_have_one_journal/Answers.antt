use Rattle.act_audit.proofs.Judged.{right-texts-have-one-journal}
use Rattle.act_audit.proofs.verdict.right_texts_have_one_journal.Goals as goal

pub returns : goal.returns
returns c = right-texts-have-one-journal
