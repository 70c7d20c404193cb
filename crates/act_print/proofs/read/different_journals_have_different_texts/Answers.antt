use Rattle.act_print.proofs.Journals.{one-journal}
use Rattle.act_print.proofs.read.different_journals_have_different_texts.Goals as goal

pub returns : goal.returns
returns c = one-journal
