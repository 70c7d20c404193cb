use Rattle.act_print.proofs.Whole.{one_text}
use Rattle.act_print.proofs.read.different_transcripts_have_different_texts.Goals as goal

pub returns : goal.returns
returns c = λ names bytes one other named is also. one_text names bytes one other named is also
