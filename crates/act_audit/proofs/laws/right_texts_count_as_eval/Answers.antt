use Rattle.act_audit.proofs.Judged.{right-texts-count-as-eval}
use Rattle.act_audit.proofs.laws.right_texts_count_as_eval.Goals as goal

pub returns : goal.returns
returns c = right-texts-count-as-eval
