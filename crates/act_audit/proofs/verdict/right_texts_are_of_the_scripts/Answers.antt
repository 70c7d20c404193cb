use Rattle.act_audit.proofs.OfScripts.{right-of-scripts}
use Rattle.act_audit.proofs.verdict.right_texts_are_of_the_scripts.Goals as goal

pub returns : goal.returns
returns c = right-of-scripts
