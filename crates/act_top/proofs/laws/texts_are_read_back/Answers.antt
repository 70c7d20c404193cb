use Rattle.act_top.proofs.Readable.{desk-is-read-back, eval-is-read-back}
use Rattle.act_top.proofs.laws.texts_are_read_back.Goals as goal

pub returns-clause-eval : goal.returns-clause-eval
returns-clause-eval c = eval-is-read-back

pub returns-clause-desk : goal.returns-clause-desk
returns-clause-desk c = desk-is-read-back
