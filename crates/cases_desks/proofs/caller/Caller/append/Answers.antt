use Rattle.cases_desks.proofs.Playing.{plays-append}
use Rattle.cases_desks.proofs.caller.Caller.append.Goals as goal

pub returns : goal.returns
returns g c = plays-append _ _ _ _ _ c.requires.plays c.args.entry _ c.append-answer.ensures
