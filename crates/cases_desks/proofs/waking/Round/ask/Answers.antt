use Rattle.std.proofs.Common.{refl}
use Rattle.cases_desks.proofs.Asking.{first-at, may-ask}
use Rattle.cases_desks.proofs.waking.Round.ask.Goals as goal

pub caller_keeping-requires-clause-at : goal.caller_keeping-requires-clause-at
caller_keeping-requires-clause-at g c κs within = first-at _ _ _ _ c.requires.first

pub caller_keeping-requires-clause-lines : goal.caller_keeping-requires-clause-lines
caller_keeping-requires-clause-lines g c κs within = may-ask _ _ _ _ c.requires.first c.requires.caller _ refl
