use Rattle.std.proofs.Common.{arith}
use Rattle.cases_desks.proofs.Playing.{plays-collect}
use Rattle.cases_desks.proofs.caller.Caller.collect.Goals as goal

pub returns-in-Some : goal.returns-in-Some
returns-in-Some g c = plays-collect _ _ _ _ _ c.requires _ _ (omega (arith, c.if-self-eq0.false, c.in-Some.ensures.some)) c.collect-collected.ensures

pub returns-in-None : goal.returns-in-None
returns-in-None g c = plays-collect _ _ _ _ _ c.requires _ _ (omega (arith, c.in-None.ensures.none)) c.collect-collected.ensures
