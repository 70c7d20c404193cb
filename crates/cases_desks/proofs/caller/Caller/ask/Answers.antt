use Rattle.std.proofs.Common.{arith}
use Rattle.cases_desks.proofs.Playing.{plays-ask}
use Rattle.cases_desks.proofs.caller.Caller.ask.Goals as goal

pub returns-then-is_named : goal.returns-then-is_named
returns-then-is_named g c = plays-ask _ _ _ _ _ c.requires _ c.args.asked _ (omega (arith, c.asks_made.ensures.asked)) c.ask-answer.ensures
