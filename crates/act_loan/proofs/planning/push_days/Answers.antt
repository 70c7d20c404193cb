use Rattle.std.proofs.Common.{arith}
use Rattle.act_loan.proofs.Plans.{day_kept, day_left_out, no_more_days}
use Rattle.act_loan.proofs.planning.push_days.Goals as goal

pub loop-event-preserved : goal.loop-event-preserved
loop-event-preserved c = grind (arith, day_kept, day_left_out)

pub returns : goal.returns
returns c = grind (arith, no_more_days)
