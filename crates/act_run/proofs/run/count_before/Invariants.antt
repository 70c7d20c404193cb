use Rattle.std.proofs.Common.{int_lt}
use Rattle.act_run.proofs.Before.{HavePassed}
use Rattle.act_run.proofs.run.count_before.Given as goal

abbrev pub invariant-events : goal.invariant-events
invariant-events l = HavePassed (λ event. int_lt event.day l.day) l.events l.place
