use Rattle.std.proofs.Common.{map}
use Rattle.std.specs.Arc.{arc_value}
use Rattle.act_profile.specs.DayOrder.{RunsAreInDayOrder}
use Rattle.cases_runs.proofs.resumed.runs_at.Given as goal

abbrev pub invariant-contracts : goal.invariant-contracts
invariant-contracts l = RunsAreInDayOrder (map arc_value l.found.items)
