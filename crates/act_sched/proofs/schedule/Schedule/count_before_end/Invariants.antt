use Rattle.std.proofs.Common.{◌-◌, ◌≤◌, length}
use Rattle.act_sched.specs.Schedule.{dates_of}
use Rattle.act_sched.proofs.schedule.Schedule.count_before_end.Given as goal

-- there are so many dates before the last at least
abbrev pub invariant-dates : goal.invariant-dates
invariant-dates l = l.count ≤ length (dates_of l.self) - 1
