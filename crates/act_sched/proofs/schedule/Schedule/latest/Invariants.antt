use Rattle.std.proofs.Common.{◌≡◌, take}
use Rattle.act_sched.specs.Schedule.{dates_of, latest_in}
use Rattle.act_sched.proofs.schedule.Schedule.latest.Given as goal

-- it is the latest of the dates so far
abbrev pub invariant-dates : goal.invariant-dates
invariant-dates l = l.latest ≡ latest_in l.until l.after l.fn.first (take l.place (dates_of l.self))
