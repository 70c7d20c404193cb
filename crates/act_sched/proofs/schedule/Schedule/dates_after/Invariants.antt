use Rattle.std.proofs.Common.{◌≡◌, ◌≤◌, length, take}
use Rattle.act_sched.specs.Schedule.{dates_of, later_dates}
use Rattle.act_sched.proofs.schedule.Schedule.dates_after.Given as goal

-- the dates so far are the later ones of those up to here
abbrev pub invariant-dates : goal.invariant-dates
invariant-dates l =
    record {
      so_far : l.dates.items ≡ later_dates l.after (take l.place (dates_of l.self));
      few : length l.dates.items ≤ 4096;
    }
