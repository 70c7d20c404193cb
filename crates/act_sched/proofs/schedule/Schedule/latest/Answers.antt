use Rattle.std.proofs.Common.{arith, ◌≤◌, length, rules, sym, ◌∙◌}
use Rattle.act_sched.specs.Schedule.{dates_of}
use Rattle.act_sched.proofs.ByPlace.{outside}
use Rattle.act_sched.proofs.Counts.{schedule_count}
use Rattle.act_sched.proofs.SoFar.{latest_all, latest_more}
use Rattle.act_sched.proofs.schedule.Schedule.latest.Goals as goal

pub returns-in-None : goal.returns-in-None
returns-in-None c = c.dates.invariant ∙ latest_all c.args.until c.args.first c.args.after (dates_of c.args.self) c.dates.place (outside (dates_of c.args.self) c.dates.place (sym c.in-None.ensures))

pub dates-preserved : goal.dates-preserved
dates-preserved c =
    c.later_date-latest.ensures
    ∙ latest_more c.args.until c.args.first c.args.after (dates_of c.args.self) c.dates.place c.in-Some.date _ c.dates.invariant (sym c.in-Some.ensures)

pub returns : goal.returns
returns c =
    let s = c.args.self in
    let few : length (dates_of s) ≤ 146097 = schedule_count s.anchor s.cycle s.end s.rule (search rules) (search rules) c.requires in
    c.dates.invariant ∙ latest_all c.args.until c.args.first c.args.after (dates_of s) c.dates.place (omega arith)
