use Rattle.std.proofs.Common.{arith, sym, ap, ◌∙◌, ◌≡◌, ◌≤◌, ◌+◌, length, rules, Err}
use Rattle.std.proofs.lemmas.Result.{err_from_is_err_and}
use Rattle.act_sched.specs.Schedule.{dates_of}
use Rattle.act_sched.specs.declared.schedule.SchedFault.TheVariants.{TooManyDates}
use Rattle.act_sched.proofs.ByPlace.{outside}
use Rattle.act_sched.proofs.Counts.{schedule_count}
use Rattle.act_sched.proofs.SoFar.{later_all, later_fewer, later_more}
use Rattle.act_sched.proofs.schedule.Schedule.dates_after.Goals as goal

pub returns-in-None-clause-list : goal.returns-in-None-clause-list
returns-in-None-clause-list c =
    let dates = dates_of c.args.self in
    c.dates.invariant.so_far ∙ later_all c.args.after dates c.dates.place (outside dates c.dates.place (sym c.in-None.ensures))

pub dates-preserved : goal.dates-preserved
dates-preserved c =
    let more = later_more c.args.after (dates_of c.args.self) c.dates.place c.in-Some.date _ c.dates.invariant.so_far (sym c.in-Some.ensures) in
    record {
      so_far = c.in_ok-push_after-in-Some.ensures.added ∙ more;
      few = c.in_ok-push_after-in-Some.ensures.within_limit c.dates.invariant.few;
    }

pub returns-clause-list : goal.returns-clause-list
returns-clause-list c =
    let s = c.args.self in
    let few : length (dates_of s) ≤ 146097 = schedule_count s.anchor s.cycle s.end s.rule (search rules) (search rules) c.requires in
    c.dates.invariant.so_far ∙ later_all c.args.after (dates_of s) c.dates.place (omega arith)

pub returns-in_err-push_after-in-Some-clause-too_many : goal.returns-in_err-push_after-in-Some-clause-too_many
returns-in_err-push_after-in-Some-clause-too_many c = λ is.
    let dates = dates_of c.args.self in
    let p = err_from_is_err_and c.from_residual.result c.from_residual.ensures.1 in
    let same : c.in_err-push_after-in-Some.field-0.0 ≡ TooManyDates = cc in
    let many = c.in_err-push_after-in-Some.ensures.too_many (ap Err same) in
    let more = later_more c.args.after dates c.dates.place c.in-Some.date _ c.dates.invariant.so_far (sym c.in-Some.ensures) in
    omega (arith, ap length more, later_fewer c.args.after dates (c.dates.place + 1))
