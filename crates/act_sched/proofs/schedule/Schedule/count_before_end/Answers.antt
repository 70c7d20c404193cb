use Rattle.std.proofs.Common.{◌≡◌, ◌≤◌, ◌+◌, ◌-◌, true, false, not, length, rules, sym, ap, ◌∙◌, arith}
use Rattle.std.specs.Prelude.{is_some, slice_get}
use Rattle.act_sched.specs.Schedule.{dates_but_for, dates_of}
use Rattle.act_sched.proofs.ByPlace.{place_of_none, place_of_some}
use Rattle.act_sched.proofs.Counts.{length-but_for, schedule_count}
use Rattle.act_sched.proofs.schedule.Schedule.count_before_end.Goals as goal

pub returns-clause-count : goal.returns-clause-count
returns-clause-count c =
    let s = c.args.self in
    let but_end : length (dates_but_for s.end (dates_of s)) ≡ length (dates_of s) - 1 = length-but_for s.anchor s.cycle s.end s.rule (search rules) c.requires in
    let few : length (dates_of s) ≤ 146097 = schedule_count s.anchor s.cycle s.end s.rule (search rules) (search rules) c.requires in
    omega (arith, c.dates.invariant)

pub dates-preserved : goal.dates-preserved
dates-preserved c =
    let dates = dates_of c.args.self in
    let some : is_some (slice_get dates (c.dates.count + 1)) ≡ true = ap is_some (sym c.date_at.ensures) ∙ c.is_none.ensures ∙ ap not c.if-is_none.false in
    let more : c.dates.count + 1 ≤ length dates - 1 = omega (arith, place_of_some dates (c.dates.count + 1) some) in
    more

pub returns-then-is_none-clause-count : goal.returns-then-is_none-clause-count
returns-then-is_none-clause-count c =
    let s = c.args.self in
    let none : is_some (slice_get (dates_of s) (c.dates.count + 1)) ≡ false = ap is_some (sym c.date_at.ensures) ∙ c.is_none.ensures ∙ ap not c.if-is_none.true in
    let but_end : length (dates_but_for s.end (dates_of s)) ≡ length (dates_of s) - 1 = length-but_for s.anchor s.cycle s.end s.rule (search rules) c.requires in
    omega (arith, c.dates.invariant, place_of_none (dates_of s) (c.dates.count + 1) none)
