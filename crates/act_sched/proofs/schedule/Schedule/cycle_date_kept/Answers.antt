use Rattle.std.proofs.Common.{◌≡◌, ◌<◌, ◌+◌, ◌≤ℤ◌, false, refl, sym, rules, arith}
use Rattle.std.specs.Prelude.{IsSomeAnd}
use denote.Enum.Bare.{sameb}
use Rattle.act_date.specs.contracts.cycle.Stub.{the_type}
use Rattle.act_date.specs.declared.cycle.Stub.{Stub}
use Rattle.act_date.specs.declared.cycle.Stub.TheVariants.{Long, Short}
use Rattle.act_sched.specs.Schedule.{cycle_date}
use Rattle.act_sched.proofs.ByPlace.{left_out, stays}
use Rattle.act_sched.proofs.schedule.Schedule.cycle_date_kept.Goals as goal

long_else : (stub : Stub) → false ≡ sameb the_type stub Short → stub ≡ Long
long_else Short is = cc
long_else Long is = refl

pub returns-then-is_up_to : goal.returns-then-is_up_to
returns-then-is_up_to c =
    let s = c.args.self.now in
    let up_to = rw c.cycle_date-next.ensures.value at (c.is_up_to.ensures.0 c.if-is_up_to.true) in
    sym (stays c.args.anchor.now c.args.cycle s.end s.rule (search rules) c.requires.cycle c.args.place c.in_ok-date.date (sym c.in_ok-date.ensures) up_to)

pub returns-else-is_up_to : goal.returns-else-is_up_to
returns-else-is_up_to c =
    let s = c.args.self.now in
    let more : 0 < c.args.place = omega arith in
    let past : ¬ (IsSomeAnd (cycle_date c.args.anchor.now c.args.cycle s.rule (c.args.place + 1)) (λ next. next ≤ℤ s.end)) =
    λ up_to. let yes = c.is_up_to.ensures.1 (rw c.cycle_date-next.ensures.value up_to) in cc in
    sym (left_out c.args.anchor.now c.args.cycle s.end s.rule (search rules) c.requires.cycle c.args.place c.in_ok-date.date (sym c.in_ok-date.ensures) more (long_else c.args.cycle.stub c.if-eq.ensures) past)
