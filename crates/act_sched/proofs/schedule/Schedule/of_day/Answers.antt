use Rattle.std.proofs.Common.{refl, true, false, ◌≡◌, arith}
use Rattle.std.proofs.lemmas.Int.{ints}
use Rattle.std.specs.Prelude.{int_le, int_lt}
use Rattle.act_sched.specs.Schedule.{schedule_dates}
use Rattle.act_sched.proofs.schedule.Schedule.of_day.Goals as goal

pub returns-clause-dates : goal.returns-clause-dates
unfolding schedule_dates
returns-clause-dates c =
    let holds : int_le c.args.day c.args.day ≡ true = grind (arith, ints) in
    let fails : int_lt c.args.day c.args.day ≡ false = grind (arith, ints) in
    rw (holds, fails) refl
