use Rattle.std.proofs.Common.{negsuc, ◌-ℤ◌, ◌≤ℤ◌, unsigned_abs, arith}
use Rattle.std.proofs.lemmas.Int.{ints}
use Rattle.act_date.specs.Civil.{is_business}
use Rattle.act_date.specs.DayCount.{in_leap_year}
use Rattle.act_date.proofs.Counts.{count_days-between, count_days-not}
use Rattle.act_date.proofs.day_count.numerator.Goals as goal

pub overflow_sub-result-in-Aa : goal.overflow_sub-result-in-Aa
overflow_sub-result-in-Aa c =
    let from : negsuc 25566 ≤ℤ c.args.s = omega (arith, ints) in
    let count = count_days-between in_leap_year c.args.s c.args.t from c.requires in
    let all = count_days-not in_leap_year c.args.s (unsigned_abs (c.args.t -ℤ c.args.s)) in
    omega (arith, ints)

pub returns-in-Aa : goal.returns-in-Aa
returns-in-Aa c =
    let from : negsuc 25566 ≤ℤ c.args.s = omega (arith, ints) in
    let count = count_days-between in_leap_year c.args.s c.args.t from c.requires in
    let all = count_days-not in_leap_year c.args.s (unsigned_abs (c.args.t -ℤ c.args.s)) in
    rw c.in-Aa.is (omega (arith, ints))

pub returns-in-B252 : goal.returns-in-B252
returns-in-B252 c =
    let from : negsuc 25566 ≤ℤ c.args.s = omega (arith, ints) in
    let count = count_days-between (is_business c.args.calendar) c.args.s c.args.t from c.requires in
    rw c.in-B252.is (omega (arith, ints))
