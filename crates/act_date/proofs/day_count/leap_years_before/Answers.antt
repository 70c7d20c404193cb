use Rattle.std.proofs.Common.{◌≡◌, ◌+◌, ◌-◌, sym, arith}
use Rattle.act_date.proofs.LeapDays.{count_days-years}
use Rattle.act_date.proofs.day_count.leap_years_before.Goals as goal

pub returns-clause-days : goal.returns-clause-days
returns-clause-days c =
    let years : 1899 + (c.args.year - 1900) ≡ c.args.year - 1 = omega arith in
    sym (rw years at (count_days-years (c.args.year - 1900) (omega arith)))
