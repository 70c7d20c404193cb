use Rattle.std.proofs.Common.{◌≡◌, unsigned_abs, to_z, of_z, w16, arith}
use Rattle.std.proofs.lemmas.Int.{ints}
use Rattle.act_date.specs.Civil.{civil_of}
use Rattle.act_date.proofs.LeapDays.{leap_days-date}
use Rattle.act_date.proofs.day_count.leap_days_before.Goals as goal
use Rattle.act_date.proofs.day_count.leap_days_before.Goals.{then-in_leap_year, else-in_leap_year}

pub returns : goal.returns
returns c =
    let date = c.date-date.ensures in
    let count = leap_days-date (civil_of c.args.day) c.args.day date.date in
    let year : unsigned_abs (to_z w16 (of_z w16 c.year.result)) ≡ (civil_of c.args.day).year = omega (arith, ints) in
    let before = rw year at c.leap_years_before.ensures.days in
    elim c.if-in_leap_year.branch [
      | then-in_leap_year w ↦
          let leap = rw date.same.year at w.if-in_leap_year.ensures in
          let place = rw (date.same.year, date.same.month, date.same.day) at w.day_of_year.ensures in
          let days = rw (← leap) at count in
          omega (arith, ints)
      | else-in_leap_year w ↦
          let leap = rw date.same.year at w.if-in_leap_year.ensures in
          let days = rw (← leap) at count in
          omega (arith, ints)
    ]
