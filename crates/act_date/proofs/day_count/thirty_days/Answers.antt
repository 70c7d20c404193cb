use Rattle.std.proofs.Common.{min, arith}
use Rattle.std.proofs.lemmas.Int.{ints}
use Rattle.act_date.specs.Civil.{civil_of}
use Rattle.act_date.proofs.ThirtyDays.{later_date, later_number}
use Rattle.act_date.proofs.day_count.thirty_days.Goals as goal

pub returns : goal.returns
returns c =
    let first = c.civil-first.ensures in
    let second = c.civil-second.ensures in
    let order = later_date _ _ _ _ first.date second.date c.requires in
    let le = later_number _ _ (min (civil_of c.args.s).day 30) (min (civil_of c.args.t).day 30) first.date.valid second.date.valid order (omega arith) (omega arith) (λ year month lt. omega arith) in
    omega (arith, ints)
