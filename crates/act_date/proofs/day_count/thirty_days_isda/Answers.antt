use Rattle.std.proofs.Common.{arith}
use Rattle.std.proofs.lemmas.Int.{ints}
use Rattle.act_date.proofs.ThirtyDays.{later_isda}
use Rattle.act_date.proofs.day_count.thirty_days_isda.Goals as goal

pub returns : goal.returns
returns c =
    let le = later_isda c.args.s c.args.t c.args.maturity c.civil.ensures.date c.civil-2.ensures.date c.requires in
    omega (arith, ints)
