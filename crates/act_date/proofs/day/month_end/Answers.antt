use Rattle.act_date.proofs.CivilLemmas.{last_of_month}
use Rattle.act_date.proofs.day.month_end.Goals as goal

pub unwrap-requires : goal.unwrap-requires
unwrap-requires c =
    let last = last_of_month c.args.day c.date.result c.last_of_month.result c.date.ensures.same c.date.ensures.date c.last_of_month.ensures in
    rw (c.from_date.ensures, last)

pub returns : goal.returns
returns c =
    let last = last_of_month c.args.day c.date.result c.last_of_month.result c.date.ensures.same c.date.ensures.date c.last_of_month.ensures in
    cc
