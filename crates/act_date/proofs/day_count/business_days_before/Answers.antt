use Rattle.std.proofs.Common.{arith}
use Rattle.std.proofs.lemmas.Int.{ints}
use Rattle.act_date.proofs.Counts.{count_days-all, count_days-weekdays}
use Rattle.act_date.proofs.day_count.business_days_before.Goals as goal

pub returns-in-Nc : goal.returns-in-Nc
returns-in-Nc c =
    rw (c.in-Nc.is, c.days_from_1900-days.ensures.value, count_days-all _ c.days_from_1900-days.result) (omega (arith, ints))

pub returns-in-Mf : goal.returns-in-Mf
returns-in-Mf c =
    rw (c.in-Mf.is, c.days_from_1900-days.ensures.value, count_days-weekdays c.days_from_1900-days.result) (omega (arith, ints))
