use Rattle.act_amort.proofs.PaidDates.{no_payments, payments_with}
use Rattle.act_amort.proofs.interest.payment_dates.Goals as goal

pub returns-in-Ok : goal.returns-in-Ok
returns-in-Ok c =
    payments_with c.args.loan.now c.args.redemptions.now c.in-Ok.dates.items c.with_redemptions.result c.requires.rate c.requires.kind c.requires.redemptions c.in-Ok.ensures
    c.with_redemptions.ensures.dates c.with_redemptions.ensures.no_memory

pub returns-in-Err : goal.returns-in-Err
returns-in-Err c = no_payments c.args.loan.now c.args.redemptions.now c.in-Err.fault c.requires.rate c.requires.kind c.requires.redemptions c.in-Err.ensures
