use Rattle.std.proofs.Common.{rules}
use Rattle.act_amort.proofs.PaymentFixings.{no_fixings_of_annuity}
use Rattle.act_amort.proofs.fixings.payment_fixings.Goals as goal

pub returns-in-Err : goal.returns-in-Err
returns-in-Err c =
    no_fixings_of_annuity c.args.loan.now c.in-Err.fault (search rules) c.in-Err.ensures
