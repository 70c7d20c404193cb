use Rattle.act_loan.proofs.Plans.{no_resets}
use Rattle.act_profile.specs.Swap.{plain_swap_reset_dates}
use Rattle.act_swap.proofs.plain_swap.PlainSwap.resets.Goals as goal

pub returns-in-Err : goal.returns-in-Err
returns-in-Err c =
    let common = c.args.self.now.common in
    let swap = c.args.self.now.swap in
    no_resets common.status_date swap.rate_reset.next_reset_rate c.in-Err.fault (plain_swap_reset_dates common swap) c.in-Err.ensures
