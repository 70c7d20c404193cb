use Rattle.act_profile.specs.LoanPlan.{reset_dates}
use Rattle.act_loan.proofs.Plans.{no_resets}
use Rattle.act_loan.proofs.terms.LoanTerms.resets.Goals as goal

pub returns-in-Err : goal.returns-in-Err
returns-in-Err c =
    let l = c.args.self.now in
    no_resets l.common.status_date l.loan.rate_reset.next_reset_rate c.in-Err.fault (reset_dates l) c.in-Err.ensures
