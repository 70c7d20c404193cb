use Rattle.std.proofs.Common.{Some, ap}
use Rattle.act_loan.proofs.Latest.{with_end}
use Rattle.act_loan.proofs.terms.LoanTerms.latest_redemption_or_end.Goals as goal

pub returns : goal.returns
returns c =
    let l = c.args.self.now in
    rw (with_end l l.common.status_date c.args.first l.loan.capitalization_end_date, ← c.in_ok-latest.ensures, ← c.self.view_is) (ap Some (rw (c.of_day.ensures.dates, ← c.self.view_is) at c.latest_paid.ensures))
