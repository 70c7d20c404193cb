use Rattle.act_gen.proofs.Loops.{one_loan_more}
use Rattle.act_gen.proofs.portfolio.push_loans.Goals as goal

pub loans-preserved : goal.loans-preserved
loans-preserved c =
    one_loan_more _ _ _ _ _ _ _ _ _ _ _ c.loans.invariant c.in_ok-push_comma.ensures c.draw-notional.ensures.state c.draw-notional.ensures.value c.draw-rate.ensures.state c.draw-rate.ensures.value c.in_ok-push_loan.ensures
