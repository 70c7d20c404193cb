use Rattle.act_profile_examples.proofs.ComputedSpecial.{prepayment_at_maturity, terminated_before, maturity_before_the_loan, before_a_purchase, purchased_before}
use Rattle.act_profile_examples.proofs.special.special_events.Goals as goal

pub returns-clause-prepayment_at_maturity : goal.returns-clause-prepayment_at_maturity
returns-clause-prepayment_at_maturity c = prepayment_at_maturity

pub returns-clause-terminated_before : goal.returns-clause-terminated_before
returns-clause-terminated_before c = terminated_before

pub returns-clause-maturity_before_the_loan : goal.returns-clause-maturity_before_the_loan
returns-clause-maturity_before_the_loan c = maturity_before_the_loan

pub returns-clause-before_a_purchase : goal.returns-clause-before_a_purchase
returns-clause-before_a_purchase c = before_a_purchase

pub returns-clause-purchased_before : goal.returns-clause-purchased_before
returns-clause-purchased_before c = purchased_before
