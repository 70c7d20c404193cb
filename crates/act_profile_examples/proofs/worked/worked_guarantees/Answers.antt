use Rattle.act_profile_examples.proofs.Computed.{guarantee_of_a_loan, collateral_of_500}
use Rattle.act_profile_examples.proofs.worked.worked_guarantees.Goals as goal

pub returns-clause-guarantee_of_a_loan : goal.returns-clause-guarantee_of_a_loan
returns-clause-guarantee_of_a_loan c = guarantee_of_a_loan

pub returns-clause-collateral_of_500 : goal.returns-clause-collateral_of_500
returns-clause-collateral_of_500 c = collateral_of_500
