use Rattle.act_profile_examples.proofs.ComputedSpecial.{default_after_the_loan, no_default, default_of_a_stopped_loan, default_after_an_overflow, stopped_collateral, maturity_of_a_guarantee}
use Rattle.act_profile_examples.proofs.special.special_guarantees.Goals as goal

pub returns-clause-default_after_the_loan : goal.returns-clause-default_after_the_loan
returns-clause-default_after_the_loan c = default_after_the_loan

pub returns-clause-no_default : goal.returns-clause-no_default
returns-clause-no_default c = no_default

pub returns-clause-default_of_a_stopped_loan : goal.returns-clause-default_of_a_stopped_loan
returns-clause-default_of_a_stopped_loan c = default_of_a_stopped_loan

pub returns-clause-default_after_an_overflow : goal.returns-clause-default_after_an_overflow
returns-clause-default_after_an_overflow c = default_after_an_overflow

pub returns-clause-stopped_collateral : goal.returns-clause-stopped_collateral
returns-clause-stopped_collateral c = stopped_collateral

pub returns-clause-maturity_of_a_guarantee : goal.returns-clause-maturity_of_a_guarantee
returns-clause-maturity_of_a_guarantee c = maturity_of_a_guarantee
