use Rattle.act_profile_examples.proofs.ComputedTables.{sold_loan, penalty_amount, lost_interest, no_lost_interest, prepaid_whole, fee_amount, fee_on_the_notional, scaled, bounded_reset, interest_on_a_fixed_base, annuity_with_a_reset, mortgage_plan}
use Rattle.act_profile_examples.proofs.tables.steps_of_loans.Goals as goal

pub returns-clause-sold_loan : goal.returns-clause-sold_loan
returns-clause-sold_loan c = sold_loan

pub returns-clause-penalty_amount : goal.returns-clause-penalty_amount
returns-clause-penalty_amount c = penalty_amount

pub returns-clause-lost_interest : goal.returns-clause-lost_interest
returns-clause-lost_interest c = lost_interest

pub returns-clause-no_lost_interest : goal.returns-clause-no_lost_interest
returns-clause-no_lost_interest c = no_lost_interest

pub returns-clause-prepaid_whole : goal.returns-clause-prepaid_whole
returns-clause-prepaid_whole c = prepaid_whole

pub returns-clause-fee_amount : goal.returns-clause-fee_amount
returns-clause-fee_amount c = fee_amount

pub returns-clause-fee_on_the_notional : goal.returns-clause-fee_on_the_notional
returns-clause-fee_on_the_notional c = fee_on_the_notional

pub returns-clause-scaled : goal.returns-clause-scaled
returns-clause-scaled c = scaled

pub returns-clause-bounded_reset : goal.returns-clause-bounded_reset
returns-clause-bounded_reset c = bounded_reset

pub returns-clause-interest_on_a_fixed_base : goal.returns-clause-interest_on_a_fixed_base
returns-clause-interest_on_a_fixed_base c = interest_on_a_fixed_base

pub returns-clause-annuity_with_a_reset : goal.returns-clause-annuity_with_a_reset
returns-clause-annuity_with_a_reset c = annuity_with_a_reset

pub returns-clause-mortgage_plan : goal.returns-clause-mortgage_plan
returns-clause-mortgage_plan c = mortgage_plan
