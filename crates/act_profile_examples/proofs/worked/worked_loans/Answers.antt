use Rattle.act_profile_examples.proofs.Computed.{bullet_loan, half_a_unit_rounds_to_zero, one_and_a_half_rounds_to_two, earlier_interest_anchor, interest_overflows, large_interest, reset_without_a_rate, reset_by_a_rate, reset_by_a_later_rate, annuity_without_interest, annuity, instalments, growing_loan}
use Rattle.act_profile_examples.proofs.worked.worked_loans.Goals as goal

pub returns-clause-bullet_loan : goal.returns-clause-bullet_loan
returns-clause-bullet_loan c = bullet_loan

pub returns-clause-half_a_unit_rounds_to_zero : goal.returns-clause-half_a_unit_rounds_to_zero
returns-clause-half_a_unit_rounds_to_zero c = half_a_unit_rounds_to_zero

pub returns-clause-one_and_a_half_rounds_to_two : goal.returns-clause-one_and_a_half_rounds_to_two
returns-clause-one_and_a_half_rounds_to_two c = one_and_a_half_rounds_to_two

pub returns-clause-earlier_interest_anchor : goal.returns-clause-earlier_interest_anchor
returns-clause-earlier_interest_anchor c = earlier_interest_anchor

pub returns-clause-interest_overflows : goal.returns-clause-interest_overflows
returns-clause-interest_overflows c = interest_overflows

pub returns-clause-large_interest : goal.returns-clause-large_interest
returns-clause-large_interest c = large_interest

pub returns-clause-reset_without_a_rate : goal.returns-clause-reset_without_a_rate
returns-clause-reset_without_a_rate c = reset_without_a_rate

pub returns-clause-reset_by_a_rate : goal.returns-clause-reset_by_a_rate
returns-clause-reset_by_a_rate c = reset_by_a_rate

pub returns-clause-reset_by_a_later_rate : goal.returns-clause-reset_by_a_later_rate
returns-clause-reset_by_a_later_rate c = reset_by_a_later_rate

pub returns-clause-annuity_without_interest : goal.returns-clause-annuity_without_interest
returns-clause-annuity_without_interest c = annuity_without_interest

pub returns-clause-annuity : goal.returns-clause-annuity
returns-clause-annuity c = annuity

pub returns-clause-instalments : goal.returns-clause-instalments
returns-clause-instalments c = instalments

pub returns-clause-growing_loan : goal.returns-clause-growing_loan
returns-clause-growing_loan c = growing_loan
