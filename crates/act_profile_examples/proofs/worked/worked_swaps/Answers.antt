use Rattle.act_profile_examples.proofs.Computed.{plain_swap, swap_of_two_loans, cap_on_a_loan}
use Rattle.act_profile_examples.proofs.worked.worked_swaps.Goals as goal

pub returns-clause-plain_swap : goal.returns-clause-plain_swap
returns-clause-plain_swap c = plain_swap

pub returns-clause-swap_of_two_loans : goal.returns-clause-swap_of_two_loans
returns-clause-swap_of_two_loans c = swap_of_two_loans

pub returns-clause-cap_on_a_loan : goal.returns-clause-cap_on_a_loan
returns-clause-cap_on_a_loan c = cap_on_a_loan
