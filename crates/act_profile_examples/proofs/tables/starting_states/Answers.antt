use Rattle.act_profile_examples.proofs.ComputedTables.{borrowers_loan, started_loan, started_with_interest, undefined_start, started_swap}
use Rattle.act_profile_examples.proofs.tables.starting_states.Goals as goal

pub returns-clause-borrowers_loan : goal.returns-clause-borrowers_loan
returns-clause-borrowers_loan c = borrowers_loan

pub returns-clause-started_loan : goal.returns-clause-started_loan
returns-clause-started_loan c = started_loan

pub returns-clause-started_with_interest : goal.returns-clause-started_with_interest
returns-clause-started_with_interest c = started_with_interest

pub returns-clause-undefined_start : goal.returns-clause-undefined_start
returns-clause-undefined_start c = undefined_start

pub returns-clause-started_swap : goal.returns-clause-started_swap
returns-clause-started_swap c = started_swap
