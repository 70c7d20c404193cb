use Rattle.act_profile_examples.proofs.ComputedTables.{bought_and_sold_swap, own_purchase_first, cap_on_a_swap, cap_on_a_prepaid_loan, cap_until_maturity}
use Rattle.act_profile_examples.proofs.tables.steps_of_swaps.Goals as goal

pub returns-clause-bought_and_sold_swap : goal.returns-clause-bought_and_sold_swap
returns-clause-bought_and_sold_swap c = bought_and_sold_swap

pub returns-clause-own_purchase_first : goal.returns-clause-own_purchase_first
returns-clause-own_purchase_first c = own_purchase_first

pub returns-clause-cap_on_a_swap : goal.returns-clause-cap_on_a_swap
returns-clause-cap_on_a_swap c = cap_on_a_swap

pub returns-clause-cap_on_a_prepaid_loan : goal.returns-clause-cap_on_a_prepaid_loan
returns-clause-cap_on_a_prepaid_loan c = cap_on_a_prepaid_loan

pub returns-clause-cap_until_maturity : goal.returns-clause-cap_until_maturity
returns-clause-cap_until_maturity c = cap_until_maturity
