use Rattle.act_profile_examples.proofs.ComputedSpecial.{rows_of_legs, netted_interest, interest_in_two_currencies, netted_in_order, stop_of_the_first_child, stop_at_termination, stop_after_termination, stop_of_the_child_on_the_same_day, earlier_stop_of_the_swap, cap_in_place_of_a_floor}
use Rattle.act_profile_examples.proofs.special.special_swaps.Goals as goal

pub returns-clause-rows_of_legs : goal.returns-clause-rows_of_legs
returns-clause-rows_of_legs c = rows_of_legs

pub returns-clause-netted_interest : goal.returns-clause-netted_interest
returns-clause-netted_interest c = netted_interest

pub returns-clause-interest_in_two_currencies : goal.returns-clause-interest_in_two_currencies
returns-clause-interest_in_two_currencies c = interest_in_two_currencies

pub returns-clause-netted_in_order : goal.returns-clause-netted_in_order
returns-clause-netted_in_order c = netted_in_order

pub returns-clause-stop_of_the_first_child : goal.returns-clause-stop_of_the_first_child
returns-clause-stop_of_the_first_child c = stop_of_the_first_child

pub returns-clause-stop_at_termination : goal.returns-clause-stop_at_termination
returns-clause-stop_at_termination c = stop_at_termination

pub returns-clause-stop_after_termination : goal.returns-clause-stop_after_termination
returns-clause-stop_after_termination c = stop_after_termination

pub returns-clause-stop_of_the_child_on_the_same_day : goal.returns-clause-stop_of_the_child_on_the_same_day
returns-clause-stop_of_the_child_on_the_same_day c = stop_of_the_child_on_the_same_day

pub returns-clause-earlier_stop_of_the_swap : goal.returns-clause-earlier_stop_of_the_swap
returns-clause-earlier_stop_of_the_swap c = earlier_stop_of_the_swap

pub returns-clause-cap_in_place_of_a_floor : goal.returns-clause-cap_in_place_of_a_floor
returns-clause-cap_in_place_of_a_floor c = cap_in_place_of_a_floor
