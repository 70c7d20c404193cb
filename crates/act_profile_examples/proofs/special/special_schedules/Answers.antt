use Rattle.act_profile_examples.proofs.ComputedSpecial.{product_with_one_overflows, interest_of_no_days_overflows, long_stub_at_a_months_end, long_stub_on_the_same_day, month_end_of_the_anchor, anchor_past_2299, cycle_past_2299, moved_past_2299, moved_back_in_2299, too_many_events, anchor_after_the_end, interest_at_maturity, capitalization_is_counted, capitalization_past_maturity, interest_with_redemption, interest_after_capitalization, fixed_reset_before_the_loan, payment_fixed_twice, derived_instalments, one_instalment_at_start, too_many_instalments, instalments_past_2299, derived_maturity_of_month_ends, derived_maturity_is_not_moved}
use Rattle.act_profile_examples.proofs.special.special_schedules.Goals as goal

pub returns-clause-product_with_one_overflows : goal.returns-clause-product_with_one_overflows
returns-clause-product_with_one_overflows c = product_with_one_overflows

pub returns-clause-interest_of_no_days_overflows : goal.returns-clause-interest_of_no_days_overflows
returns-clause-interest_of_no_days_overflows c = interest_of_no_days_overflows

pub returns-clause-long_stub_at_a_months_end : goal.returns-clause-long_stub_at_a_months_end
returns-clause-long_stub_at_a_months_end c = long_stub_at_a_months_end

pub returns-clause-long_stub_on_the_same_day : goal.returns-clause-long_stub_on_the_same_day
returns-clause-long_stub_on_the_same_day c = long_stub_on_the_same_day

pub returns-clause-month_end_of_the_anchor : goal.returns-clause-month_end_of_the_anchor
returns-clause-month_end_of_the_anchor c = month_end_of_the_anchor

pub returns-clause-anchor_past_2299 : goal.returns-clause-anchor_past_2299
returns-clause-anchor_past_2299 c = anchor_past_2299

pub returns-clause-cycle_past_2299 : goal.returns-clause-cycle_past_2299
returns-clause-cycle_past_2299 c = cycle_past_2299

pub returns-clause-moved_past_2299 : goal.returns-clause-moved_past_2299
returns-clause-moved_past_2299 c = moved_past_2299

pub returns-clause-moved_back_in_2299 : goal.returns-clause-moved_back_in_2299
returns-clause-moved_back_in_2299 c = moved_back_in_2299

pub returns-clause-too_many_events : goal.returns-clause-too_many_events
returns-clause-too_many_events c = too_many_events

pub returns-clause-anchor_after_the_end : goal.returns-clause-anchor_after_the_end
returns-clause-anchor_after_the_end c = anchor_after_the_end

pub returns-clause-interest_at_maturity : goal.returns-clause-interest_at_maturity
returns-clause-interest_at_maturity c = interest_at_maturity

pub returns-clause-capitalization_is_counted : goal.returns-clause-capitalization_is_counted
returns-clause-capitalization_is_counted c = capitalization_is_counted

pub returns-clause-capitalization_past_maturity : goal.returns-clause-capitalization_past_maturity
returns-clause-capitalization_past_maturity c = capitalization_past_maturity

pub returns-clause-interest_with_redemption : goal.returns-clause-interest_with_redemption
returns-clause-interest_with_redemption c = interest_with_redemption

pub returns-clause-interest_after_capitalization : goal.returns-clause-interest_after_capitalization
returns-clause-interest_after_capitalization c = interest_after_capitalization

pub returns-clause-fixed_reset_before_the_loan : goal.returns-clause-fixed_reset_before_the_loan
returns-clause-fixed_reset_before_the_loan c = fixed_reset_before_the_loan

pub returns-clause-payment_fixed_twice : goal.returns-clause-payment_fixed_twice
returns-clause-payment_fixed_twice c = payment_fixed_twice

pub returns-clause-derived_instalments : goal.returns-clause-derived_instalments
returns-clause-derived_instalments c = derived_instalments

pub returns-clause-one_instalment_at_start : goal.returns-clause-one_instalment_at_start
returns-clause-one_instalment_at_start c = one_instalment_at_start

pub returns-clause-too_many_instalments : goal.returns-clause-too_many_instalments
returns-clause-too_many_instalments c = too_many_instalments

pub returns-clause-instalments_past_2299 : goal.returns-clause-instalments_past_2299
returns-clause-instalments_past_2299 c = instalments_past_2299

pub returns-clause-derived_maturity_of_month_ends : goal.returns-clause-derived_maturity_of_month_ends
returns-clause-derived_maturity_of_month_ends c = derived_maturity_of_month_ends

pub returns-clause-derived_maturity_is_not_moved : goal.returns-clause-derived_maturity_is_not_moved
returns-clause-derived_maturity_is_not_moved c = derived_maturity_is_not_moved
