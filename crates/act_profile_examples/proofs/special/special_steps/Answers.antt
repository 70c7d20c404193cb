use Rattle.act_profile_examples.proofs.ComputedSpecial.{penalties_of_one_day, credit_event_does_not_accrue, empty_prepayment_accrues, accrual_never_goes_back, rate_of_the_moved_day, reads_come_first, empty_prepayment_reads_the_factor, swap_exchange_reads_no_factor, fee_at_maturity, fee_amount_does_not_accrue, base_fixed_behind_interest, cap_below_the_floor, fixed_rate_above_the_cap, swap_reset, started_annuity}
use Rattle.act_profile_examples.proofs.special.special_steps.Goals as goal

pub returns-clause-penalties_of_one_day : goal.returns-clause-penalties_of_one_day
returns-clause-penalties_of_one_day c = penalties_of_one_day

pub returns-clause-credit_event_does_not_accrue : goal.returns-clause-credit_event_does_not_accrue
returns-clause-credit_event_does_not_accrue c = credit_event_does_not_accrue

pub returns-clause-empty_prepayment_accrues : goal.returns-clause-empty_prepayment_accrues
returns-clause-empty_prepayment_accrues c = empty_prepayment_accrues

pub returns-clause-accrual_never_goes_back : goal.returns-clause-accrual_never_goes_back
returns-clause-accrual_never_goes_back c = accrual_never_goes_back

pub returns-clause-rate_of_the_moved_day : goal.returns-clause-rate_of_the_moved_day
returns-clause-rate_of_the_moved_day c = rate_of_the_moved_day

pub returns-clause-reads_come_first : goal.returns-clause-reads_come_first
returns-clause-reads_come_first c = reads_come_first

pub returns-clause-empty_prepayment_reads_the_factor : goal.returns-clause-empty_prepayment_reads_the_factor
returns-clause-empty_prepayment_reads_the_factor c = empty_prepayment_reads_the_factor

pub returns-clause-swap_exchange_reads_no_factor : goal.returns-clause-swap_exchange_reads_no_factor
returns-clause-swap_exchange_reads_no_factor c = swap_exchange_reads_no_factor

pub returns-clause-fee_at_maturity : goal.returns-clause-fee_at_maturity
returns-clause-fee_at_maturity c = fee_at_maturity

pub returns-clause-fee_amount_does_not_accrue : goal.returns-clause-fee_amount_does_not_accrue
returns-clause-fee_amount_does_not_accrue c = fee_amount_does_not_accrue

pub returns-clause-base_fixed_behind_interest : goal.returns-clause-base_fixed_behind_interest
returns-clause-base_fixed_behind_interest c = base_fixed_behind_interest

pub returns-clause-cap_below_the_floor : goal.returns-clause-cap_below_the_floor
returns-clause-cap_below_the_floor c = cap_below_the_floor

pub returns-clause-fixed_rate_above_the_cap : goal.returns-clause-fixed_rate_above_the_cap
returns-clause-fixed_rate_above_the_cap c = fixed_rate_above_the_cap

pub returns-clause-swap_reset : goal.returns-clause-swap_reset
returns-clause-swap_reset c = swap_reset

pub returns-clause-started_annuity : goal.returns-clause-started_annuity
returns-clause-started_annuity c = started_annuity
