-- The special cases, computed.
use Rattle.std.proofs.Common.{refl}
use Rattle.act_profile_examples.specs.Special.{ProductWithOneOverflows, InterestOfNoDaysOverflows, LongStubAtAMonthsEnd, LongStubOnTheSameDay, MonthEndOfTheAnchor, AnchorPast2299, CyclePast2299, MovedPast2299, MovedBackIn2299, TooManyEvents, AnchorAfterTheEnd, InterestAtMaturity, CapitalizationIsCounted, CapitalizationPastMaturity, InterestWithRedemption, InterestAfterCapitalization, FixedResetBeforeTheLoan, PaymentFixedTwice, DerivedInstalments, OneInstalmentAtStart, TooManyInstalments, InstalmentsPast2299, DerivedMaturityOfMonthEnds, DerivedMaturityIsNotMoved, PrepaymentAtMaturity, TerminatedBefore, MaturityBeforeTheLoan, BeforeAPurchase, PurchasedBefore, PenaltiesOfOneDay, CreditEventDoesNotAccrue, EmptyPrepaymentAccrues, AccrualNeverGoesBack, RateOfTheMovedDay, ReadsComeFirst, EmptyPrepaymentReadsTheFactor, SwapExchangeReadsNoFactor, FeeAtMaturity, FeeAmountDoesNotAccrue, BaseFixedBehindInterest, CapBelowTheFloor, FixedRateAboveTheCap, SwapReset, StartedAnnuity, RowsOfLegs, NettedInterest, InterestInTwoCurrencies, NettedInOrder, StopOfTheFirstChild, StopAtTermination, StopAfterTermination, StopOfTheChildOnTheSameDay, EarlierStopOfTheSwap, CapInPlaceOfAFloor, ExerciseOnTheStatusDate, SettlementMovedBack, SettlementNotBeforeExercise, SettlementPast2299, DefaultAfterTheLoan, NoDefault, DefaultOfAStoppedLoan, DefaultAfterAnOverflow, StoppedCollateral, MaturityOfAGuarantee}
use Rattle.act_profile_examples.proofs.OnLiterals.{profile_on_literals}

pub product_with_one_overflows : ProductWithOneOverflows
unfolding profile_on_literals
product_with_one_overflows = refl

pub interest_of_no_days_overflows : InterestOfNoDaysOverflows
unfolding profile_on_literals
interest_of_no_days_overflows = refl

pub long_stub_at_a_months_end : LongStubAtAMonthsEnd
unfolding profile_on_literals
long_stub_at_a_months_end = refl

pub long_stub_on_the_same_day : LongStubOnTheSameDay
unfolding profile_on_literals
long_stub_on_the_same_day = refl

pub month_end_of_the_anchor : MonthEndOfTheAnchor
unfolding profile_on_literals
month_end_of_the_anchor = refl

pub anchor_past_2299 : AnchorPast2299
unfolding profile_on_literals
anchor_past_2299 = refl

pub cycle_past_2299 : CyclePast2299
unfolding profile_on_literals
cycle_past_2299 = refl

pub moved_past_2299 : MovedPast2299
unfolding profile_on_literals
moved_past_2299 = refl

pub moved_back_in_2299 : MovedBackIn2299
unfolding profile_on_literals
moved_back_in_2299 = refl

pub too_many_events : TooManyEvents
unfolding profile_on_literals
too_many_events = refl

pub anchor_after_the_end : AnchorAfterTheEnd
unfolding profile_on_literals
anchor_after_the_end = refl

pub interest_at_maturity : InterestAtMaturity
unfolding profile_on_literals
interest_at_maturity = refl

pub capitalization_is_counted : CapitalizationIsCounted
unfolding profile_on_literals
capitalization_is_counted = refl

pub capitalization_past_maturity : CapitalizationPastMaturity
unfolding profile_on_literals
capitalization_past_maturity = refl

pub interest_with_redemption : InterestWithRedemption
unfolding profile_on_literals
interest_with_redemption = refl

pub interest_after_capitalization : InterestAfterCapitalization
unfolding profile_on_literals
interest_after_capitalization = refl

pub fixed_reset_before_the_loan : FixedResetBeforeTheLoan
unfolding profile_on_literals
fixed_reset_before_the_loan = refl

pub payment_fixed_twice : PaymentFixedTwice
unfolding profile_on_literals
payment_fixed_twice = refl

pub derived_instalments : DerivedInstalments
unfolding profile_on_literals
derived_instalments = refl

pub one_instalment_at_start : OneInstalmentAtStart
unfolding profile_on_literals
one_instalment_at_start = refl

pub too_many_instalments : TooManyInstalments
unfolding profile_on_literals
too_many_instalments = refl

pub instalments_past_2299 : InstalmentsPast2299
unfolding profile_on_literals
instalments_past_2299 = refl

pub derived_maturity_of_month_ends : DerivedMaturityOfMonthEnds
unfolding profile_on_literals
derived_maturity_of_month_ends = refl

pub derived_maturity_is_not_moved : DerivedMaturityIsNotMoved
unfolding profile_on_literals
derived_maturity_is_not_moved = refl

pub prepayment_at_maturity : PrepaymentAtMaturity
unfolding profile_on_literals
prepayment_at_maturity = refl

pub terminated_before : TerminatedBefore
unfolding profile_on_literals
terminated_before = refl

pub maturity_before_the_loan : MaturityBeforeTheLoan
unfolding profile_on_literals
maturity_before_the_loan = refl

pub before_a_purchase : BeforeAPurchase
unfolding profile_on_literals
before_a_purchase = refl

pub purchased_before : PurchasedBefore
unfolding profile_on_literals
purchased_before = refl

pub penalties_of_one_day : PenaltiesOfOneDay
unfolding profile_on_literals
penalties_of_one_day = refl

pub credit_event_does_not_accrue : CreditEventDoesNotAccrue
unfolding profile_on_literals
credit_event_does_not_accrue = refl

pub empty_prepayment_accrues : EmptyPrepaymentAccrues
unfolding profile_on_literals
empty_prepayment_accrues = refl

pub accrual_never_goes_back : AccrualNeverGoesBack
unfolding profile_on_literals
accrual_never_goes_back = refl

pub rate_of_the_moved_day : RateOfTheMovedDay
unfolding profile_on_literals
rate_of_the_moved_day = refl

pub reads_come_first : ReadsComeFirst
unfolding profile_on_literals
reads_come_first = refl

pub empty_prepayment_reads_the_factor : EmptyPrepaymentReadsTheFactor
unfolding profile_on_literals
empty_prepayment_reads_the_factor = refl

pub swap_exchange_reads_no_factor : SwapExchangeReadsNoFactor
unfolding profile_on_literals
swap_exchange_reads_no_factor = refl

pub fee_at_maturity : FeeAtMaturity
unfolding profile_on_literals
fee_at_maturity = refl

pub fee_amount_does_not_accrue : FeeAmountDoesNotAccrue
unfolding profile_on_literals
fee_amount_does_not_accrue = refl

pub base_fixed_behind_interest : BaseFixedBehindInterest
unfolding profile_on_literals
base_fixed_behind_interest = refl

pub cap_below_the_floor : CapBelowTheFloor
unfolding profile_on_literals
cap_below_the_floor = refl

pub fixed_rate_above_the_cap : FixedRateAboveTheCap
unfolding profile_on_literals
fixed_rate_above_the_cap = refl

pub swap_reset : SwapReset
unfolding profile_on_literals
swap_reset = refl

pub started_annuity : StartedAnnuity
unfolding profile_on_literals
started_annuity = refl

pub rows_of_legs : RowsOfLegs
unfolding profile_on_literals
rows_of_legs = refl

pub netted_interest : NettedInterest
unfolding profile_on_literals
netted_interest = refl

pub interest_in_two_currencies : InterestInTwoCurrencies
unfolding profile_on_literals
interest_in_two_currencies = refl

pub netted_in_order : NettedInOrder
unfolding profile_on_literals
netted_in_order = refl

pub stop_of_the_first_child : StopOfTheFirstChild
unfolding profile_on_literals
stop_of_the_first_child = refl

pub stop_at_termination : StopAtTermination
unfolding profile_on_literals
stop_at_termination = refl

pub stop_after_termination : StopAfterTermination
unfolding profile_on_literals
stop_after_termination = refl

pub stop_of_the_child_on_the_same_day : StopOfTheChildOnTheSameDay
unfolding profile_on_literals
stop_of_the_child_on_the_same_day = refl

pub earlier_stop_of_the_swap : EarlierStopOfTheSwap
unfolding profile_on_literals
earlier_stop_of_the_swap = refl

pub cap_in_place_of_a_floor : CapInPlaceOfAFloor
unfolding profile_on_literals
cap_in_place_of_a_floor = refl

pub exercise_on_the_status_date : ExerciseOnTheStatusDate
unfolding profile_on_literals
exercise_on_the_status_date = refl

pub settlement_moved_back : SettlementMovedBack
unfolding profile_on_literals
settlement_moved_back = refl

pub settlement_not_before_exercise : SettlementNotBeforeExercise
unfolding profile_on_literals
settlement_not_before_exercise = refl

pub settlement_past_2299 : SettlementPast2299
unfolding profile_on_literals
settlement_past_2299 = refl

pub default_after_the_loan : DefaultAfterTheLoan
unfolding profile_on_literals
default_after_the_loan = refl

pub no_default : NoDefault
unfolding profile_on_literals
no_default = refl

pub default_of_a_stopped_loan : DefaultOfAStoppedLoan
unfolding profile_on_literals
default_of_a_stopped_loan = refl

pub default_after_an_overflow : DefaultAfterAnOverflow
unfolding profile_on_literals
default_after_an_overflow = refl

pub stopped_collateral : StoppedCollateral
unfolding profile_on_literals
stopped_collateral = refl

pub maturity_of_a_guarantee : MaturityOfAGuarantee
unfolding profile_on_literals
maturity_of_a_guarantee = refl
