-- The lines of the tables, computed.
use Rattle.std.proofs.Common.{refl}
use Rattle.act_profile_examples.specs.Tables.{BorrowersLoan, StartedLoan, StartedWithInterest, UndefinedStart, StartedSwap, AcrossALeapYear, MaturityInFebruary, BusinessDaysOfAWeek, ShiftedFirst, CountedFirst, SoldLoan, PenaltyAmount, LostInterest, NoLostInterest, PrepaidWhole, FeeAmount, FeeOnTheNotional, Scaled, BoundedReset, InterestOnAFixedBase, AnnuityWithAReset, MortgagePlan, StockWithDividends, SoldFuture, WorthlessCall, Put, CallAndPut, EarlyExercise, NoEarlyExercise, BoughtAndSoldSwap, OwnPurchaseFirst, CapOnASwap, CapOnAPrepaidLoan, CapUntilMaturity, ExposureWithoutInterest, ExposureByMarketValue, CoveredTwice, CutByALaterRate, CutByNothing, CutOfAShadow, CutOfACap, StoppedRunIsKept, StopOnTheCut}
use Rattle.act_profile_examples.proofs.OnLiterals.{profile_on_literals}

pub borrowers_loan : BorrowersLoan
unfolding profile_on_literals
borrowers_loan = refl

pub started_loan : StartedLoan
unfolding profile_on_literals
started_loan = refl

pub started_with_interest : StartedWithInterest
unfolding profile_on_literals
started_with_interest = refl

pub undefined_start : UndefinedStart
unfolding profile_on_literals
undefined_start = refl

pub started_swap : StartedSwap
unfolding profile_on_literals
started_swap = refl

pub across_a_leap_year : AcrossALeapYear
unfolding profile_on_literals
across_a_leap_year = refl

pub maturity_in_february : MaturityInFebruary
unfolding profile_on_literals
maturity_in_february = refl

pub business_days_of_a_week : BusinessDaysOfAWeek
unfolding profile_on_literals
business_days_of_a_week = refl

pub shifted_first : ShiftedFirst
unfolding profile_on_literals
shifted_first = refl

pub counted_first : CountedFirst
unfolding profile_on_literals
counted_first = refl

pub sold_loan : SoldLoan
unfolding profile_on_literals
sold_loan = refl

pub penalty_amount : PenaltyAmount
unfolding profile_on_literals
penalty_amount = refl

pub lost_interest : LostInterest
unfolding profile_on_literals
lost_interest = refl

pub no_lost_interest : NoLostInterest
unfolding profile_on_literals
no_lost_interest = refl

pub prepaid_whole : PrepaidWhole
unfolding profile_on_literals
prepaid_whole = refl

pub fee_amount : FeeAmount
unfolding profile_on_literals
fee_amount = refl

pub fee_on_the_notional : FeeOnTheNotional
unfolding profile_on_literals
fee_on_the_notional = refl

pub scaled : Scaled
unfolding profile_on_literals
scaled = refl

pub bounded_reset : BoundedReset
unfolding profile_on_literals
bounded_reset = refl

pub interest_on_a_fixed_base : InterestOnAFixedBase
unfolding profile_on_literals
interest_on_a_fixed_base = refl

pub annuity_with_a_reset : AnnuityWithAReset
unfolding profile_on_literals
annuity_with_a_reset = refl

pub mortgage_plan : MortgagePlan
unfolding profile_on_literals
mortgage_plan = refl

pub stock_with_dividends : StockWithDividends
unfolding profile_on_literals
stock_with_dividends = refl

pub sold_future : SoldFuture
unfolding profile_on_literals
sold_future = refl

pub worthless_call : WorthlessCall
unfolding profile_on_literals
worthless_call = refl

pub put : Put
unfolding profile_on_literals
put = refl

pub call_and_put : CallAndPut
unfolding profile_on_literals
call_and_put = refl

pub early_exercise : EarlyExercise
unfolding profile_on_literals
early_exercise = refl

pub no_early_exercise : NoEarlyExercise
unfolding profile_on_literals
no_early_exercise = refl

pub bought_and_sold_swap : BoughtAndSoldSwap
unfolding profile_on_literals
bought_and_sold_swap = refl

pub own_purchase_first : OwnPurchaseFirst
unfolding profile_on_literals
own_purchase_first = refl

pub cap_on_a_swap : CapOnASwap
unfolding profile_on_literals
cap_on_a_swap = refl

pub cap_on_a_prepaid_loan : CapOnAPrepaidLoan
unfolding profile_on_literals
cap_on_a_prepaid_loan = refl

pub cap_until_maturity : CapUntilMaturity
unfolding profile_on_literals
cap_until_maturity = refl

pub exposure_without_interest : ExposureWithoutInterest
unfolding profile_on_literals
exposure_without_interest = refl

pub exposure_by_market_value : ExposureByMarketValue
unfolding profile_on_literals
exposure_by_market_value = refl

pub covered_twice : CoveredTwice
unfolding profile_on_literals
covered_twice = refl

pub cut_by_a_later_rate : CutByALaterRate
unfolding profile_on_literals
cut_by_a_later_rate = refl

pub cut_by_nothing : CutByNothing
unfolding profile_on_literals
cut_by_nothing = refl

pub cut_of_a_shadow : CutOfAShadow
unfolding profile_on_literals
cut_of_a_shadow = refl

pub cut_of_a_cap : CutOfACap
unfolding profile_on_literals
cut_of_a_cap = refl

pub stopped_run_is_kept : StoppedRunIsKept
unfolding profile_on_literals
stopped_run_is_kept = refl

pub stop_on_the_cut : StopOnTheCut
unfolding profile_on_literals
stop_on_the_cut = refl
