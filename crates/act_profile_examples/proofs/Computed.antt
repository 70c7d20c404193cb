-- The runs of the worked examples, computed.
use Rattle.std.proofs.Common.{refl}
use Rattle.act_profile_examples.specs.Worked.{BulletLoan, HalfAUnitRoundsToZero, OneAndAHalfRoundsToTwo, EarlierInterestAnchor, InterestOverflows, LargeInterest, ResetWithoutARate, ResetByARate, ResetByALaterRate, AnnuityWithoutInterest, Annuity, Instalments, GrowingLoan, BoughtCall, OutrightDelivered, OutrightSettled, PlainSwap, SwapOfTwoLoans, CapOnALoan, GuaranteeOfALoan, CollateralOf500}
use Rattle.act_profile_examples.proofs.OnLiterals.{profile_on_literals}

pub bullet_loan : BulletLoan
unfolding profile_on_literals
bullet_loan = refl

pub half_a_unit_rounds_to_zero : HalfAUnitRoundsToZero
unfolding profile_on_literals
half_a_unit_rounds_to_zero = refl

pub one_and_a_half_rounds_to_two : OneAndAHalfRoundsToTwo
unfolding profile_on_literals
one_and_a_half_rounds_to_two = refl

pub earlier_interest_anchor : EarlierInterestAnchor
unfolding profile_on_literals
earlier_interest_anchor = refl

pub interest_overflows : InterestOverflows
unfolding profile_on_literals
interest_overflows = refl

pub large_interest : LargeInterest
unfolding profile_on_literals
large_interest = refl

pub reset_without_a_rate : ResetWithoutARate
unfolding profile_on_literals
reset_without_a_rate = refl

pub reset_by_a_rate : ResetByARate
unfolding profile_on_literals
reset_by_a_rate = refl

pub reset_by_a_later_rate : ResetByALaterRate
unfolding profile_on_literals
reset_by_a_later_rate = refl

pub annuity_without_interest : AnnuityWithoutInterest
unfolding profile_on_literals
annuity_without_interest = refl

pub annuity : Annuity
unfolding profile_on_literals
annuity = refl

pub instalments : Instalments
unfolding profile_on_literals
instalments = refl

pub growing_loan : GrowingLoan
unfolding profile_on_literals
growing_loan = refl

pub bought_call : BoughtCall
unfolding profile_on_literals
bought_call = refl

pub outright_delivered : OutrightDelivered
unfolding profile_on_literals
outright_delivered = refl

pub outright_settled : OutrightSettled
unfolding profile_on_literals
outright_settled = refl

pub plain_swap : PlainSwap
unfolding profile_on_literals
plain_swap = refl

pub swap_of_two_loans : SwapOfTwoLoans
unfolding profile_on_literals
swap_of_two_loans = refl

pub cap_on_a_loan : CapOnALoan
unfolding profile_on_literals
cap_on_a_loan = refl

pub guarantee_of_a_loan : GuaranteeOfALoan
unfolding profile_on_literals
guarantee_of_a_loan = refl

pub collateral_of_500 : CollateralOf500
unfolding profile_on_literals
collateral_of_500 = refl
