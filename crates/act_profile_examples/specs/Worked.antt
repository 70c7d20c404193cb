-- What the definitions give for small contracts: whole runs, worked out by hand.
use Rattle.std.specs.Prelude.{◌≡◌, neg_ℤ, pos, List, [], ◌∷◌, Some, None}
use Rattle.act_model.specs.declared.choice.DeliverySettlement.TheVariants as delivery
use Rattle.act_model.specs.declared.event.EventType.TheVariants.{IED, PR, PRD, IP, RR, PRF, MD, XD, STD}
use Rattle.act_model.specs.declared.observed.ObsKind.TheVariants as observed
use Rattle.act_model.specs.declared.run.Close.TheVariants.{End, Missing, Overflow}
use Rattle.act_date.specs.declared.cycle.Unit.TheVariants as unit
use Rattle.act_profile_examples.specs.Examples.{Printed, alone, annuity_at, bare_row, bought, bullet, bullet_of_amount, bullet_with, call_of, cap, capped_shadow, collateral_of, common, covered_by, covered_until, default_cover, dollar_in_euros, dollar_row, event_on, every, growing, guarantee_of, instalments, negative, no_reset, on, one_reset, outright, over_two, percent, plain_swap, rate_on, resetting, resetting_of, row, share, story, swap_of_legs, told, under_cap, whole, yearly_loan, yearly_rate}
use Rattle.act_profile.specs.Run.{run_of}

-- ---- loans that are paid back at once

-- a loan of 1000 at 5 percent for a year pays 50 and 1000
abbrev pub BulletLoan : Type 0
BulletLoan = told (run_of (alone bullet) [] 0) ≡ story (
    row (on 2020 1 1) IED (negative 1000) (whole 1000) (percent 5) (whole 0)
    ∷ row (on 2021 1 1) IP (whole 50) (whole 1000) (percent 5) (whole 0)
    ∷ row (on 2021 1 1) MD (whole 1000) (whole 0) (percent 5) (whole 0) ∷ []) End

-- the interest on one unit is half a unit, which rounds to the even 0
abbrev pub HalfAUnitRoundsToZero : Type 0
HalfAUnitRoundsToZero = told (run_of (alone (bullet_of_amount (pos 1) (Some (percent 50)))) [] 0) ≡ story (
    row (on 2020 1 1) IED (neg_ℤ (pos 1)) (pos 1) (percent 50) (pos 0)
    ∷ row (on 2021 1 1) IP (pos 0) (pos 1) (percent 50) (pos 0)
    ∷ row (on 2021 1 1) MD (pos 1) (pos 0) (percent 50) (pos 0) ∷ []) End

-- the interest on three units is one and a half units, which rounds to the even 2
abbrev pub OneAndAHalfRoundsToTwo : Type 0
OneAndAHalfRoundsToTwo = told (run_of (alone (bullet_of_amount (pos 3) (Some (percent 50)))) [] 0) ≡ story (
    row (on 2020 1 1) IED (neg_ℤ (pos 3)) (pos 3) (percent 50) (pos 0)
    ∷ row (on 2021 1 1) IP (pos 2) (pos 3) (percent 50) (pos 0)
    ∷ row (on 2021 1 1) MD (pos 3) (pos 0) (percent 50) (pos 0) ∷ []) End

-- interest dates that are counted from half a year before the loan: it starts with the interest of that half year
abbrev pub EarlierInterestAnchor : Type 0
EarlierInterestAnchor = told (run_of (alone (bullet_with (record yearly_loan { cycle_anchor_date_of_interest_payment = Some (on 2019 7 1) }))) [] 0) ≡ story (
    row (on 2020 1 1) IED (negative 1000) (whole 1000) (percent 5) (whole 25)
    ∷ row (on 2020 7 1) IP (whole 50) (whole 1000) (percent 5) (whole 0)
    ∷ row (on 2021 1 1) IP (whole 25) (whole 1000) (percent 5) (whole 0)
    ∷ row (on 2021 1 1) MD (whole 1000) (whole 0) (percent 5) (whole 0) ∷ []) End

-- the interest on 5 * 10^17 at 100 percent is undefined: on the way to it a product of units is out of range
abbrev pub InterestOverflows : Type 0
InterestOverflows = told (run_of (alone (bullet_of_amount (whole 500_000_000_000_000_000) (Some (whole 1)))) [] 0) ≡ story (
    row (on 2020 1 1) IED (negative 500_000_000_000_000_000) (whole 500_000_000_000_000_000) (whole 1) (whole 0) ∷ [])
    (Overflow (on 2021 1 1) IP)

-- a tenth of that is paid
abbrev pub LargeInterest : Type 0
LargeInterest = told (run_of (alone (bullet_of_amount (whole 50_000_000_000_000_000) (Some (whole 1)))) [] 0) ≡ story (
    row (on 2020 1 1) IED (negative 50_000_000_000_000_000) (whole 50_000_000_000_000_000) (whole 1) (whole 0)
    ∷ row (on 2021 1 1) IP (whole 50_000_000_000_000_000) (whole 50_000_000_000_000_000) (whole 1) (whole 0)
    ∷ row (on 2021 1 1) MD (whole 50_000_000_000_000_000) (whole 0) (whole 1) (whole 0) ∷ []) End

-- ---- resets

-- what a loan for two years pays up to its reset after the first year
abbrev pub first_year : List Printed → List Printed
first_year later =
    row (on 2020 1 1) IED (negative 1000) (whole 1000) (percent 5) (whole 0)
    ∷ row (on 2021 1 1) IP (whole 50) (whole 1000) (percent 5) (whole 0) ∷ later

-- without an observed rate the run stops at the reset
abbrev pub ResetWithoutARate : Type 0
ResetWithoutARate = told (run_of (alone resetting) [] 0) ≡ story (first_year []) (Missing yearly_rate (on 2021 1 1))

-- with an observed rate of 3 percent the second year pays 30
abbrev pub ResetByARate : Type 0
ResetByARate = told (run_of (alone resetting) (rate_on yearly_rate (on 2020 6 1) (percent 3) ∷ []) 0) ≡ story (first_year (
    row (on 2021 1 1) RR (whole 0) (whole 1000) (percent 3) (whole 0)
    ∷ row (on 2022 1 1) IP (whole 30) (whole 1000) (percent 3) (whole 0)
    ∷ row (on 2022 1 1) MD (whole 1000) (whole 0) (percent 3) (whole 0) ∷ [])) End

-- a rate of 4 percent of a later day takes its place
abbrev pub ResetByALaterRate : Type 0
ResetByALaterRate = told (run_of (alone resetting) (rate_on yearly_rate (on 2020 6 1) (percent 3) ∷ rate_on yearly_rate (on 2020 9 1) (percent 4) ∷ []) 0) ≡ story (first_year (
    row (on 2021 1 1) RR (whole 0) (whole 1000) (percent 4) (whole 0)
    ∷ row (on 2022 1 1) IP (whole 40) (whole 1000) (percent 4) (whole 0)
    ∷ row (on 2022 1 1) MD (whole 1000) (whole 0) (percent 4) (whole 0) ∷ [])) End

-- ---- loans that are redeemed

-- an annuity at rate 0 is redeemed by four equal parts
abbrev pub AnnuityWithoutInterest : Type 0
AnnuityWithoutInterest = told (run_of (alone (annuity_at (percent 0))) [] 0) ≡ story (
    row (on 2020 1 1) IED (negative 1000) (whole 1000) (percent 0) (whole 0)
    ∷ row (on 2020 1 1) PRF (whole 0) (whole 1000) (percent 0) (whole 0)
    ∷ row (on 2020 4 1) PR (whole 250) (whole 750) (percent 0) (whole 0)
    ∷ row (on 2020 4 1) IP (whole 0) (whole 750) (percent 0) (whole 0)
    ∷ row (on 2020 7 1) PR (whole 250) (whole 500) (percent 0) (whole 0)
    ∷ row (on 2020 7 1) IP (whole 0) (whole 500) (percent 0) (whole 0)
    ∷ row (on 2020 10 1) PR (whole 250) (whole 250) (percent 0) (whole 0)
    ∷ row (on 2020 10 1) IP (whole 0) (whole 250) (percent 0) (whole 0)
    ∷ row (on 2021 1 1) IP (whole 0) (whole 250) (percent 0) (whole 0)
    ∷ row (on 2021 1 1) MD (whole 250) (whole 0) (percent 0) (whole 0) ∷ []) End

-- an annuity at 4 percent: redemption and interest are together 256.281093912 on each date
abbrev pub Annuity : Type 0
Annuity = told (run_of (alone (annuity_at (percent 4))) [] 0) ≡ story (
    row (on 2020 1 1) IED (negative 1000) (whole 1000) (percent 4) (whole 0)
    ∷ row (on 2020 1 1) PRF (whole 0) (whole 1000) (percent 4) (whole 0)
    ∷ row (on 2020 4 1) PR (pos 246_281_093_912) (pos 753_718_906_088) (percent 4) (whole 10)
    ∷ row (on 2020 4 1) IP (whole 10) (pos 753_718_906_088) (percent 4) (whole 0)
    ∷ row (on 2020 7 1) PR (pos 248_743_904_851) (pos 504_975_001_237) (percent 4) (pos 7_537_189_061)
    ∷ row (on 2020 7 1) IP (pos 7_537_189_061) (pos 504_975_001_237) (percent 4) (whole 0)
    ∷ row (on 2020 10 1) PR (pos 251_231_343_900) (pos 253_743_657_337) (percent 4) (pos 5_049_750_012)
    ∷ row (on 2020 10 1) IP (pos 5_049_750_012) (pos 253_743_657_337) (percent 4) (whole 0)
    ∷ row (on 2021 1 1) IP (pos 2_537_436_573) (pos 253_743_657_337) (percent 4) (whole 0)
    ∷ row (on 2021 1 1) MD (pos 253_743_657_337) (whole 0) (percent 4) (whole 0) ∷ []) End

-- instalments of 250 every quarter redeem 1000 in a year
abbrev pub Instalments : Type 0
Instalments = told (run_of (alone instalments) [] 0) ≡ story (
    row (on 2020 1 1) IED (negative 1000) (whole 1000) (percent 4) (whole 0)
    ∷ row (on 2020 4 1) PR (whole 250) (whole 750) (percent 4) (whole 10)
    ∷ row (on 2020 4 1) IP (whole 10) (whole 750) (percent 4) (whole 0)
    ∷ row (on 2020 7 1) PR (whole 250) (whole 500) (percent 4) (pos 7_500_000_000)
    ∷ row (on 2020 7 1) IP (pos 7_500_000_000) (whole 500) (percent 4) (whole 0)
    ∷ row (on 2020 10 1) PR (whole 250) (whole 250) (percent 4) (whole 5)
    ∷ row (on 2020 10 1) IP (whole 5) (whole 250) (percent 4) (whole 0)
    ∷ row (on 2021 1 1) IP (pos 2_500_000_000) (whole 250) (percent 4) (whole 0)
    ∷ row (on 2021 1 1) MD (whole 250) (whole 0) (percent 4) (whole 0) ∷ []) End

-- a payment of 5 where interest is 10: what is owed grows
abbrev pub GrowingLoan : Type 0
GrowingLoan = told (run_of (alone growing) [] 0) ≡ story (
    row (on 2020 1 1) IED (negative 1000) (whole 1000) (percent 4) (whole 0)
    ∷ row (on 2020 4 1) PR (negative 5) (whole 1005) (percent 4) (whole 10)
    ∷ row (on 2020 4 1) IP (whole 10) (whole 1005) (percent 4) (whole 0)
    ∷ row (on 2020 7 1) IP (pos 10_050_000_000) (whole 1005) (percent 4) (whole 0)
    ∷ row (on 2020 7 1) MD (whole 1005) (whole 0) (percent 4) (whole 0) ∷ []) End

-- ---- options and outrights

-- a call at 100 that was bought for 3 and is exercised at 110
abbrev pub BoughtCall : Type 0
BoughtCall = told (run_of (alone (call_of (bought (on 2020 1 2) (whole 3) (common 0)) (on 2020 6 30) (every 2 unit.D))) (rate_on share (on 2020 6 29) (whole 110) ∷ []) 0) ≡ story (
    bare_row (on 2020 1 2) PRD (negative 3)
    ∷ bare_row (on 2020 6 30) XD (whole 0)
    ∷ bare_row (on 2020 7 2) STD (whole 10) ∷ []) End

-- an outright whose amounts are both paid
abbrev pub OutrightDelivered : Type 0
OutrightDelivered = told (run_of (alone (outright delivery.D None)) [] 0) ≡ story (
    bare_row (on 2020 6 30) MD (whole 1000)
    ∷ dollar_row (on 2020 6 30) MD (negative 1100) (whole 0) (whole 0) (whole 0) ∷ []) End

-- an outright whose difference is paid
abbrev pub OutrightSettled : Type 0
OutrightSettled = told (run_of (alone (outright delivery.S (Some dollar_in_euros))) (rate_on dollar_in_euros (on 2020 6 30) (percent 90) ∷ []) 0) ≡ story (
    bare_row (on 2020 6 30) STD (whole 10) ∷ []) End

-- ---- swaps, caps and floors

-- a swap of 5 against 3 percent
abbrev pub PlainSwap : Type 0
PlainSwap = told (run_of (alone (plain_swap (on 2021 1 1) no_reset)) [] 0) ≡ story (
    row (on 2020 1 1) IED (whole 0) (whole 1000) (percent 5) (whole 0)
    ∷ row (on 2021 1 1) IP (whole 20) (whole 1000) (percent 5) (whole 0)
    ∷ row (on 2021 1 1) MD (whole 0) (whole 0) (percent 5) (whole 0) ∷ []) End

-- a swap of two loans, of which the second stops for want of a rate: it stops on that day too
abbrev pub SwapOfTwoLoans : Type 0
SwapOfTwoLoans = told (run_of (over_two bullet (resetting_of 1 (one_reset yearly_rate)) (swap_of_legs (common 2) delivery.D)) [] 2) ≡ story (
    bare_row (on 2020 1 1) IED (negative 1000)
    ∷ bare_row (on 2020 1 1) IED (whole 1000) ∷ []) (Missing yearly_rate (on 2021 1 1))

-- a cap at 2.5 percent pays the interest above it: nothing before the reset to 3 percent, and then 5
abbrev pub CapOnALoan : Type 0
CapOnALoan = told (run_of (under_cap resetting (cap (pos 25_000_000)) (capped_shadow (pos 25_000_000))) (rate_on yearly_rate (on 2020 6 1) (percent 3) ∷ []) 1) ≡ story (
    bare_row (on 2021 1 1) IP (whole 0)
    ∷ bare_row (on 2022 1 1) IP (whole 5) ∷ []) End

-- ---- guarantees

-- a loan defaults after half a year, with 1000 and 25 of interest owed: the guarantor pays four fifths of it
abbrev pub GuaranteeOfALoan : Type 0
GuaranteeOfALoan = told (run_of (covered_by bullet (guarantee_of (default_cover (Some (on 2021 1 1)) (covered_until (on 2021 1 1) bullet)))) (event_on observed.DF (on 2020 7 1) (whole 0) ∷ []) 1) ≡ story (
    bare_row (on 2020 7 1) XD (whole 0)
    ∷ bare_row (on 2020 7 1) STD (negative 820) ∷ []) End

-- collateral: four fifths of 1025, but at most what it is worth
abbrev pub CollateralOf500 : Type 0
CollateralOf500 = told (run_of (over_two bullet (resetting_of 1 (one_reset yearly_rate)) (collateral_of (default_cover None (covered_until (on 2021 1 1) bullet)))) (event_on observed.DF (on 2020 7 1) (whole 0) ∷ rate_on share (on 2020 1 1) (whole 500) ∷ []) 2) ≡ story (
    bare_row (on 2020 7 1) XD (whole 0)
    ∷ bare_row (on 2020 7 1) STD (whole 500) ∷ []) End
