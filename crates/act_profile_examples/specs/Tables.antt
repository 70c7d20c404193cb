-- Each line of the tables of steps in a small contract: whole runs and starting states, worked out by hand.
use Rattle.std.specs.Prelude.{◌≡◌, ℤ, neg_ℤ, pos, true, [], ◌∷◌, Some, None, Ok}
use Rattle.act_date.specs.declared.calendar.Calendar.TheVariants as calendar
use Rattle.act_date.specs.declared.calendar.Convention.{Convention}
use Rattle.act_date.specs.declared.calendar.Convention.TheVariants as convention
use Rattle.act_date.specs.declared.cycle.Unit.TheVariants as unit
use Rattle.act_date.specs.declared.day_count.DayCount.{DayCount}
use Rattle.act_date.specs.declared.day_count.DayCount.TheVariants as count
use Rattle.act_model.specs.declared.choice.ContractRole.TheVariants as role
use Rattle.act_model.specs.declared.choice.DeliverySettlement.TheVariants as delivery
use Rattle.act_model.specs.declared.choice.ExerciseType.{ExerciseType}
use Rattle.act_model.specs.declared.choice.ExerciseType.TheVariants as exercise
use Rattle.act_model.specs.declared.choice.FeeBasis.TheVariants as fee
use Rattle.act_model.specs.declared.choice.GuaranteedExposure.TheVariants as exposure
use Rattle.act_model.specs.declared.choice.InterestCalculationBase.TheVariants as base
use Rattle.act_model.specs.declared.choice.OptionType.{OptionType}
use Rattle.act_model.specs.declared.choice.OptionType.TheVariants as option
use Rattle.act_model.specs.declared.choice.PenaltyType.TheVariants as penalty
use Rattle.act_model.specs.declared.event.EventType.TheVariants.{IED, PR, PP, PY, FP, PRD, TD, IP, RR, PRF, SC, DV, MD, XD, STD}
use Rattle.act_model.specs.declared.observed.ObsKind.TheVariants as observed
use Rattle.act_model.specs.declared.run.Close.TheVariants.{End, Missing, Overflow}
use Rattle.act_model.specs.declared.terms.Kind.TheVariants as kind
use Rattle.act_model.specs.declared.terms.Terms.{Terms}
use Rattle.act_profile_examples.specs.Examples.{Told, alone, annuity_of, at_once, bare_row, bought, bullet, bullet_of, bullet_with, cap, capped_shadow, common, counts_planned, covered_by, covered_until, default_cover, event_on, every, guarantee_of, instalments_of, loan_at, moved_by, negative, no_fee, no_reset, on, one_reset, over_two, percent, plain_swap, planned, quarterly, quarterly_loan, rate_on, redeemed_every, resetting, resetting_of, row, share, sold, story, swap_of_legs, told, under_cap, whole, yearly_loan, yearly_rate}
use Rattle.act_profile.specs.Kept.{kept_of}
use Rattle.act_profile.specs.Reads.{cut_of}
use Rattle.act_profile.specs.Run.{run_of}
use Rattle.act_profile.specs.Steps.{start_of}

-- ---- starting states

-- a borrower's loan with a discount of 20: all signs are turned
abbrev pub BorrowersLoan : Type 0
BorrowersLoan = told (run_of (alone (bullet_of (record (common 0) { contract_role = role.RPL }) (record yearly_loan { premium_discount_at_ied = negative 20 }) (on 2021 1 1))) [] 0) ≡ story (
    row (on 2020 1 1) IED (whole 980) (negative 1000) (percent 5) (whole 0)
    ∷ row (on 2021 1 1) IP (negative 50) (negative 1000) (percent 5) (whole 0)
    ∷ row (on 2021 1 1) MD (negative 1000) (whole 0) (percent 5) (whole 0) ∷ []) End

-- a loan with quarterly interest as of 2020-05-15: interest since 2020-04-01 has accrued, 44 days of 360
abbrev pub StartedLoan : Type 0
StartedLoan =
    let terms = bullet_of (record (common 0) { status_date = on 2020 5 15 }) (record (loan_at (percent 5)) { cycle_of_interest_payment = Some (every 3 unit.M) }) (on 2021 1 1) in
    start_of terms (planned terms) ≡ Ok (record { sd = Some (on 2020 5 15); md = Some (on 2021 1 1); xd = None; nt = whole 1000; ipnr = percent 5; ipac = pos 6_111_111_111; ipnr2 = pos 0; ipac2 = pos 0; feac = pos 0; nsc = whole 1; isc = whole 1; ipcb = whole 1000; prnxt = pos 0; xa = pos 0 })

-- accrued interest that is given is taken, with the role's sign
abbrev pub StartedWithInterest : Type 0
StartedWithInterest = told (run_of (alone (bullet_of (record (common 0) { contract_role = role.RPL; status_date = on 2020 7 1 }) (record yearly_loan { accrued_interest = Some (whole 7) }) (on 2021 1 1))) [] 0) ≡ story (
    row (on 2021 1 1) IP (negative 32) (negative 1000) (percent 5) (whole 0)
    ∷ row (on 2021 1 1) MD (negative 1000) (whole 0) (percent 5) (whole 0) ∷ []) End

-- an interest that overflows leaves a started loan without a state: the run stops on the status date
abbrev pub UndefinedStart : Type 0
UndefinedStart = told (run_of (alone (bullet_of (record (common 0) { status_date = on 2020 7 1 }) (record yearly_loan { notional_principal = whole 100_000_000_000_000_000_000; nominal_interest_rate = Some (whole 10) }) (on 2021 1 1))) [] 0) ≡ story [] (Overflow (on 2020 7 1) IED)

-- a started swap has accrued at both rates
abbrev pub StartedSwap : Type 0
StartedSwap =
    let terms = record (plain_swap (on 2021 1 1) no_reset) { common = record (common 0) { contract_role = role.PFL; status_date = on 2020 7 1 } } in
    told (run_of (alone terms) [] 0) ≡ story (
    row (on 2021 1 1) IP (negative 20) (negative 1000) (percent 5) (whole 0)
    ∷ row (on 2021 1 1) MD (whole 0) (whole 0) (percent 5) (whole 0) ∷ []) End

-- ---- day counts and business days

-- the interest alone of a loan at 100 percent that is exchanged on a day and paid back on another
abbrev pub counted_loan : DayCount → ℤ → ℤ → ℤ → Terms
counted_loan days notional first last = bullet_of (record (common 0) { calendar = calendar.Mf; status_date = on 2019 12 1 }) (record (loan_at (whole 1)) { initial_exchange_date = first; notional_principal = notional; day_count_convention = days }) last

-- what it pays
abbrev pub counted_story : ℤ → ℤ → ℤ → ℤ → Told
counted_story notional first last interest = story (
    row first IED (neg_ℤ notional) notional (whole 1) (whole 0)
    ∷ row last IP interest notional (whole 1) (whole 0)
    ∷ row last MD notional (whole 0) (whole 1) (whole 0) ∷ []) End

-- 17 days in a common year and 14 in a leap year
abbrev pub AcrossALeapYear : Type 0
AcrossALeapYear = told (run_of (alone (counted_loan count.Aa (whole 133590) (on 2019 12 15) (on 2020 1 15))) [] 0) ≡ counted_story (whole 133590) (on 2019 12 15) (on 2020 1 15) (whole 11332)

-- the maturity date keeps its day in February
abbrev pub MaturityInFebruary : Type 0
MaturityInFebruary = told (run_of (alone (counted_loan count.E30Isda (whole 360) (on 2020 8 31) (on 2021 2 28))) [] 0) ≡ counted_story (whole 360) (on 2020 8 31) (on 2021 2 28) (whole 178)

-- five business days from Wednesday to Wednesday
abbrev pub BusinessDaysOfAWeek : Type 0
BusinessDaysOfAWeek = told (run_of (alone (counted_loan count.B252 (whole 252) (on 2020 1 1) (on 2020 1 8))) [] 0) ≡ counted_story (whole 252) (on 2020 1 1) (on 2020 1 8) (whole 5)

-- interest of Saturday 2020-10-31, the first of two dates
abbrev pub month_end_interest : Convention → Terms
month_end_interest convention = bullet_of (moved_by convention (common 0)) (record (loan_at (percent 36)) { initial_exchange_date = on 2020 9 30; day_count_convention = count.A360; cycle_anchor_date_of_interest_payment = Some (on 2020 10 31) }) (on 2020 11 30)

-- moved back in its month, and counted to the moved day: 30 days and 31
abbrev pub ShiftedFirst : Type 0
ShiftedFirst = told (run_of (alone (month_end_interest convention.Scmf)) [] 0) ≡ story (
    row (on 2020 9 30) IED (negative 1000) (whole 1000) (percent 36) (whole 0)
    ∷ row (on 2020 10 30) IP (whole 30) (whole 1000) (percent 36) (whole 0)
    ∷ row (on 2020 11 30) IP (whole 31) (whole 1000) (percent 36) (whole 0)
    ∷ row (on 2020 11 30) MD (whole 1000) (whole 0) (percent 36) (whole 0) ∷ []) End

-- or counted to the day itself: 31 days and 30
abbrev pub CountedFirst : Type 0
CountedFirst = told (run_of (alone (month_end_interest convention.Csmf)) [] 0) ≡ story (
    row (on 2020 9 30) IED (negative 1000) (whole 1000) (percent 36) (whole 0)
    ∷ row (on 2020 10 30) IP (whole 31) (whole 1000) (percent 36) (whole 0)
    ∷ row (on 2020 11 30) IP (whole 30) (whole 1000) (percent 36) (whole 0)
    ∷ row (on 2020 11 30) MD (whole 1000) (whole 0) (percent 36) (whole 0) ∷ []) End

-- ---- loans

-- a loan that is sold pays the price and the interest accrued, and ends
abbrev pub SoldLoan : Type 0
SoldLoan = told (run_of (alone (bullet_of (sold (on 2020 7 1) (whole 1010) (common 0)) yearly_loan (on 2021 1 1))) (event_on observed.PP (on 2020 8 1) (whole 1) ∷ []) 0) ≡ story (
    row (on 2020 1 1) IED (negative 1000) (whole 1000) (percent 5) (whole 0)
    ∷ row (on 2020 7 1) TD (whole 1035) (whole 0) (whole 0) (whole 0) ∷ []) End

-- what a loan pays after a prepayment of 100 and a penalty after half a year
abbrev pub prepaid : ℤ → Told
prepaid penalty = story (
    row (on 2020 1 1) IED (negative 1000) (whole 1000) (percent 5) (whole 0)
    ∷ row (on 2020 7 1) PP (whole 100) (whole 900) (percent 5) (whole 25)
    ∷ row (on 2020 7 1) PY penalty (whole 900) (percent 5) (whole 25)
    ∷ row (on 2021 1 1) IP (pos 47_500_000_000) (whole 900) (percent 5) (whole 0)
    ∷ row (on 2021 1 1) MD (whole 900) (whole 0) (percent 5) (whole 0) ∷ []) End

-- a penalty that is an amount
abbrev pub PenaltyAmount : Type 0
PenaltyAmount = told (run_of (alone (bullet_with (record yearly_loan { penalty_type = penalty.A; penalty_rate = whole 7 }))) (event_on observed.PP (on 2020 7 1) (whole 100) ∷ []) 0) ≡ prepaid (whole 7)

-- a penalty that is the interest lost: 5 less 3 percent on 100 for half a year
abbrev pub LostInterest : Type 0
LostInterest = told (run_of (alone (bullet_with (record yearly_loan { penalty_type = penalty.I; rate_reset = record no_reset { market_object_code_of_rate_reset = Some yearly_rate } }))) (rate_on yearly_rate (on 2020 7 1) (percent 3) ∷ event_on observed.PP (on 2020 7 1) (whole 100) ∷ []) 0) ≡ prepaid (whole 1)

-- where the rate is higher, none is lost
abbrev pub NoLostInterest : Type 0
NoLostInterest = told (run_of (alone (bullet_with (record yearly_loan { penalty_type = penalty.I; rate_reset = record no_reset { market_object_code_of_rate_reset = Some yearly_rate } }))) (rate_on yearly_rate (on 2020 7 1) (percent 6) ∷ event_on observed.PP (on 2020 7 1) (whole 100) ∷ []) 0) ≡ prepaid (whole 0)

-- more than what is owed isn't prepaid
abbrev pub PrepaidWhole : Type 0
PrepaidWhole = told (run_of (alone bullet) (event_on observed.PP (on 2020 7 1) (whole 2000) ∷ []) 0) ≡ story (
    row (on 2020 1 1) IED (negative 1000) (whole 1000) (percent 5) (whole 0)
    ∷ row (on 2020 7 1) PP (whole 1000) (whole 0) (percent 5) (whole 25)
    ∷ row (on 2021 1 1) IP (whole 25) (whole 0) (percent 5) (whole 0)
    ∷ row (on 2021 1 1) MD (whole 0) (whole 0) (percent 5) (whole 0) ∷ []) End

-- what a loan pays with a fee of 5 each half year
abbrev pub with_fee_of_5 : Told
with_fee_of_5 = story (
    row (on 2020 1 1) IED (negative 1000) (whole 1000) (percent 5) (whole 0)
    ∷ row (on 2020 7 1) FP (whole 5) (whole 1000) (percent 5) (whole 25)
    ∷ row (on 2021 1 1) FP (whole 5) (whole 1000) (percent 5) (whole 50)
    ∷ row (on 2021 1 1) IP (whole 50) (whole 1000) (percent 5) (whole 0)
    ∷ row (on 2021 1 1) MD (whole 1000) (whole 0) (percent 5) (whole 0) ∷ []) End

-- a fee that is an amount of 5
abbrev pub FeeAmount : Type 0
FeeAmount = told (run_of (alone (bullet_with (record yearly_loan { fee = record no_fee { cycle_of_fee = Some (every 6 unit.M); fee_rate = Some (whole 5); fee_basis = Some fee.A } }))) [] 0) ≡ with_fee_of_5

-- a fee of 1 percent on the notional
abbrev pub FeeOnTheNotional : Type 0
FeeOnTheNotional = told (run_of (alone (bullet_with (record yearly_loan { fee = record no_fee { cycle_of_fee = Some (every 6 unit.M); fee_rate = Some (percent 1); fee_basis = Some fee.N } }))) [] 0) ≡ with_fee_of_5

-- interest and notional are scaled by an index that has risen from 100 to 110
abbrev pub Scaled : Type 0
Scaled = told (run_of (alone (bullet_with (record yearly_loan { scaling = record { scaling_effect = record { interest = true; notional = true }; cycle_anchor_date_of_scaling_index = Some (on 2020 7 1); cycle_of_scaling_index = None; market_object_code_of_scaling_index = Some share; scaling_index_at_contract_deal_date = Some (whole 100) } }))) (rate_on share (on 2020 7 1) (whole 110) ∷ []) 0) ≡ story (
    row (on 2020 1 1) IED (negative 1000) (whole 1000) (percent 5) (whole 0)
    ∷ row (on 2020 7 1) SC (whole 0) (whole 1000) (percent 5) (whole 25)
    ∷ row (on 2021 1 1) IP (whole 55) (whole 1000) (percent 5) (whole 0)
    ∷ row (on 2021 1 1) MD (whole 1100) (whole 0) (percent 5) (whole 0) ∷ []) End

-- a reset to twice 3 percent and 1 percent more, of which a change of 1 percent is allowed
abbrev pub BoundedReset : Type 0
BoundedReset = told (run_of (alone (resetting_of 0 (record (one_reset yearly_rate) { rate_multiplier = whole 2; rate_spread = percent 1; period_cap = Some (percent 1) }))) (rate_on yearly_rate (on 2020 6 1) (percent 3) ∷ []) 0) ≡ story (
    row (on 2020 1 1) IED (negative 1000) (whole 1000) (percent 5) (whole 0)
    ∷ row (on 2021 1 1) IP (whole 50) (whole 1000) (percent 5) (whole 0)
    ∷ row (on 2021 1 1) RR (whole 0) (whole 1000) (percent 6) (whole 0)
    ∷ row (on 2022 1 1) IP (whole 60) (whole 1000) (percent 6) (whole 0)
    ∷ row (on 2022 1 1) MD (whole 1000) (whole 0) (percent 6) (whole 0) ∷ []) End

-- interest on a base of 500 that stays
abbrev pub InterestOnAFixedBase : Type 0
InterestOnAFixedBase = told (run_of (alone (instalments_of (common 0) quarterly_loan (record quarterly { interest_calculation_base = base.NTIED; interest_calculation_base_amount = Some (whole 500) }) (whole 500))) [] 0) ≡ story (
    row (on 2020 1 1) IED (negative 1000) (whole 1000) (percent 4) (whole 0)
    ∷ row (on 2020 4 1) PR (whole 500) (whole 500) (percent 4) (whole 5)
    ∷ row (on 2020 4 1) IP (whole 5) (whole 500) (percent 4) (whole 0)
    ∷ row (on 2020 7 1) IP (whole 5) (whole 500) (percent 4) (whole 0)
    ∷ row (on 2020 7 1) MD (whole 500) (whole 0) (percent 4) (whole 0) ∷ []) End

-- an annuity whose rate is reset to 8 percent after half a year: its payment becomes 260.0871244
abbrev pub AnnuityWithAReset : Type 0
AnnuityWithAReset = told (run_of (alone (annuity_of (common 0) (record (loan_at (percent 4)) { rate_reset = record (one_reset yearly_rate) { cycle_anchor_date_of_rate_reset = Some (on 2020 7 1) } }))) (rate_on yearly_rate (on 2020 7 1) (percent 8) ∷ []) 0) ≡ story (
    row (on 2020 1 1) IED (negative 1000) (whole 1000) (percent 4) (whole 0)
    ∷ row (on 2020 1 1) PRF (whole 0) (whole 1000) (percent 4) (whole 0)
    ∷ row (on 2020 4 1) PR (pos 246_281_093_912) (pos 753_718_906_088) (percent 4) (whole 10)
    ∷ row (on 2020 4 1) IP (whole 10) (pos 753_718_906_088) (percent 4) (whole 0)
    ∷ row (on 2020 7 1) PR (pos 248_743_904_851) (pos 504_975_001_237) (percent 4) (pos 7_537_189_061)
    ∷ row (on 2020 7 1) IP (pos 7_537_189_061) (pos 504_975_001_237) (percent 4) (whole 0)
    ∷ row (on 2020 7 1) RR (whole 0) (pos 504_975_001_237) (percent 8) (whole 0)
    ∷ row (on 2020 7 1) PRF (whole 0) (pos 504_975_001_237) (percent 8) (whole 0)
    ∷ row (on 2020 10 1) PR (pos 249_987_624_375) (pos 254_987_376_862) (percent 8) (pos 10_099_500_025)
    ∷ row (on 2020 10 1) IP (pos 10_099_500_025) (pos 254_987_376_862) (percent 8) (whole 0)
    ∷ row (on 2021 1 1) IP (pos 5_099_747_537) (pos 254_987_376_862) (percent 8) (whole 0)
    ∷ row (on 2021 1 1) MD (pos 254_987_376_862) (whole 0) (percent 8) (whole 0) ∷ []) End

-- a mortgage over 30 years: redemption each month, and each quarter a reset at which the payment is fixed anew
abbrev pub mortgage : Terms
mortgage = record {
  common = common 0;
  kind = kind.ANN (record {
    maturity_date = on 2050 1 1;
    loan = record (loan_at (percent 4)) { notional_principal = whole 250_000; rate_reset = record (one_reset yearly_rate) { cycle_anchor_date_of_rate_reset = Some (on 2020 4 1); cycle_of_rate_reset = Some (every 3 unit.M); rate_spread = percent 1 } };
    redemption = redeemed_every (every 1 unit.M);
    next_principal_redemption_payment = None;
  });
}

-- it has 960 events
abbrev pub MortgagePlan : Type 0
MortgagePlan = counts_planned (IED ∷ PR ∷ IP ∷ RR ∷ PRF ∷ MD ∷ []) (planned mortgage) ≡ 1 ∷ 359 ∷ 360 ∷ 119 ∷ 120 ∷ 1 ∷ []

-- ---- stocks, outrights, options and futures

-- a stock that is bought and sold: dividends between are paid, one before it isn't, and one after it is no event
abbrev pub StockWithDividends : Type 0
StockWithDividends = told (run_of (alone (record { common = sold (on 2020 6 1) (whole 110) (bought (on 2020 1 2) (whole 100) (common 0)); kind = kind.STK (record {}) })) (event_on observed.DV (on 2020 7 1) (whole 6) ∷ event_on observed.DV (on 2020 3 1) (whole 5) ∷ event_on observed.DV (on 2020 1 1) (whole 4) ∷ []) 0) ≡ story (
    bare_row (on 2020 1 1) DV (whole 0)
    ∷ bare_row (on 2020 1 2) PRD (negative 100)
    ∷ bare_row (on 2020 3 1) DV (whole 5)
    ∷ bare_row (on 2020 6 1) TD (whole 110) ∷ []) End

-- a sold future at 100, with the share at 110
abbrev pub SoldFuture : Type 0
SoldFuture = told (run_of (alone (record { common = record (common 0) { contract_role = role.SEL }; kind = kind.FUTUR (record { maturity_date = on 2020 6 30; futures_price = whole 100; settlement_period = at_once; underlying = share }) })) (rate_on share (on 2020 6 29) (whole 110) ∷ []) 0) ≡ story (
    bare_row (on 2020 6 30) XD (whole 0)
    ∷ bare_row (on 2020 6 30) STD (negative 10) ∷ []) End

-- an option on the share with strikes of 100 and 120
abbrev pub option_for : OptionType → ExerciseType → Terms
option_for type exercise = record {
  common = record (common 0) { contract_role = role.BUY };
  kind = kind.OPTNS (record { maturity_date = on 2020 6 30; option_type = type; option_strike1 = whole 100; option_strike2 = Some (whole 120); option_exercise_type = exercise; settlement_period = at_once; underlying = share });
}

abbrev pub exercised_for : ℤ → ℤ → Told
exercised_for day amount = story (bare_row day XD (whole 0) ∷ bare_row day STD amount ∷ []) End

-- a call below its strike is worth nothing
abbrev pub WorthlessCall : Type 0
WorthlessCall = told (run_of (alone (option_for option.C exercise.E)) (rate_on share (on 2020 6 30) (whole 90) ∷ []) 0) ≡ exercised_for (on 2020 6 30) (whole 0)

-- a put at 100, with the share at 90
abbrev pub Put : Type 0
Put = told (run_of (alone (option_for option.P exercise.E)) (rate_on share (on 2020 6 30) (whole 90) ∷ []) 0) ≡ exercised_for (on 2020 6 30) (whole 10)

-- a call at 100 and a put at 120, with the share at 105
abbrev pub CallAndPut : Type 0
CallAndPut = told (run_of (alone (option_for option.CP exercise.E)) (rate_on share (on 2020 6 30) (whole 105) ∷ []) 0) ≡ exercised_for (on 2020 6 30) (whole 20)

-- an American option is exercised on the first observed day after the status date
abbrev pub EarlyExercise : Type 0
EarlyExercise = told (run_of (alone (option_for option.C exercise.A)) (rate_on share (on 2020 1 1) (whole 110) ∷ event_on observed.XD (on 2020 3 15) (whole 0) ∷ event_on observed.XD (on 2020 2 10) (whole 0) ∷ event_on observed.XD (on 2019 12 31) (whole 0) ∷ []) 0) ≡ exercised_for (on 2020 2 10) (whole 10)

-- a European one isn't
abbrev pub NoEarlyExercise : Type 0
NoEarlyExercise = told (run_of (alone (option_for option.C exercise.E)) (rate_on share (on 2020 1 1) (whole 110) ∷ event_on observed.XD (on 2020 2 10) (whole 0) ∷ []) 0) ≡ exercised_for (on 2020 6 30) (whole 10)

-- ---- swaps, caps and floors

-- a swap that is bought and sold: what its legs pay before the purchase is 0, and nothing comes after the termination
abbrev pub BoughtAndSoldSwap : Type 0
BoughtAndSoldSwap = told (run_of (over_two bullet (bullet_of (common 1) (record (loan_at (percent 3)) { cycle_of_interest_payment = Some (every 6 unit.M) }) (on 2021 1 1)) (swap_of_legs (sold (on 2020 12 1) (whole 8) (bought (on 2020 6 1) (whole 9) (common 2))) delivery.D)) [] 2) ≡ story (
    bare_row (on 2020 1 1) IED (whole 0)
    ∷ bare_row (on 2020 1 1) IED (whole 0)
    ∷ bare_row (on 2020 6 1) PRD (negative 9)
    ∷ bare_row (on 2020 7 1) IP (negative 15)
    ∷ bare_row (on 2020 12 1) TD (whole 8) ∷ []) End

-- the swap's own purchase stands before a leg's of the same day
abbrev pub OwnPurchaseFirst : Type 0
OwnPurchaseFirst = told (run_of (over_two bullet (bullet_of (bought (on 2020 7 1) (whole 990) (common 1)) yearly_loan (on 2021 1 1)) (swap_of_legs (sold (on 2020 7 2) (whole 8) (bought (on 2020 7 1) (whole 9) (common 2))) delivery.D)) [] 2) ≡ story (
    bare_row (on 2020 1 1) IED (whole 0)
    ∷ bare_row (on 2020 1 1) IED (whole 0)
    ∷ bare_row (on 2020 7 1) PRD (negative 9)
    ∷ bare_row (on 2020 7 1) PRD (whole 1015)
    ∷ bare_row (on 2020 7 2) TD (whole 8) ∷ []) End

-- a cap of 2.5 percent on a plain swap of 5 against 4 percent: 10 against 25 in the second year
abbrev pub CapOnASwap : Type 0
CapOnASwap =
    let shadow = record (plain_swap (on 2022 1 1) (record (one_reset yearly_rate) { life_cap = Some (pos 25_000_000) })) { common = record (common 2) { contract_role = role.RFL; underlying = Some 0 } } in
    told (run_of (under_cap (plain_swap (on 2022 1 1) (one_reset yearly_rate)) (cap (pos 25_000_000)) shadow) (rate_on yearly_rate (on 2020 6 1) (percent 4) ∷ []) 1) ≡ story (
    bare_row (on 2021 1 1) IP (whole 0)
    ∷ bare_row (on 2022 1 1) IP (whole 15) ∷ []) End

-- a prepayment of the underlying is one of its shadow: 15 against 12.5 in the second year
abbrev pub CapOnAPrepaidLoan : Type 0
CapOnAPrepaidLoan = told (run_of (under_cap resetting (cap (pos 25_000_000)) (capped_shadow (pos 25_000_000))) (rate_on yearly_rate (on 2020 6 1) (percent 3) ∷ event_on observed.PP (on 2020 7 1) (whole 500) ∷ []) 1) ≡ story (
    bare_row (on 2021 1 1) IP (whole 0)
    ∷ bare_row (on 2022 1 1) IP (pos 2_500_000_000) ∷ []) End

-- a sold cap that ends before its underlying does, and before that one misses its rate
abbrev pub CapUntilMaturity : Type 0
CapUntilMaturity =
    let sold_cap : Terms = record { common = record (common 1) { contract_role = role.SEL }; kind = kind.CAPFL (record { maturity_date = Some (on 2020 12 31); life_cap = Some (percent 3); life_floor = None; underlying = 0; shadow = 2 }) } in
    let loan = record (loan_at (percent 5)) { cycle_of_interest_payment = Some (every 6 unit.M); rate_reset = one_reset yearly_rate } in
    let shadow = bullet_of (record (common 2) { underlying = Some 0 }) (record loan { rate_reset = record (one_reset yearly_rate) { life_cap = Some (percent 3) } }) (on 2022 1 1) in
    told (run_of (under_cap (bullet_of (common 0) loan (on 2022 1 1)) sold_cap shadow) [] 1) ≡ story (
    bare_row (on 2020 7 1) IP (whole 0) ∷ []) End

-- ---- guarantees

-- the exposure without interest, on the status date's own terms where the loan has no rows yet
abbrev pub ExposureWithoutInterest : Type 0
ExposureWithoutInterest =
    let loan = bullet_of (record (common 0) { status_date = on 2020 3 1 }) yearly_loan (on 2021 1 1) in
    told (run_of (covered_by loan (guarantee_of (record (default_cover None (covered_until (on 2021 1 1) loan)) { guaranteed_exposure = exposure.NO }))) (event_on observed.DF (on 2020 4 1) (whole 0) ∷ event_on observed.DL (on 2020 1 2) (whole 0) ∷ []) 1) ≡ story (
    bare_row (on 2020 4 1) XD (whole 0)
    ∷ bare_row (on 2020 4 1) STD (negative 800) ∷ []) End

-- the exposure by a market value of -500
abbrev pub ExposureByMarketValue : Type 0
ExposureByMarketValue = told (run_of (covered_by bullet (guarantee_of (record (default_cover None (record (covered_until (on 2021 1 1) bullet) { market = Some share })) { guaranteed_exposure = exposure.MV }))) (event_on observed.DF (on 2020 4 1) (whole 0) ∷ rate_on share (on 2020 1 1) (negative 500) ∷ []) 1) ≡ story (
    bare_row (on 2020 4 1) XD (whole 0)
    ∷ bare_row (on 2020 4 1) STD (negative 400) ∷ []) End

-- a contract that is covered twice counts twice
abbrev pub CoveredTwice : Type 0
CoveredTwice =
    let covered = covered_until (on 2021 1 1) bullet in
    told (run_of (covered_by bullet (guarantee_of (record (default_cover None covered) { covered = covered ∷ covered ∷ [] }))) (event_on observed.DF (on 2020 7 1) (whole 0) ∷ []) 1) ≡ story (
    bare_row (on 2020 7 1) XD (whole 0)
    ∷ bare_row (on 2020 7 1) STD (negative 1640) ∷ []) End

-- ---- kept rows

-- a second rate dated 2020-09-01 cuts off what comes after: the initial exchange is kept
abbrev pub CutByALaterRate : Type 0
CutByALaterRate = cut_of (alone resetting) 0 (rate_on yearly_rate (on 2020 6 1) (percent 3) ∷ rate_on yearly_rate (on 2020 9 1) (percent 4) ∷ []) 1 2 ≡ Some (on 2020 9 1)

-- a rate that the loan doesn't read cuts nothing
abbrev pub CutByNothing : Type 0
CutByNothing = cut_of (alone resetting) 0 (rate_on yearly_rate (on 2020 6 1) (percent 3) ∷ rate_on share (on 2020 6 1) (percent 1) ∷ []) 1 2 ≡ None

-- an event of the underlying touches the shadow, and the cap over both
abbrev pub CutOfAShadow : Type 0
CutOfAShadow = cut_of (under_cap resetting (cap (percent 2)) (capped_shadow (percent 2))) 2 (event_on observed.PP (on 2020 7 1) (whole 1) ∷ []) 0 1 ≡ Some (on 2020 7 1)

abbrev pub CutOfACap : Type 0
CutOfACap = cut_of (under_cap resetting (cap (percent 2)) (capped_shadow (percent 2))) 1 (event_on observed.PP (on 2020 7 1) (whole 1) ∷ []) 0 1 ≡ Some (on 2020 7 1)

-- a run that stops before the cut is kept whole, with its stop
abbrev pub StoppedRunIsKept : Type 0
StoppedRunIsKept = kept_of (run_of (alone resetting) [] 0) (Some (on 2021 1 2)) ≡ record { rows = (run_of (alone resetting) [] 0).rows; close = Some (Missing yearly_rate (on 2021 1 1)) }

-- one that stops on the cut isn't: its rows before it are kept
abbrev pub StopOnTheCut : Type 0
StopOnTheCut = (kept_of (run_of (alone resetting) [] 0) (Some (on 2021 1 1))).close ≡ None
