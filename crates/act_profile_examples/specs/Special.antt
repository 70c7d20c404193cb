-- Cases that are easily got wrong: small contracts with their runs, plans or starting states, worked out by hand.
use Rattle.std.specs.Prelude.{◌≡◌, ℕ, ℤ, neg_ℤ, pos, List, [], ◌∷◌, Some, None, Ok, Err}
use Rattle.act_date.specs.declared.calendar.Convention.{Convention}
use Rattle.act_date.specs.declared.calendar.Convention.TheVariants as convention
use Rattle.act_date.specs.declared.cycle.Cycle.{Cycle}
use Rattle.act_date.specs.declared.cycle.MonthRule.{MonthRule}
use Rattle.act_date.specs.declared.cycle.MonthRule.TheVariants as month
use Rattle.act_date.specs.declared.cycle.Stub.TheVariants as stub
use Rattle.act_date.specs.declared.cycle.Unit.TheVariants as unit
use Rattle.act_model.specs.declared.choice.DeliverySettlement.TheVariants as delivery
use Rattle.act_model.specs.declared.choice.FeeBasis.TheVariants as fee
use Rattle.act_model.specs.declared.choice.InterestCalculationBase.TheVariants as base
use Rattle.act_model.specs.declared.choice.PenaltyType.TheVariants as penalty
use Rattle.act_model.specs.declared.event.EventType.{EventType}
use Rattle.act_model.specs.declared.event.EventType.TheVariants.{IED, PR, PP, PY, PRD, TD, IP, IPCI, RRF, RR, PRF, IPCB, MD, CE, XD, STD}
use Rattle.act_model.specs.declared.observed.Obs.TheVariants as obs
use Rattle.act_model.specs.declared.observed.ObsKind.TheVariants as observed
use Rattle.act_model.specs.declared.run.Close.TheVariants.{End, Missing, Overflow}
use Rattle.act_model.specs.declared.run.PlanFault.TheVariants.{TooManyDates, DateRange}
use Rattle.act_model.specs.declared.terms.Common.{Common}
use Rattle.act_model.specs.declared.terms.Kind.TheVariants as kind
use Rattle.act_model.specs.declared.terms.Terms.{Terms}
use Rattle.act_profile_examples.specs.Examples.{Printed, Told, alone, annuity_of, at_once, bare_row, bought, bullet, bullet_of, bullet_of_amount, bullet_with, call_of, cap, capped_shadow, collateral_of, common, covered_by, covered_until, days_planned, default_cover, dollar, dollar_row, euro_in_dollars, event_on, every, growing_with, guarantee_of, instalments_of, loan_at, moved_by, negative, no_fee, no_reset, on, one_reset, other_rate, over_two, over_two_swapped, percent, plain_swap, planned, quarterly, quarterly_loan, rate_on, redeemed_every, resetting, resetting_of, row, settled_in_dollars, share, sold, story, swap_of_legs, swap_of_swapped_legs, told, under_cap, whole, yearly_loan, yearly_rate}
use Rattle.act_profile.specs.Plan.{own_count, plan_of}
use Rattle.act_profile.specs.Run.{Contracts, run_of}
use Rattle.act_profile.specs.Steps.{start_of}

-- ---- numbers

-- a product with 1 too has to be in range before it is rounded: a loan of 2 * 10^20 isn't paid back
abbrev pub ProductWithOneOverflows : Type 0
ProductWithOneOverflows = told (run_of (alone (bullet_of_amount (whole 200_000_000_000_000_000_000) None)) [] 0) ≡ story (
    row (on 2020 1 1) IED (negative 200_000_000_000_000_000_000) (whole 200_000_000_000_000_000_000) (whole 0) (whole 0) ∷ [])
    (Overflow (on 2021 1 1) MD)

-- interest over no days overflows too, where the product of amount and rate does
abbrev pub InterestOfNoDaysOverflows : Type 0
InterestOfNoDaysOverflows = told (run_of (alone (bullet_of_amount (whole 100_000_000_000_000_000_000) (Some (whole 10)))) (event_on observed.PP (on 2020 1 1) (whole 1) ∷ []) 0) ≡ story (
    row (on 2020 1 1) IED (negative 100_000_000_000_000_000_000) (whole 100_000_000_000_000_000_000) (whole 10) (whole 0) ∷ [])
    (Overflow (on 2020 1 1) PP)

-- ---- schedules

-- a loan with interest dates from 2020-02-29 by months up to 2020-05-31, the last period a long one
abbrev pub monthly_with_long_stub : MonthRule → Terms
monthly_with_long_stub rule = bullet_of (record (common 0) { end_of_month_convention = rule }) (record yearly_loan { cycle_anchor_date_of_interest_payment = Some (on 2020 2 29); cycle_of_interest_payment = Some (record { count = 1; unit = unit.M; stub = stub.Long }) }) (on 2020 5 31)

-- by end of month the end is a date of the cycle, and none is left out
abbrev pub LongStubAtAMonthsEnd : Type 0
LongStubAtAMonthsEnd = days_planned IP (planned (monthly_with_long_stub month.Eom)) ≡ on 2020 2 29 ∷ on 2020 3 31 ∷ on 2020 4 30 ∷ on 2020 5 31 ∷ []

-- by same day it isn't, and the last date before it is left out
abbrev pub LongStubOnTheSameDay : Type 0
LongStubOnTheSameDay = days_planned IP (planned (monthly_with_long_stub month.Sd)) ≡ on 2020 2 29 ∷ on 2020 3 29 ∷ on 2020 4 29 ∷ on 2020 5 31 ∷ []

-- the end-of-month rule looks at the anchor, which is a month's end here, and not at the initial exchange; the end isn't moved
abbrev pub MonthEndOfTheAnchor : Type 0
MonthEndOfTheAnchor = days_planned IP (planned (bullet_of (record (common 0) { end_of_month_convention = month.Eom }) (record (loan_at (percent 5)) { initial_exchange_date = on 2020 1 30; cycle_of_interest_payment = Some (every 1 unit.M) }) (on 2020 5 15))) ≡ on 2020 2 29 ∷ on 2020 3 31 ∷ on 2020 4 30 ∷ on 2020 5 15 ∷ []

-- a first interest date past 2299 is a fault, though it would come after maturity
abbrev pub AnchorPast2299 : Type 0
AnchorPast2299 = plan_of (bullet_of (common 0) (record yearly_loan { initial_exchange_date = on 2299 6 1 }) (on 2299 12 1)) ≡ Err DateRange

-- a later one isn't
abbrev pub CyclePast2299 : Type 0
CyclePast2299 = days_planned IP (planned (bullet_of (common 0) (record yearly_loan { initial_exchange_date = on 2298 6 1 }) (on 2299 12 1))) ≡ on 2299 6 1 ∷ on 2299 12 1 ∷ []

-- a loan up to the last day, a Sunday
abbrev pub up_to_2299 : Convention → Terms
up_to_2299 convention = bullet_of (moved_by convention (common 0)) (record (loan_at (percent 5)) { initial_exchange_date = on 2299 1 2 }) (on 2299 12 31)

-- there is no following business day
abbrev pub MovedPast2299 : Type 0
MovedPast2299 = plan_of (up_to_2299 convention.Scf) ≡ Err DateRange

-- it would lie in another month, so the preceding one is taken, a Friday
abbrev pub MovedBackIn2299 : Type 0
MovedBackIn2299 = days_planned MD (planned (up_to_2299 convention.Scmf)) ≡ on 2299 12 29 ∷ []

-- daily interest for 4095 days makes 4097 events, one too many
abbrev pub TooManyEvents : Type 0
TooManyEvents = plan_of (bullet_of (common 0) (record yearly_loan { cycle_of_interest_payment = Some (every 1 unit.D) }) (on 2031 3 19)) ≡ Err TooManyDates

-- an anchor after the end leads to no dates: interest is paid at maturity with the notional
abbrev pub AnchorAfterTheEnd : Type 0
AnchorAfterTheEnd = told (run_of (alone (bullet_of (common 0) yearly_loan (on 2020 7 1))) [] 0) ≡ story (
    row (on 2020 1 1) IED (negative 1000) (whole 1000) (percent 5) (whole 0)
    ∷ row (on 2020 7 1) MD (whole 1025) (whole 0) (percent 5) (whole 0) ∷ []) End

-- without an anchor and a cycle there is one interest date, at maturity
abbrev pub InterestAtMaturity : Type 0
InterestAtMaturity = told (run_of (alone (bullet_of (common 0) (loan_at (percent 5)) (on 2020 7 1))) [] 0) ≡ story (
    row (on 2020 1 1) IED (negative 1000) (whole 1000) (percent 5) (whole 0)
    ∷ row (on 2020 7 1) IP (whole 25) (whole 1000) (percent 5) (whole 0)
    ∷ row (on 2020 7 1) MD (whole 1000) (whole 0) (percent 5) (whole 0) ∷ []) End

-- interest is capitalized every half year up to a day after maturity
abbrev pub capitalizing : Terms
capitalizing = bullet_with (record yearly_loan { cycle_of_interest_payment = Some (every 6 unit.M); capitalization_end_date = Some (on 2021 7 1) })

-- the dates of capitalization after maturity are counted
abbrev pub CapitalizationIsCounted : Type 0
CapitalizationIsCounted = own_count capitalizing.kind (planned capitalizing) ≡ 5

-- but they are no events
abbrev pub CapitalizationPastMaturity : Type 0
CapitalizationPastMaturity = told (run_of (alone capitalizing) [] 0) ≡ story (
    row (on 2020 1 1) IED (negative 1000) (whole 1000) (percent 5) (whole 0)
    ∷ row (on 2020 7 1) IPCI (whole 0) (whole 1025) (percent 5) (whole 0)
    ∷ row (on 2021 1 1) IPCI (whole 0) (pos 1_050_625_000_000) (percent 5) (whole 0)
    ∷ row (on 2021 1 1) MD (pos 1_050_625_000_000) (whole 0) (percent 5) (whole 0) ∷ []) End

-- a loan with payments has interest dates on these and at maturity, also where its own schedule is empty
abbrev pub InterestWithRedemption : Type 0
InterestWithRedemption = days_planned IP (planned (growing_with (record (loan_at (percent 4)) { cycle_of_interest_payment = Some (every 1 unit.Y) }))) ≡ on 2020 4 1 ∷ on 2020 7 1 ∷ []

-- those up to the end of capitalization are left out
abbrev pub InterestAfterCapitalization : Type 0
InterestAfterCapitalization = days_planned IP (planned (growing_with (record (loan_at (percent 4)) { cycle_of_interest_payment = Some (every 1 unit.Y); capitalization_end_date = Some (on 2020 4 1) }))) ≡ on 2020 7 1 ∷ []

-- the first reset after the status date is the fixed one, also where it isn't an event: the next one reads a rate
abbrev pub FixedResetBeforeTheLoan : Type 0
FixedResetBeforeTheLoan = told (run_of (alone (bullet_of (common 0) (record (loan_at (percent 5)) {
  initial_exchange_date = on 2020 3 1;
  rate_reset = record (one_reset yearly_rate) { cycle_anchor_date_of_rate_reset = Some (on 2020 1 15); cycle_of_rate_reset = Some (every 6 unit.M); next_reset_rate = Some (percent 9) };
}) (on 2020 9 1))) (rate_on yearly_rate (on 2020 1 1) (percent 4) ∷ []) 0) ≡ story (
    row (on 2020 3 1) IED (negative 1000) (whole 1000) (percent 5) (whole 0)
    ∷ row (on 2020 7 15) RR (whole 0) (whole 1000) (percent 4) (pos 18_611_111_111)
    ∷ row (on 2020 9 1) IP (pos 23_722_222_222) (whole 1000) (percent 4) (whole 0)
    ∷ row (on 2020 9 1) MD (whole 1000) (whole 0) (percent 4) (whole 0) ∷ []) End

-- an annuity with a reset at its initial exchange has its payment fixed twice on that day
abbrev pub PaymentFixedTwice : Type 0
PaymentFixedTwice = days_planned PRF (planned (annuity_of (common 0) (record (loan_at (percent 4)) { rate_reset = record (one_reset yearly_rate) { cycle_anchor_date_of_rate_reset = Some (on 2020 1 1) } }))) ≡ on 2020 1 1 ∷ on 2020 1 1 ∷ []

-- equal instalments of two units up to a given maturity, by months with a long last period: one date and maturity, so one unit each
abbrev pub DerivedInstalments : Type 0
DerivedInstalments = told (run_of (alone (record {
  common = common 0;
  kind = kind.LAM (record { maturity_date = Some (on 2020 3 15); loan = record (loan_at (percent 4)) { notional_principal = pos 2 }; redemption = redeemed_every (record { count = 1; unit = unit.M; stub = stub.Long }); next_principal_redemption_payment = None });
})) [] 0) ≡ story (
    row (on 2020 1 1) IED (neg_ℤ (pos 2)) (pos 2) (percent 4) (pos 0)
    ∷ row (on 2020 2 1) PR (pos 1) (pos 1) (percent 4) (pos 0)
    ∷ row (on 2020 3 15) IP (pos 0) (pos 1) (percent 4) (pos 0)
    ∷ row (on 2020 3 15) MD (pos 1) (pos 0) (percent 4) (pos 0) ∷ []) End

-- instalments that start at the initial exchange, by a cycle
abbrev pub instalments_from_start : Cycle → ℤ → Terms
instalments_from_start cycle payment = instalments_of (common 0) quarterly_loan (record (redeemed_every cycle) { cycle_anchor_date_of_principal_redemption = Some (on 2020 1 1) }) payment

-- one instalment at the initial exchange is no maturity
abbrev pub OneInstalmentAtStart : Type 0
OneInstalmentAtStart = plan_of (instalments_from_start (every 3 unit.M) (whole 2000)) ≡ Err DateRange

-- 10000 instalments are too many, also where their dates are past 2299
abbrev pub TooManyInstalments : Type 0
TooManyInstalments = plan_of (instalments_from_start (every 9 unit.Y) (pos 100_000_000)) ≡ Err TooManyDates

-- 4000 instalments aren't too many, but their dates are past 2299
abbrev pub InstalmentsPast2299 : Type 0
InstalmentsPast2299 = plan_of (instalments_from_start (every 9 unit.Y) (pos 250_000_000)) ≡ Err DateRange

-- a maturity that is derived isn't moved to a month's end
abbrev pub instalments_at_month_ends : Terms
instalments_at_month_ends = instalments_of (record (common 0) { end_of_month_convention = month.Eom }) (loan_at (percent 4)) (record (redeemed_every (every 1 unit.M)) { cycle_anchor_date_of_principal_redemption = Some (on 2020 2 29) }) (whole 250)

abbrev pub DerivedMaturityOfMonthEnds : Type 0
DerivedMaturityOfMonthEnds = days_planned PR (planned instalments_at_month_ends) ≡ on 2020 2 29 ∷ on 2020 3 31 ∷ on 2020 4 30 ∷ []

abbrev pub DerivedMaturityIsNotMoved : Type 0
DerivedMaturityIsNotMoved = days_planned MD (planned instalments_at_month_ends) ≡ on 2020 5 29 ∷ []

-- ---- which events count

-- on the day of maturity a prepayment is an event, and a credit event isn't
abbrev pub PrepaymentAtMaturity : Type 0
PrepaymentAtMaturity = told (run_of (alone bullet) (event_on observed.DF (on 2021 1 1) (whole 0) ∷ event_on observed.PP (on 2021 1 1) (whole 100) ∷ []) 0) ≡ story (
    row (on 2020 1 1) IED (negative 1000) (whole 1000) (percent 5) (whole 0)
    ∷ row (on 2021 1 1) PP (whole 100) (whole 900) (percent 5) (whole 50)
    ∷ row (on 2021 1 1) IP (whole 50) (whole 900) (percent 5) (whole 0)
    ∷ row (on 2021 1 1) MD (whole 900) (whole 0) (percent 5) (whole 0) ∷ []) End

-- a termination before the status date ends the contract, though it is no event itself
abbrev pub TerminatedBefore : Type 0
TerminatedBefore = told (run_of (alone (bullet_of (sold (on 2019 1 1) (whole 1000) (common 0)) yearly_loan (on 2021 1 1))) [] 0) ≡ story [] End

-- so does a maturity that is moved to before the initial exchange
abbrev pub MaturityBeforeTheLoan : Type 0
MaturityBeforeTheLoan = told (run_of (alone (bullet_of (moved_by convention.Scp (common 0)) (record yearly_loan { initial_exchange_date = on 2020 2 1 }) (on 2020 2 2))) [] 0) ≡ story [] End

-- what comes before a purchase pays nothing and reads no factor, but changes the state
abbrev pub BeforeAPurchase : Type 0
BeforeAPurchase = told (run_of (alone (bullet_of (settled_in_dollars (bought (on 2020 7 1) (whole 990) (common 0))) yearly_loan (on 2021 1 1))) (rate_on euro_in_dollars (on 2020 7 1) (percent 110) ∷ []) 0) ≡ story (
    dollar_row (on 2020 1 1) IED (whole 0) (whole 1000) (percent 5) (whole 0)
    ∷ dollar_row (on 2020 7 1) PRD (neg_ℤ (pos 1_116_500_000_000)) (whole 1000) (percent 5) (whole 25)
    ∷ dollar_row (on 2021 1 1) IP (whole 55) (whole 1000) (percent 5) (whole 0)
    ∷ dollar_row (on 2021 1 1) MD (whole 1100) (whole 0) (percent 5) (whole 0) ∷ []) End

-- a purchase that is no event changes nothing
abbrev pub PurchasedBefore : Type 0
PurchasedBefore = told (run_of (alone (bullet_of (bought (on 2019 6 1) (whole 990) (common 0)) yearly_loan (on 2021 1 1))) [] 0) ≡ story (
    row (on 2020 1 1) IED (negative 1000) (whole 1000) (percent 5) (whole 0)
    ∷ row (on 2021 1 1) IP (whole 50) (whole 1000) (percent 5) (whole 0)
    ∷ row (on 2021 1 1) MD (whole 1000) (whole 0) (percent 5) (whole 0) ∷ []) End

-- ---- steps

-- both prepayments of a day come before their penalties, which are a part of the later one
abbrev pub PenaltiesOfOneDay : Type 0
PenaltiesOfOneDay = told (run_of (alone (bullet_with (record yearly_loan { penalty_type = penalty.N; penalty_rate = percent 10 }))) (event_on observed.PP (on 2020 7 1) (whole 100) ∷ event_on observed.PP (on 2020 7 1) (whole 50) ∷ []) 0) ≡ story (
    row (on 2020 1 1) IED (negative 1000) (whole 1000) (percent 5) (whole 0)
    ∷ row (on 2020 7 1) PP (whole 100) (whole 900) (percent 5) (whole 25)
    ∷ row (on 2020 7 1) PP (whole 50) (whole 850) (percent 5) (whole 25)
    ∷ row (on 2020 7 1) PY (whole 5) (whole 850) (percent 5) (whole 25)
    ∷ row (on 2020 7 1) PY (whole 5) (whole 850) (percent 5) (whole 25)
    ∷ row (on 2021 1 1) IP (pos 46_250_000_000) (whole 850) (percent 5) (whole 0)
    ∷ row (on 2021 1 1) MD (whole 850) (whole 0) (percent 5) (whole 0) ∷ []) End

-- a credit event doesn't accrue interest, so it is rounded once
abbrev pub CreditEventDoesNotAccrue : Type 0
CreditEventDoesNotAccrue = told (run_of (alone (bullet_of (common 0) yearly_loan (on 2020 7 15))) (event_on observed.DF (on 2020 6 15) (whole 0) ∷ []) 0) ≡ story (
    row (on 2020 1 1) IED (negative 1000) (whole 1000) (percent 5) (whole 0)
    ∷ row (on 2020 6 15) CE (whole 0) (whole 1000) (percent 5) (whole 0)
    ∷ row (on 2020 7 15) MD (pos 1_026_944_444_444) (whole 0) (percent 5) (whole 0) ∷ []) End

-- a prepayment of nothing does, so it is rounded twice
abbrev pub EmptyPrepaymentAccrues : Type 0
EmptyPrepaymentAccrues = told (run_of (alone (bullet_of (common 0) yearly_loan (on 2020 7 15))) (event_on observed.PP (on 2020 6 15) (whole 0) ∷ []) 0) ≡ story (
    row (on 2020 1 1) IED (negative 1000) (whole 1000) (percent 5) (whole 0)
    ∷ row (on 2020 6 15) PP (whole 0) (whole 1000) (percent 5) (pos 22_777_777_778)
    ∷ row (on 2020 7 15) MD (pos 1_026_944_444_445) (whole 0) (percent 5) (whole 0) ∷ []) End

-- interest of a Saturday is paid on Monday behind a prepayment of that day, which has accrued up to Monday: nothing is taken back
abbrev pub AccrualNeverGoesBack : Type 0
AccrualNeverGoesBack = told (run_of (alone (bullet_of (moved_by convention.Csf (common 0)) (record (loan_at (percent 5)) { cycle_anchor_date_of_interest_payment = Some (on 2020 2 1) }) (on 2020 3 2))) (event_on observed.PP (on 2020 2 3) (whole 100) ∷ []) 0) ≡ story (
    row (on 2020 1 1) IED (negative 1000) (whole 1000) (percent 5) (whole 0)
    ∷ row (on 2020 2 3) PP (whole 100) (whole 900) (percent 5) (pos 4_444_444_444)
    ∷ row (on 2020 2 3) IP (pos 4_444_444_444) (whole 900) (percent 5) (whole 0)
    ∷ row (on 2020 3 2) IP (pos 3_625_000_000) (whole 900) (percent 5) (whole 0)
    ∷ row (on 2020 3 2) MD (whole 900) (whole 0) (percent 5) (whole 0) ∷ []) End

-- a reset of a Saturday that is moved to Monday reads Monday's rate
abbrev pub RateOfTheMovedDay : Type 0
RateOfTheMovedDay = told (run_of (alone (bullet_of (moved_by convention.Csf (common 0)) (record (loan_at (percent 5)) { rate_reset = record (one_reset yearly_rate) { cycle_anchor_date_of_rate_reset = Some (on 2021 5 1) } }) (on 2021 7 1))) (rate_on yearly_rate (on 2021 5 3) (percent 4) ∷ []) 0) ≡ story (
    row (on 2020 1 1) IED (negative 1000) (whole 1000) (percent 5) (whole 0)
    ∷ row (on 2021 5 3) RR (whole 0) (whole 1000) (percent 4) (pos 66_666_666_667)
    ∷ row (on 2021 7 1) IP (pos 73_333_333_334) (whole 1000) (percent 4) (whole 0)
    ∷ row (on 2021 7 1) MD (whole 1000) (whole 0) (percent 4) (whole 0) ∷ []) End

-- a reset reads its rate before anything is computed: the missing rate stops it, and not the interest that overflows
abbrev pub ReadsComeFirst : Type 0
ReadsComeFirst = told (run_of (alone (bullet_of (common 0) (record (loan_at (whole 10)) { notional_principal = whole 100_000_000_000_000_000_000; cycle_of_interest_payment = Some (every 2 unit.Y); rate_reset = one_reset yearly_rate }) (on 2022 1 1))) [] 0) ≡ story (
    row (on 2020 1 1) IED (negative 100_000_000_000_000_000_000) (whole 100_000_000_000_000_000_000) (whole 10) (whole 0) ∷ [])
    (Missing yearly_rate (on 2021 1 1))

-- a prepayment of nothing reads the factor of its day
abbrev pub EmptyPrepaymentReadsTheFactor : Type 0
EmptyPrepaymentReadsTheFactor = told (run_of (alone (bullet_of (settled_in_dollars (record (common 0) { status_date = on 2020 6 30 })) yearly_loan (on 2021 1 1))) (event_on observed.PP (on 2020 7 1) (whole 0) ∷ []) 0) ≡ story [] (Missing euro_in_dollars (on 2020 7 1))

-- the initial exchange of a plain swap pays nothing and reads no factor
abbrev pub SwapExchangeReadsNoFactor : Type 0
SwapExchangeReadsNoFactor = told (run_of (alone (record (plain_swap (on 2021 1 1) no_reset) { common = settled_in_dollars (common 0) })) [] 0) ≡ story (
    dollar_row (on 2020 1 1) IED (whole 0) (whole 1000) (percent 5) (whole 0) ∷ []) (Missing euro_in_dollars (on 2021 1 1))

-- a fee that has accrued is paid at maturity, where there are no fee dates
abbrev pub FeeAtMaturity : Type 0
FeeAtMaturity = told (run_of (alone (bullet_with (record yearly_loan { fee = record no_fee { fee_accrued = whole 3 } }))) [] 0) ≡ story (
    row (on 2020 1 1) IED (negative 1000) (whole 1000) (percent 5) (whole 0)
    ∷ row (on 2021 1 1) IP (whole 50) (whole 1000) (percent 5) (whole 0)
    ∷ row (on 2021 1 1) MD (whole 1003) (whole 0) (percent 5) (whole 0) ∷ []) End

-- a fee that is an amount doesn't accrue
abbrev pub FeeAmountDoesNotAccrue : Type 0
FeeAmountDoesNotAccrue = told (run_of (alone (bullet_with (record yearly_loan { fee = record no_fee { fee_rate = Some (whole 2); fee_basis = Some fee.A; fee_accrued = whole 3 } }))) [] 0) ≡ story (
    row (on 2020 1 1) IED (negative 1000) (whole 1000) (percent 5) (whole 0)
    ∷ row (on 2021 1 1) IP (whole 50) (whole 1000) (percent 5) (whole 0)
    ∷ row (on 2021 1 1) MD (whole 1003) (whole 0) (percent 5) (whole 0) ∷ []) End

-- a base of interest that is fixed every half year is fixed behind that day's interest, and counts from then on
abbrev pub BaseFixedBehindInterest : Type 0
BaseFixedBehindInterest = told (run_of (alone (instalments_of (common 0) quarterly_loan (record quarterly { interest_calculation_base = base.NTL; cycle_of_interest_calculation_base = Some (every 6 unit.M) }) (whole 250))) [] 0) ≡ story (
    row (on 2020 1 1) IED (negative 1000) (whole 1000) (percent 4) (whole 0)
    ∷ row (on 2020 4 1) PR (whole 250) (whole 750) (percent 4) (whole 10)
    ∷ row (on 2020 4 1) IP (whole 10) (whole 750) (percent 4) (whole 0)
    ∷ row (on 2020 7 1) PR (whole 250) (whole 500) (percent 4) (whole 10)
    ∷ row (on 2020 7 1) IP (whole 10) (whole 500) (percent 4) (whole 0)
    ∷ row (on 2020 7 1) IPCB (whole 0) (whole 500) (percent 4) (whole 0)
    ∷ row (on 2020 10 1) PR (whole 250) (whole 250) (percent 4) (whole 5)
    ∷ row (on 2020 10 1) IP (whole 5) (whole 250) (percent 4) (whole 0)
    ∷ row (on 2021 1 1) IP (whole 5) (whole 250) (percent 4) (whole 0)
    ∷ row (on 2021 1 1) MD (whole 250) (whole 0) (percent 4) (whole 0) ∷ []) End

-- what a loan of 1000 at 5 percent for two years pays where another rate takes its place after the first
abbrev pub two_years : EventType → ℤ → ℤ → Told
two_years kind rate interest = story (
    row (on 2020 1 1) IED (negative 1000) (whole 1000) (percent 5) (whole 0)
    ∷ row (on 2021 1 1) IP (whole 50) (whole 1000) (percent 5) (whole 0)
    ∷ row (on 2021 1 1) kind (whole 0) (whole 1000) rate (whole 0)
    ∷ row (on 2022 1 1) IP interest (whole 1000) rate (whole 0)
    ∷ row (on 2022 1 1) MD (whole 1000) (whole 0) rate (whole 0) ∷ []) End

-- a cap below the floor wins
abbrev pub CapBelowTheFloor : Type 0
CapBelowTheFloor = told (run_of (alone (resetting_of 0 (record (one_reset yearly_rate) { life_cap = Some (percent 2); life_floor = Some (percent 4) }))) (rate_on yearly_rate (on 2020 6 1) (percent 3) ∷ []) 0) ≡ two_years RR (percent 2) (whole 20)

-- a fixed rate isn't bound by the cap
abbrev pub FixedRateAboveTheCap : Type 0
FixedRateAboveTheCap = told (run_of (alone (resetting_of 0 (record (one_reset yearly_rate) { next_reset_rate = Some (percent 6); life_cap = Some (percent 2) }))) [] 0) ≡ two_years RRF (percent 6) (whole 60)

-- a reset of a plain swap sets the second rate, from 3 to 4 percent, and the first is the one that is printed
abbrev pub SwapReset : Type 0
SwapReset = told (run_of (alone (plain_swap (on 2022 1 1) (one_reset yearly_rate))) (rate_on yearly_rate (on 2020 6 1) (percent 4) ∷ []) 0) ≡ story (
    row (on 2020 1 1) IED (whole 0) (whole 1000) (percent 5) (whole 0)
    ∷ row (on 2021 1 1) IP (whole 20) (whole 1000) (percent 5) (whole 0)
    ∷ row (on 2021 1 1) RR (whole 0) (whole 1000) (percent 5) (whole 0)
    ∷ row (on 2022 1 1) IP (whole 10) (whole 1000) (percent 5) (whole 0)
    ∷ row (on 2022 1 1) MD (whole 0) (whole 0) (percent 5) (whole 0) ∷ []) End

-- a started annuity has paid its interest on the last redemption date: nothing is accrued, and the payment is for three dates
abbrev pub StartedAnnuity : Type 0
StartedAnnuity =
    let terms = annuity_of (record (common 0) { status_date = on 2020 4 1 }) (loan_at (percent 4)) in
    start_of terms (planned terms) ≡ Ok (record { sd = Some (on 2020 4 1); md = Some (on 2021 1 1); xd = None; nt = whole 1000; ipnr = percent 4; ipac = pos 0; ipnr2 = pos 0; ipac2 = pos 0; feac = pos 0; nsc = whole 1; isc = whole 1; ipcb = whole 1000; prnxt = pos 340_022_111_481; xa = pos 0 })

-- ---- swaps of two contracts

-- a purchase, a termination or a maturity of a leg is a plain row: it neither ends the swap nor takes earlier payments away. Credit
-- events of a leg aren't taken, and rows up to the swap's status date neither
abbrev pub RowsOfLegs : Type 0
RowsOfLegs = told (run_of (over_two
    (bullet_of (sold (on 2020 4 1) (whole 1010) (common 0)) (loan_at (percent 5)) (on 2020 7 1))
    (bullet_of (bought (on 2020 10 1) (whole 990) (common 1)) yearly_loan (on 2021 1 1))
    (swap_of_legs (record (common 2) { status_date = on 2020 1 1 }) delivery.D))
    (event_on observed.DF (on 2020 2 1) (whole 0) ∷ obs.Event 1 observed.DF (on 2020 6 1) (whole 0) ∷ []) 2) ≡ story (
    bare_row (on 2020 4 1) TD (pos 1_022_500_000_000)
    ∷ bare_row (on 2020 10 1) PRD (pos 1_027_500_000_000)
    ∷ bare_row (on 2021 1 1) IP (negative 50)
    ∷ bare_row (on 2021 1 1) MD (negative 1000) ∷ []) End

-- a loan for a year with interest of 25 every half year, and one with interest of 30 once
abbrev pub half_yearly : Terms
half_yearly = bullet_with (record (loan_at (percent 5)) { cycle_of_interest_payment = Some (every 6 unit.M) })

abbrev pub once_at_three : Common → Terms
once_at_three c = bullet_of c (record yearly_loan { nominal_interest_rate = Some (percent 3) }) (on 2021 1 1)

-- interest of one day is paid net, and interest without a partner stays
abbrev pub NettedInterest : Type 0
NettedInterest = told (run_of (over_two half_yearly (once_at_three (common 1)) (swap_of_legs (common 2) delivery.S)) [] 2) ≡ story (
    bare_row (on 2020 1 1) IED (negative 1000)
    ∷ bare_row (on 2020 1 1) IED (whole 1000)
    ∷ bare_row (on 2020 7 1) IP (whole 25)
    ∷ bare_row (on 2021 1 1) IP (negative 5)
    ∷ bare_row (on 2021 1 1) MD (whole 1000)
    ∷ bare_row (on 2021 1 1) MD (negative 1000) ∷ []) End

-- interest in two currencies isn't
abbrev pub InterestInTwoCurrencies : Type 0
InterestInTwoCurrencies = told (run_of (over_two half_yearly (once_at_three (record (common 1) { currency = dollar })) (swap_of_legs (common 2) delivery.S)) [] 2) ≡ story (
    bare_row (on 2020 1 1) IED (negative 1000)
    ∷ dollar_row (on 2020 1 1) IED (whole 1000) (whole 0) (whole 0) (whole 0)
    ∷ bare_row (on 2020 7 1) IP (whole 25)
    ∷ bare_row (on 2021 1 1) IP (whole 25)
    ∷ dollar_row (on 2021 1 1) IP (negative 30) (whole 0) (whole 0) (whole 0)
    ∷ bare_row (on 2021 1 1) MD (whole 1000)
    ∷ dollar_row (on 2021 1 1) MD (negative 1000) (whole 0) (whole 0) (whole 0) ∷ []) End

-- a loan over a weekend with interest on each day from an anchor on, all of it paid on Monday
abbrev pub weekend_loan : ℕ → ℤ → ℤ → Terms
weekend_loan number rate anchor = bullet_of (moved_by convention.Csf (common number)) (record (loan_at rate) { initial_exchange_date = on 2020 5 1; cycle_anchor_date_of_interest_payment = Some anchor; cycle_of_interest_payment = Some (every 1 unit.D) }) (on 2020 5 4)

-- of several interest rows of one day the first is netted with the first, and the second with the second: 1 - 1, 1 - 0.5, and 1 alone
abbrev pub NettedInOrder : Type 0
NettedInOrder = told (run_of (over_two (weekend_loan 0 (percent 36) (on 2020 5 2)) (weekend_loan 1 (percent 18) (on 2020 5 3)) (swap_of_legs (common 2) delivery.S)) [] 2) ≡ story (
    bare_row (on 2020 5 1) IED (negative 1000)
    ∷ bare_row (on 2020 5 1) IED (whole 1000)
    ∷ bare_row (on 2020 5 4) IP (whole 0)
    ∷ bare_row (on 2020 5 4) IP (pos 500_000_000)
    ∷ bare_row (on 2020 5 4) IP (whole 1)
    ∷ bare_row (on 2020 5 4) MD (whole 1000)
    ∷ bare_row (on 2020 5 4) MD (negative 1000) ∷ []) End

-- what a swap of two loans whose resets miss their rates pays before that
abbrev pub exchanges : List Printed → List Printed
exchanges later = bare_row (on 2020 1 1) IED (negative 1000) ∷ bare_row (on 2020 1 1) IED (whole 1000) ∷ later

-- of two stops of one day that of the child that stands first is taken, also where it is the second leg
abbrev pub StopOfTheFirstChild : Type 0
StopOfTheFirstChild = told (run_of (over_two_swapped resetting (resetting_of 1 (one_reset other_rate)) (swap_of_swapped_legs (common 2))) [] 2) ≡ story (exchanges []) (Missing other_rate (on 2021 1 1))

-- the portfolio of such a swap
abbrev pub stopping_swap : Common → Contracts
stopping_swap c = over_two resetting (resetting_of 1 (one_reset other_rate)) (swap_of_legs c delivery.D)

-- a child's stop on the day of termination stops the swap
abbrev pub StopAtTermination : Type 0
StopAtTermination = told (run_of (stopping_swap (sold (on 2021 1 1) (whole 7) (common 2))) [] 2) ≡ story (exchanges []) (Missing yearly_rate (on 2021 1 1))

-- a child's stop after it doesn't
abbrev pub StopAfterTermination : Type 0
StopAfterTermination = told (run_of (stopping_swap (sold (on 2020 12 31) (whole 7) (common 2))) [] 2) ≡ story (exchanges (bare_row (on 2020 12 31) TD (whole 7) ∷ [])) End

-- of a stop of the swap itself and one of a child on the same day the child's is taken
abbrev pub StopOfTheChildOnTheSameDay : Type 0
StopOfTheChildOnTheSameDay = told (run_of (stopping_swap (settled_in_dollars (sold (on 2021 1 1) (whole 7) (common 2)))) [] 2) ≡ story (exchanges []) (Missing yearly_rate (on 2021 1 1))

-- a stop of the swap itself on an earlier day is its stop
abbrev pub EarlierStopOfTheSwap : Type 0
EarlierStopOfTheSwap = told (run_of (stopping_swap (settled_in_dollars (sold (on 2020 12 31) (whole 7) (common 2)))) [] 2) ≡ story (exchanges []) (Missing euro_in_dollars (on 2020 12 31))

-- ---- caps and floors

-- the shadow of an underlying with a floor of 4 percent has the cap in its place: 40 against 25
abbrev pub CapInPlaceOfAFloor : Type 0
CapInPlaceOfAFloor = told (run_of (under_cap (resetting_of 0 (record (one_reset yearly_rate) { life_floor = Some (percent 4) })) (cap (pos 25_000_000)) (capped_shadow (pos 25_000_000))) (rate_on yearly_rate (on 2020 6 1) (percent 3) ∷ []) 1) ≡ story (
    bare_row (on 2021 1 1) IP (whole 0)
    ∷ bare_row (on 2022 1 1) IP (whole 15) ∷ []) End

-- ---- options

-- an exercise on the status date is no event, and then there is no settlement
abbrev pub ExerciseOnTheStatusDate : Type 0
ExerciseOnTheStatusDate = told (run_of (alone (call_of (common 0) (on 2019 12 31) (every 2 unit.D))) (rate_on share (on 2019 1 1) (whole 110) ∷ []) 0) ≡ story [] End

-- a settlement that is moved back from a Saturday
abbrev pub SettlementMovedBack : Type 0
SettlementMovedBack = told (run_of (alone (call_of (moved_by convention.Scp (common 0)) (on 2020 10 30) (every 1 unit.D))) (rate_on share (on 2020 1 1) (whole 110) ∷ []) 0) ≡ story (
    bare_row (on 2020 10 30) XD (whole 0)
    ∷ bare_row (on 2020 10 30) STD (whole 10) ∷ []) End

-- it isn't moved back before the exercise
abbrev pub SettlementNotBeforeExercise : Type 0
SettlementNotBeforeExercise = told (run_of (alone (call_of (moved_by convention.Scp (common 0)) (on 2020 10 31) at_once)) (rate_on share (on 2020 1 1) (whole 110) ∷ []) 0) ≡ story (
    bare_row (on 2020 10 31) XD (whole 0)
    ∷ bare_row (on 2020 10 31) STD (whole 10) ∷ []) End

-- a settlement past 2299 is on the last day
abbrev pub SettlementPast2299 : Type 0
SettlementPast2299 = told (run_of (alone (call_of (common 0) (on 2299 12 31) (every 2 unit.D))) (rate_on share (on 2020 1 1) (whole 110) ∷ []) 0) ≡ story (
    bare_row (on 2299 12 31) XD (whole 0)
    ∷ bare_row (on 2299 12 31) STD (whole 10) ∷ []) End

-- ---- guarantees

-- a default after the loan's end still is one, with nothing owed
abbrev pub DefaultAfterTheLoan : Type 0
DefaultAfterTheLoan = told (run_of (covered_by bullet (guarantee_of (default_cover None (covered_until (on 2021 1 1) bullet)))) (event_on observed.DF (on 2021 6 1) (whole 0) ∷ []) 1) ≡ story (
    bare_row (on 2021 6 1) XD (whole 0)
    ∷ bare_row (on 2021 6 1) STD (whole 0) ∷ []) End

-- without a default the covered loan isn't read, though its run stops
abbrev pub NoDefault : Type 0
NoDefault = told (run_of (covered_by resetting (guarantee_of (default_cover (Some (on 2022 1 1)) (covered_until (on 2022 1 1) resetting)))) [] 1) ≡ story (
    bare_row (on 2022 1 1) MD (whole 0) ∷ []) End

-- at a default after the covered loan stopped for want of a rate, the guarantee stops for want of it on that day
abbrev pub DefaultOfAStoppedLoan : Type 0
DefaultOfAStoppedLoan = told (run_of (covered_by resetting (guarantee_of (default_cover (Some (on 2022 1 1)) (covered_until (on 2022 1 1) resetting)))) (event_on observed.DF (on 2021 6 1) (whole 0) ∷ []) 1) ≡ story [] (Missing yearly_rate (on 2021 6 1))

-- where it stopped by an overflow, the guarantee stops by one at the default
abbrev pub DefaultAfterAnOverflow : Type 0
DefaultAfterAnOverflow =
    let loan = bullet_of_amount (whole 500_000_000_000_000_000) (Some (whole 1)) in
    told (run_of (covered_by loan (guarantee_of (default_cover None (covered_until (on 2021 1 1) loan)))) (event_on observed.DF (on 2021 6 1) (whole 0) ∷ []) 1) ≡ story [] (Overflow (on 2021 6 1) XD)

-- a contract that is the collateral is a child too: its stop before the default stops the parent
abbrev pub StoppedCollateral : Type 0
StoppedCollateral = told (run_of (over_two bullet (resetting_of 1 (one_reset yearly_rate)) (collateral_of (default_cover None (covered_until (on 2021 1 1) bullet)))) (event_on observed.DF (on 2021 6 1) (whole 0) ∷ rate_on share (on 2020 1 1) (whole 500) ∷ []) 2) ≡ story [] (Missing yearly_rate (on 2021 6 1))

-- the maturity of a guarantee isn't moved back before it
abbrev pub MaturityOfAGuarantee : Type 0
MaturityOfAGuarantee =
    let moved = record (guarantee_of (default_cover (Some (on 2020 10 31)) (covered_until (on 2021 1 1) bullet))) { common = moved_by convention.Scp (common 1) } in
    told (run_of (covered_by bullet moved) [] 1) ≡ story (bare_row (on 2020 10 31) MD (whole 0) ∷ []) End
