-- Worked examples: small contracts and portfolios, and how what they pay is told.
use Rattle.std.specs.Prelude.{ℕ, ◌*◌, true, false, ℤ, pos, neg_ℤ, List, [], ◌∷◌, map, Option, Some, None}
use Rattle.std.specs.List.{count_by, filter}
use Rattle.std.specs.Option.{unwrap_or}
use Rattle.std.specs.Result.{result_ok}
use Rattle.act_date.specs.Civil.{day_number}
use Rattle.act_date.specs.declared.calendar.Calendar.TheVariants as calendar
use Rattle.act_date.specs.declared.calendar.Convention.{Convention}
use Rattle.act_date.specs.declared.calendar.Convention.TheVariants as convention
use Rattle.act_date.specs.declared.cycle.Cycle.{Cycle}
use Rattle.act_date.specs.declared.cycle.MonthRule.TheVariants as month
use Rattle.act_date.specs.declared.cycle.Stub.TheVariants as stub
use Rattle.act_date.specs.declared.cycle.Unit.{Unit}
use Rattle.act_date.specs.declared.cycle.Unit.TheVariants as unit
use Rattle.act_date.specs.declared.day_count.DayCount.TheVariants as count
use Rattle.act_model.specs.Run.{EventPlan, Stream}
use Rattle.act_model.specs.Terms.{Guarantee}
use Rattle.act_model.specs.declared.choice.ContractRole.TheVariants as role
use Rattle.act_model.specs.declared.choice.ContractType.TheVariants as type
use Rattle.act_model.specs.declared.choice.DeliverySettlement.{DeliverySettlement}
use Rattle.act_model.specs.declared.choice.DeliverySettlement.TheVariants as delivery
use Rattle.act_model.specs.declared.choice.ExerciseType.TheVariants as exercise
use Rattle.act_model.specs.declared.choice.GuaranteedExposure.TheVariants as exposure
use Rattle.act_model.specs.declared.choice.InterestCalculationBase.TheVariants as base
use Rattle.act_model.specs.declared.choice.OptionType.TheVariants as option
use Rattle.act_model.specs.declared.choice.PenaltyType.TheVariants as penalty
use Rattle.act_model.specs.declared.event.EventType.{EventType}
use Rattle.act_model.specs.declared.observed.Obs.{Obs}
use Rattle.act_model.specs.declared.observed.Obs.TheVariants as obs
use Rattle.act_model.specs.declared.observed.ObsKind.{ObsKind}
use Rattle.act_model.specs.declared.observed.ObsKind.TheVariants as observed
use Rattle.act_model.specs.declared.run.Close.{Close}
use Rattle.act_model.specs.declared.run.Row.{Row}
use Rattle.act_model.specs.declared.terms.Common.{Common}
use Rattle.act_model.specs.declared.terms.Covered.{Covered}
use Rattle.act_model.specs.declared.terms.Fee.{Fee}
use Rattle.act_model.specs.declared.terms.Kind.TheVariants as kind
use Rattle.act_model.specs.declared.terms.Loan.{Loan}
use Rattle.act_model.specs.declared.terms.RateReset.{RateReset}
use Rattle.act_model.specs.declared.terms.Redemption.{Redemption}
use Rattle.act_model.specs.declared.terms.Scaling.{Scaling}
use Rattle.act_model.specs.declared.terms.Terms.{Terms}
use Rattle.act_profile.specs.Order.{is_type}
use Rattle.act_profile.specs.Plan.{plan_of}
use Rattle.act_profile.specs.Run.{Contracts}
use Rattle.act_profile.specs.Steps.{start_of}
use Rattle.act_profile.specs.Trade.{plain_plan}

-- ---- days, cycles and amounts

-- a civil date
abbrev pub on : ℕ → ℕ → ℕ → ℤ
on year month day = day_number (record { year = year; month = month; day = day })

-- a cycle with a short last period
abbrev pub every : ℕ → Unit → Cycle
every n unit = record { count = n; unit = unit; stub = stub.Short }

-- a whole amount, and one below zero
abbrev pub whole : ℕ → ℤ
whole n = pos (n * 1_000_000_000)

abbrev pub negative : ℕ → ℤ
negative n = neg_ℤ (whole n)

-- so many hundredths
abbrev pub percent : ℕ → ℤ
percent n = pos (n * 10_000_000)

-- ---- currencies and market objects

abbrev pub euro : ℕ
euro = 0

abbrev pub dollar : ℕ
dollar = 1

-- the rate of interest that resets are made to, and another one
abbrev pub yearly_rate : ℕ
yearly_rate = 0

abbrev pub other_rate : ℕ
other_rate = 1

-- the price of a share
abbrev pub share : ℕ
share = 2

-- what a euro is worth in dollars, and a dollar in euros
abbrev pub euro_in_dollars : ℕ
euro_in_dollars = 3

abbrev pub dollar_in_euros : ℕ
dollar_in_euros = 4

-- ---- what is common

-- a lender's contract in euros with a number
abbrev pub common : ℕ → Common
common number = record { contract = number; underlying = None; factor = None; contract_role = role.RPA; status_date = on 2019 12 31; currency = euro; settlement_currency = None; calendar = calendar.Nc; business_day_convention = convention.Nos; end_of_month_convention = month.Sd; market_object_code = None; purchase_date = None; price_at_purchase_date = pos 0; termination_date = None; price_at_termination_date = pos 0 }

-- the contract is bought or sold on a day for a price
abbrev pub bought : ℤ → ℤ → Common → Common
bought day price c = record c { purchase_date = Some day; price_at_purchase_date = price }

abbrev pub sold : ℤ → ℤ → Common → Common
sold day price c = record c { termination_date = Some day; price_at_termination_date = price }

-- dates are moved by a convention where they fall on a weekend
abbrev pub moved_by : Convention → Common → Common
moved_by convention c = record c { calendar = calendar.Mf; business_day_convention = convention }

-- amounts are settled in dollars
abbrev pub settled_in_dollars : Common → Common
settled_in_dollars c = record c { factor = Some euro_in_dollars; settlement_currency = Some dollar }

-- ---- loans

abbrev pub no_reset : RateReset
no_reset = record { cycle_anchor_date_of_rate_reset = None; cycle_of_rate_reset = None; market_object_code_of_rate_reset = None; next_reset_rate = None; rate_spread = pos 0; rate_multiplier = whole 1; life_cap = None; life_floor = None; period_cap = None; period_floor = None }

-- one reset on 2021-01-01 to a rate
abbrev pub one_reset : ℕ → RateReset
one_reset code = record no_reset { cycle_anchor_date_of_rate_reset = Some (on 2021 1 1); market_object_code_of_rate_reset = Some code }

abbrev pub no_fee : Fee
no_fee = record { cycle_anchor_date_of_fee = None; cycle_of_fee = None; fee_rate = None; fee_basis = None; fee_accrued = pos 0 }

abbrev pub no_scaling : Scaling
no_scaling = record { scaling_effect = record { interest = false; notional = false }; cycle_anchor_date_of_scaling_index = None; cycle_of_scaling_index = None; market_object_code_of_scaling_index = None; scaling_index_at_contract_deal_date = None }

-- a loan of 1000 from 2020-01-01 at a rate, without interest dates of its own
abbrev pub loan_at : ℤ → Loan
loan_at rate = record { initial_exchange_date = on 2020 1 1; notional_principal = whole 1000; nominal_interest_rate = Some rate; accrued_interest = None; premium_discount_at_ied = pos 0; day_count_convention = count.E30; cycle_anchor_date_of_interest_payment = None; cycle_of_interest_payment = None; capitalization_end_date = None; rate_reset = no_reset; fee = no_fee; scaling = no_scaling; penalty_type = penalty.O; penalty_rate = pos 0 }

-- the same at 5 percent, with interest once a year
abbrev pub yearly_loan : Loan
yearly_loan = record (loan_at (percent 5)) { cycle_of_interest_payment = Some (every 1 unit.Y) }

-- a loan that is paid back at once, with a number
abbrev pub bullet_of : Common → Loan → ℤ → Terms
bullet_of c loan maturity = record { common = c; kind = kind.PAM (record { maturity_date = maturity; loan = loan }) }

-- the same for a year from 2020-01-01
abbrev pub bullet_with : Loan → Terms
bullet_with loan = bullet_of (common 0) loan (on 2021 1 1)

abbrev pub bullet : Terms
bullet = bullet_with yearly_loan

-- the same with another notional and rate
abbrev pub bullet_of_amount : ℤ → Option ℤ → Terms
bullet_of_amount notional rate = bullet_with (record yearly_loan { notional_principal = notional; nominal_interest_rate = rate })

-- a loan for two years whose rate is reset after the first
abbrev pub resetting_of : ℕ → RateReset → Terms
resetting_of number reset = bullet_of (common number) (record yearly_loan { rate_reset = reset }) (on 2022 1 1)

abbrev pub resetting : Terms
resetting = resetting_of 0 (one_reset yearly_rate)

-- redemption by a cycle
abbrev pub redeemed_every : Cycle → Redemption
redeemed_every cycle = record { cycle_anchor_date_of_principal_redemption = None; cycle_of_principal_redemption = Some cycle; interest_calculation_base = base.NT; interest_calculation_base_amount = None; cycle_anchor_date_of_interest_calculation_base = None; cycle_of_interest_calculation_base = None }

abbrev pub quarterly : Redemption
quarterly = redeemed_every (every 3 unit.M)

-- an annuity for a year, redeemed every quarter, at a rate
abbrev pub annuity_of : Common → Loan → Terms
annuity_of c loan = record { common = c; kind = kind.ANN (record { maturity_date = on 2021 1 1; loan = loan; redemption = quarterly; next_principal_redemption_payment = None }) }

abbrev pub annuity_at : ℤ → Terms
annuity_at rate = annuity_of (common 0) (loan_at rate)

-- a loan of 1000 at 4 percent of which a payment is redeemed on each date, up to the one that redeems the rest
abbrev pub instalments_of : Common → Loan → Redemption → ℤ → Terms
instalments_of c loan redemption payment = record { common = c; kind = kind.LAM (record { maturity_date = None; loan = loan; redemption = redemption; next_principal_redemption_payment = Some payment }) }

abbrev pub quarterly_loan : Loan
quarterly_loan = record (loan_at (percent 4)) { cycle_of_interest_payment = Some (every 3 unit.M) }

abbrev pub instalments : Terms
instalments = instalments_of (common 0) quarterly_loan quarterly (whole 250)

-- a loan for half a year at 4 percent with a quarterly payment of 5, which is less than its interest
abbrev pub growing_with : Loan → Terms
growing_with loan = record { common = common 0; kind = kind.NAM (record { maturity_date = on 2020 7 1; loan = loan; redemption = quarterly; next_principal_redemption_payment = whole 5 }) }

abbrev pub growing : Terms
growing = growing_with (loan_at (percent 4))

-- ---- swaps, caps and floors

-- a swap of 5 percent against another rate, of which the second may be reset
abbrev pub plain_swap : ℤ → RateReset → Terms
plain_swap maturity reset = record {
  common = record (common 0) { contract_role = role.RFL };
  kind = kind.SWPPV (record { initial_exchange_date = on 2020 1 1; maturity_date = maturity; notional_principal = whole 1000; nominal_interest_rate = percent 5; nominal_interest_rate2 = percent 3; day_count_convention = count.E30; cycle_anchor_date_of_interest_payment = None; cycle_of_interest_payment = Some (every 1 unit.Y); rate_reset = reset });
}

-- a swap of the contracts 0 and 1, which receives the contract 0
abbrev pub swap_of_legs : Common → DeliverySettlement → Terms
swap_of_legs c delivery = record {
  common = record c { contract_role = role.RFL };
  kind = kind.SWAPS (record { delivery_settlement = delivery; first = 0; second = 1; swapped = false });
}

-- the same, where the second leg stands before the first
abbrev pub swap_of_swapped_legs : Common → Terms
swap_of_swapped_legs c = record {
  common = record c { contract_role = role.RFL };
  kind = kind.SWAPS (record { delivery_settlement = delivery.D; first = 0; second = 1; swapped = true });
}

-- a cap, the contract 1, on the contract 0 with its shadow, the contract 2
abbrev pub cap : ℤ → Terms
cap rate = record {
  common = record (common 1) { contract_role = role.BUY };
  kind = kind.CAPFL (record { maturity_date = None; life_cap = Some rate; life_floor = None; underlying = 0; shadow = 2 });
}

-- the shadow: a loan whose rate is reset, under that cap in place of its own cap and floor
abbrev pub capped_shadow : ℤ → Terms
capped_shadow rate = bullet_of (record (common 2) { underlying = Some 0 }) (record yearly_loan { rate_reset = record (one_reset yearly_rate) { life_cap = Some rate } }) (on 2022 1 1)

-- ---- options and outrights

-- a bought call on the share at 100
abbrev pub call_of : Common → ℤ → Cycle → Terms
call_of c maturity period = record {
  common = record c { contract_role = role.BUY };
  kind = kind.OPTNS (record { maturity_date = maturity; option_type = option.C; option_strike1 = whole 100; option_strike2 = None; option_exercise_type = exercise.E; settlement_period = period; underlying = share });
}

-- 1000 euros against 1100 dollars
abbrev pub outright : DeliverySettlement → Option ℕ → Terms
outright delivery pair = record {
  common = record (common 0) { contract_role = role.BUY };
  kind = kind.FXOUT (record { maturity_date = on 2020 6 30; notional_principal = whole 1000; currency2 = dollar; notional_principal2 = whole 1100; delivery_settlement = delivery; pair = pair });
}

-- ---- guarantees

-- no time between exercise and settlement
abbrev pub at_once : Cycle
at_once = every 0 unit.D

-- the plan of terms; those of the examples have one
abbrev pub planned : Terms → EventPlan
planned terms = unwrap_or (result_ok (plan_of terms)) (plain_plan [])

-- a covered loan, the contract 0, which is the guarantee's first child
abbrev pub covered_until : ℤ → Terms → Covered
covered_until maturity terms = record { contract = 0; child = 0; kind = type.PAM; count = Some count.E30; calendar = calendar.Nc; maturity = Some maturity; market = None; start = start_of terms (planned terms) }

-- four fifths of what is owed with interest in case of default
abbrev pub default_cover : Option ℤ → Covered → Guarantee
default_cover maturity covered = record { maturity_date = maturity; coverage_of_credit_enhancement = percent 80; guaranteed_exposure = exposure.NI; credit_event_type_covered = observed.DF ∷ []; settlement_period = at_once; covered = covered ∷ [] }

-- a guarantee, the contract 1, by the guarantor
abbrev pub guarantee_of : Guarantee → Terms
guarantee_of guarantee = record { common = record (common 1) { contract_role = role.GUA }; kind = kind.CEG guarantee }

-- collateral for the contract 0, the contract 2: the same cover, and at most what the share is worth
abbrev pub collateral_of : Guarantee → Terms
collateral_of guarantee = record { common = common 2; kind = kind.CEC (record { guarantee = guarantee; covering = share ∷ [] }) }

-- ---- portfolios

-- contracts with the children of each
abbrev pub together : List Terms → List (List ℕ) → Contracts
together terms children = record { terms = terms; plans = map planned terms; children = children }

-- a portfolio of one contract
abbrev pub alone : Terms → Contracts
alone terms = together (terms ∷ []) ([] ∷ [])

-- two contracts, and a third over them
abbrev pub over_two : Terms → Terms → Terms → Contracts
over_two first second parent = together (first ∷ second ∷ parent ∷ []) ([] ∷ [] ∷ (0 ∷ 1 ∷ []) ∷ [])

-- the same with the children the other way round
abbrev pub over_two_swapped : Terms → Terms → Terms → Contracts
over_two_swapped first second parent = together (first ∷ second ∷ parent ∷ []) ([] ∷ [] ∷ (1 ∷ 0 ∷ []) ∷ [])

-- a contract, a cap on it, and its shadow
abbrev pub under_cap : Terms → Terms → Terms → Contracts
under_cap underlying capped shadow = together (underlying ∷ capped ∷ shadow ∷ []) ([] ∷ (0 ∷ 2 ∷ []) ∷ [] ∷ [])

-- a contract and a guarantee of it
abbrev pub covered_by : Terms → Terms → Contracts
covered_by covered guarantee = together (covered ∷ guarantee ∷ []) ([] ∷ (0 ∷ []) ∷ [])

-- ---- what is observed

-- a rate or a price on a day
abbrev pub rate_on : ℕ → ℤ → ℤ → Obs
rate_on code day value = obs.Rate code day value

-- an event of the contract 0
abbrev pub event_on : ObsKind → ℤ → ℤ → Obs
event_on kind day value = obs.Event 0 kind day value

-- ---- what is told of a run

-- a row in short, as it is printed
pub record Printed : Type 0 where
  pub day : ℤ
  pub kind : EventType
  pub currency : ℕ
  pub payoff : ℤ
  pub nt : ℤ
  pub ipnr : ℤ
  pub ipac : ℤ

abbrev pub printed : Row → Printed
printed row = record { day = row.day; kind = row.kind; currency = row.currency; payoff = row.payoff; nt = row.state.nt; ipnr = row.state.ipnr; ipac = row.state.ipac }

-- the rows of a run in short, and its close
pub record Told : Type 0 where
  pub rows : List Printed
  pub close : Close

abbrev pub told : Stream → Told
told run = record { rows = map printed run.rows; close = run.close }

-- such rows and the close
abbrev pub story : List Printed → Close → Told
story rows close = record { rows = rows; close = close }

-- a row in euros: its day, type and payoff, and the notional, the rate and the interest accrued after it
abbrev pub row : ℤ → EventType → ℤ → ℤ → ℤ → ℤ → Printed
row day kind payoff nt ipnr ipac = record { day = day; kind = kind; currency = euro; payoff = payoff; nt = nt; ipnr = ipnr; ipac = ipac }

-- the same in dollars
abbrev pub dollar_row : ℤ → EventType → ℤ → ℤ → ℤ → ℤ → Printed
dollar_row day kind payoff nt ipnr ipac = record { day = day; kind = kind; currency = dollar; payoff = payoff; nt = nt; ipnr = ipnr; ipac = ipac }

-- a row of a contract that has no notional, rate and interest
abbrev pub bare_row : ℤ → EventType → ℤ → Printed
bare_row day kind payoff = row day kind payoff (pos 0) (pos 0) (pos 0)

-- how many events of each type a plan has
abbrev pub counts_planned : List EventType → EventPlan → List ℕ
counts_planned kinds plan = map (λ kind. count_by (λ e. is_type e.kind kind) plan.events) kinds

-- the days of a type of events in a plan
abbrev pub days_planned : EventType → EventPlan → List ℤ
days_planned kind plan = map (λ e. e.day) (filter (λ e. is_type e.kind kind) plan.events)
