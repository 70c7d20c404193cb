-- The terms of loans. ACTUS data dictionary; what is required, the defaults and the bounds are this profile's own.
use Rattle.std.specs.Prelude.{ℕ, ℤ, pos, ◌||◌, Bool, false, codes, is_some, unwrap_or, Option, None, Result, Ok}
use Rattle.act_date.specs.declared.day_count.DayCount.TheVariants.{Aa}
use Rattle.act_model.specs.Names.{NameLists}
use Rattle.act_model.specs.declared.choice.PenaltyType.{PenaltyType}
use Rattle.act_model.specs.declared.choice.PenaltyType.TheVariants as penalty
use Rattle.act_model.specs.declared.choice.ScalingEffect.{ScalingEffect}
use Rattle.act_model.specs.declared.terms.Fee.{Fee}
use Rattle.act_model.specs.declared.terms.Loan.{Loan}
use Rattle.act_model.specs.declared.terms.Pam.{Pam}
use Rattle.act_model.specs.declared.terms.RateReset.{RateReset}
use Rattle.act_model.specs.declared.terms.Scaling.{Scaling}
use Rattle.act_terms.specs.Choices.{day_count_named, fee_basis_named, penalty_type_named, scaling_effect_named}
use Rattle.act_terms.specs.Fault.{◌>>=◌, refused}
use Rattle.act_terms.specs.Fields.{choice_field, day_after, needed, needed_day, needed_where, not_negative, optional, optional_cycle, optional_day, optional_decimal, positive}
use Rattle.act_terms.specs.Names.{code_where}
use Rattle.act_terms.specs.declared.fault.TermCause.TheVariants.{MissingTerm}
use Rattle.act_terms.specs.declared.fault.TermsFault.{TermsFault}
use Rattle.act_terms.specs.declared.interest.Interest.{Interest}
use Rattle.act_terms.specs.declared.interest.InterestDates.{InterestDates}
use Rattle.act_terms.specs.declared.penalty.Penalty.{Penalty}
use Rattle.act_terms.specs.declared.reset.RateLimits.{RateLimits}
use Rattle.serde_json.specs.Data.{Data}

-- ---- interest

-- the rate, what has accrued, the premium, and how parts of a year are counted
unfoldable pub interest_of : Data → Result Interest TermsFault
interest_of contract = do
  rate ← optional_decimal (codes "nominalInterestRate") contract
  accrued ← optional_decimal (codes "accruedInterest") contract
  premium ← optional_decimal (codes "premiumDiscountAtIED") contract
  day_count ← optional (codes "dayCountConvention") (choice_field day_count_named (codes "dayCountConvention") contract)
  Ok (record { nominal_interest_rate = rate; accrued_interest = accrued; premium_discount_at_ied = unwrap_or premium (pos 0); day_count_convention = unwrap_or day_count Aa })

-- the dates of interest, and the end of its capitalisation
unfoldable pub interest_dates_of : Data → Result InterestDates TermsFault
interest_dates_of contract = do
  anchor ← optional_day (codes "cycleAnchorDateOfInterestPayment") contract
  cycle ← optional_cycle (codes "cycleOfInterestPayment") contract
  end ← optional_day (codes "capitalizationEndDate") contract
  Ok (record { cycle_anchor_date_of_interest_payment = anchor; cycle_of_interest_payment = cycle; capitalization_end_date = end })

-- ---- rate resets

-- the greatest and the least rate, and the greatest and the least change at one reset
unfoldable pub rate_limits_of : Data → Result RateLimits TermsFault
rate_limits_of contract = do
  life_cap ← optional_decimal (codes "lifeCap") contract
  life_floor ← optional_decimal (codes "lifeFloor") contract
  period_cap ← optional_decimal (codes "periodCap") contract
  period_floor ← optional_decimal (codes "periodFloor") contract
  Ok (record { life_cap = life_cap; life_floor = life_floor; period_cap = period_cap; period_floor = period_floor })

-- how the rate is reset, and the names with the code of the rate; where there are resets the code is required
unfoldable pub rate_reset_of : NameLists → Data → Result (RateReset × NameLists) TermsFault
rate_reset_of names contract = do
  anchor ← optional_day (codes "cycleAnchorDateOfRateReset") contract
  cycle ← optional_cycle (codes "cycleOfRateReset") contract
  code ← code_where (is_some anchor || is_some cycle) (codes "marketObjectCodeOfRateReset") names contract
  next ← optional_decimal (codes "nextResetRate") contract
  spread ← optional_decimal (codes "rateSpread") contract
  multiplier ← optional_decimal (codes "rateMultiplier") contract
  limits ← rate_limits_of contract
  Ok (
    record {
      cycle_anchor_date_of_rate_reset = anchor;
      cycle_of_rate_reset = cycle;
      market_object_code_of_rate_reset = code.0;
      next_reset_rate = next;
      rate_spread = unwrap_or spread (pos 0);
      rate_multiplier = unwrap_or multiplier (pos 1_000_000_000);
      life_cap = limits.life_cap;
      life_floor = limits.life_floor;
      period_cap = limits.period_cap;
      period_floor = limits.period_floor;
    },
    code.1,
  )

-- ---- fees

-- the fees; where there is a fee its basis is required
unfoldable pub fee_of : Data → Result Fee TermsFault
fee_of contract = do
  anchor ← optional_day (codes "cycleAnchorDateOfFee") contract
  cycle ← optional_cycle (codes "cycleOfFee") contract
  rate ← optional_decimal (codes "feeRate") contract
  basis ← needed_where (is_some rate) (codes "feeBasis") (choice_field fee_basis_named (codes "feeBasis") contract)
  accrued ← optional_decimal (codes "feeAccrued") contract
  Ok (record { cycle_anchor_date_of_fee = anchor; cycle_of_fee = cycle; fee_rate = rate; fee_basis = basis; fee_accrued = unwrap_or accrued (pos 0) })

-- ---- scaling

-- something is scaled
abbrev pub scales : ScalingEffect → Bool
scales effect = effect.interest || effect.notional

-- nothing is scaled
abbrev pub no_effect : ScalingEffect
no_effect = record { interest = false; notional = false }

-- how payments are scaled, and the names with the code of the index; where something is scaled the code and the index at the deal are required
unfoldable pub scaling_of : NameLists → Data → Result (Scaling × NameLists) TermsFault
scaling_of names contract = do
  given ← optional (codes "scalingEffect") (choice_field scaling_effect_named (codes "scalingEffect") contract)
  anchor ← optional_day (codes "cycleAnchorDateOfScalingIndex") contract
  cycle ← optional_cycle (codes "cycleOfScalingIndex") contract
  code ← code_where (scales (unwrap_or given no_effect)) (codes "marketObjectCodeOfScalingIndex") names contract
  index ← needed_where (scales (unwrap_or given no_effect)) (codes "scalingIndexAtContractDealDate") (positive (codes "scalingIndexAtContractDealDate") contract)
  Ok (
    record {
      scaling_effect = unwrap_or given no_effect;
      cycle_anchor_date_of_scaling_index = anchor;
      cycle_of_scaling_index = cycle;
      market_object_code_of_scaling_index = code.0;
      scaling_index_at_contract_deal_date = index;
    },
    code.1,
  )

-- ---- penalties

-- the penalty of a prepayment
unfoldable pub penalty_of : Data → Result Penalty TermsFault
penalty_of contract = do
  type ← optional (codes "penaltyType") (choice_field penalty_type_named (codes "penaltyType") contract)
  rate ← optional_decimal (codes "penaltyRate") contract
  Ok (record { penalty_type = unwrap_or type penalty.O; penalty_rate = unwrap_or rate (pos 0) })

-- the penalty of lost interest is computed by the rate of resets, so it needs the code of that rate
abbrev pub reset_code_for : PenaltyType → Option ℕ → Result (Option ℕ) TermsFault
reset_code_for penalty.I None = refused MissingTerm (codes "marketObjectCodeOfRateReset")
reset_code_for type code = Ok code

-- ---- loans

-- the terms of a loan together
abbrev pub loan_with : ℤ → ℤ → Interest → InterestDates → RateReset → Fee → Scaling → Penalty → Loan
loan_with exchange notional interest dates reset fee scaling penalty =
    record {
      initial_exchange_date = exchange;
      notional_principal = notional;
      nominal_interest_rate = interest.nominal_interest_rate;
      accrued_interest = interest.accrued_interest;
      premium_discount_at_ied = interest.premium_discount_at_ied;
      day_count_convention = interest.day_count_convention;
      cycle_anchor_date_of_interest_payment = dates.cycle_anchor_date_of_interest_payment;
      cycle_of_interest_payment = dates.cycle_of_interest_payment;
      capitalization_end_date = dates.capitalization_end_date;
      rate_reset = reset;
      fee = fee;
      scaling = scaling;
      penalty_type = penalty.penalty_type;
      penalty_rate = penalty.penalty_rate;
    }

-- the terms of a loan of that initial exchange behind its maturity, and the names with those that they give
unfoldable pub loan_of : ℤ → NameLists → Data → Result (Loan × NameLists) TermsFault
loan_of exchange names contract = do
  notional ← needed (codes "notionalPrincipal") (not_negative (codes "notionalPrincipal") contract)
  interest ← interest_of contract
  dates ← interest_dates_of contract
  reset ← rate_reset_of names contract
  fee ← fee_of contract
  scaling ← scaling_of reset.1 contract
  penalty ← penalty_of contract
  code ← reset_code_for penalty.penalty_type reset.0.market_object_code_of_rate_reset
  Ok (loan_with exchange notional interest dates reset.0 fee scaling.0 penalty, scaling.1)

-- the terms of a PAM, and the names with those that they give
unfoldable pub pam_of : NameLists → Data → Result (Pam × NameLists) TermsFault
pam_of names contract = do
  exchange ← needed_day (codes "initialExchangeDate") contract
  maturity ← needed (codes "maturityDate") (day_after exchange (codes "maturityDate") contract)
  loan ← loan_of exchange names contract
  Ok (record { maturity_date = maturity; loan = loan.0 }, loan.1)
