-- The terms of loans whose principal is redeemed: LAM, NAM and ANN. ACTUS data dictionary; what is required, the default and the bound are this
-- profile's own.
use Rattle.std.specs.Prelude.{ℤ, not, ◌&&◌, Bool, true, codes, is_some, unwrap_or, Option, Some, None, Result, Ok}
use Rattle.act_json.specs.Fields.{decimal_field}
use Rattle.act_model.specs.Names.{NameLists}
use Rattle.act_model.specs.declared.choice.InterestCalculationBase.TheVariants.{NT}
use Rattle.act_model.specs.declared.terms.Ann.{Ann}
use Rattle.act_model.specs.declared.terms.Lam.{Lam}
use Rattle.act_model.specs.declared.terms.Nam.{Nam}
use Rattle.act_model.specs.declared.terms.Redemption.{Redemption}
use Rattle.act_terms.specs.Choices.{calculation_base_named}
use Rattle.act_terms.specs.Fault.{◌>>=◌}
use Rattle.act_terms.specs.Fields.{choice_field, cycle_where, day_after, needed, needed_day, needed_where, optional, optional_cycle, optional_day, optional_decimal, positive}
use Rattle.act_terms.specs.Loan.{loan_of, pam_of}
use Rattle.act_terms.specs.declared.fault.TermsFault.{TermsFault}
use Rattle.act_terms.specs.declared.redemption.CalculationBase.{CalculationBase}
use Rattle.act_terms.specs.declared.redemption.RedemptionDates.{RedemptionDates}
use Rattle.serde_json.specs.Data.{Data}

-- ---- the dates, the payment and the base

-- the days on which principal is redeemed; the cycle may be left out where a maturity is given, and a first day
unfoldable pub redemption_dates_of : Bool → Data → Result RedemptionDates TermsFault
redemption_dates_of has_maturity contract = do
  anchor ← optional_day (codes "cycleAnchorDateOfPrincipalRedemption") contract
  cycle ← cycle_where (not (has_maturity && is_some anchor)) (codes "cycleOfPrincipalRedemption") contract
  Ok (record { cycle_anchor_date_of_principal_redemption = anchor; cycle_of_principal_redemption = cycle })

-- the payment of a LAM; where no maturity is given it is required, and above 0
unfoldable pub lam_payment_of : Option ℤ → Data → Result (Option ℤ) TermsFault
lam_payment_of (Some maturity) contract = optional_decimal (codes "nextPrincipalRedemptionPayment") contract
lam_payment_of None contract = needed_where true (codes "nextPrincipalRedemptionPayment") (positive (codes "nextPrincipalRedemptionPayment") contract)

-- what interest is computed on, and the days on which that is set to the notional
unfoldable pub calculation_base_of : Data → Result CalculationBase TermsFault
calculation_base_of contract = do
  base ← optional (codes "interestCalculationBase") (choice_field calculation_base_named (codes "interestCalculationBase") contract)
  amount ← optional_decimal (codes "interestCalculationBaseAmount") contract
  anchor ← optional_day (codes "cycleAnchorDateOfInterestCalculationBase") contract
  cycle ← optional_cycle (codes "cycleOfInterestCalculationBase") contract
  Ok (
      record {
        interest_calculation_base = unwrap_or base NT;
        interest_calculation_base_amount = amount;
        cycle_anchor_date_of_interest_calculation_base = anchor;
        cycle_of_interest_calculation_base = cycle;
      }
      )

-- the terms of redemption together
abbrev pub redemption_with : RedemptionDates → CalculationBase → Redemption
redemption_with dates base =
    record {
      cycle_anchor_date_of_principal_redemption = dates.cycle_anchor_date_of_principal_redemption;
      cycle_of_principal_redemption = dates.cycle_of_principal_redemption;
      interest_calculation_base = base.interest_calculation_base;
      interest_calculation_base_amount = base.interest_calculation_base_amount;
      cycle_anchor_date_of_interest_calculation_base = base.cycle_anchor_date_of_interest_calculation_base;
      cycle_of_interest_calculation_base = base.cycle_of_interest_calculation_base;
    }

-- ---- the loans, and the names with those that their terms give

-- the terms of a LAM; its maturity may be left out
unfoldable pub lam_of : NameLists → Data → Result (Lam × NameLists) TermsFault
lam_of names contract = do
  exchange ← needed_day (codes "initialExchangeDate") contract
  maturity ← optional (codes "maturityDate") (day_after exchange (codes "maturityDate") contract)
  loan ← loan_of exchange names contract
  dates ← redemption_dates_of (is_some maturity) contract
  payment ← lam_payment_of maturity contract
  base ← calculation_base_of contract
  Ok (record { maturity_date = maturity; loan = loan.0; redemption = redemption_with dates base; next_principal_redemption_payment = payment }, loan.1)

-- the terms of a NAM: those of a PAM, and behind them those of redemption with the payment
unfoldable pub nam_of : NameLists → Data → Result (Nam × NameLists) TermsFault
nam_of names contract = do
  pam ← pam_of names contract
  dates ← redemption_dates_of true contract
  payment ← needed (codes "nextPrincipalRedemptionPayment") (decimal_field (codes "nextPrincipalRedemptionPayment") contract)
  base ← calculation_base_of contract
  Ok (record { maturity_date = pam.0.maturity_date; loan = pam.0.loan; redemption = redemption_with dates base; next_principal_redemption_payment = payment }, pam.1)

-- the terms of an ANN: the same, but that the payment may be left out
unfoldable pub ann_of : NameLists → Data → Result (Ann × NameLists) TermsFault
ann_of names contract = do
  pam ← pam_of names contract
  dates ← redemption_dates_of true contract
  payment ← optional_decimal (codes "nextPrincipalRedemptionPayment") contract
  base ← calculation_base_of contract
  Ok (record { maturity_date = pam.0.maturity_date; loan = pam.0.loan; redemption = redemption_with dates base; next_principal_redemption_payment = payment }, pam.1)
