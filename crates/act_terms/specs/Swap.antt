-- The terms of swaps, caps and floors: SWPPV, SWAPS and CAPFL. ACTUS data dictionary; what is required, the defaults and the bounds are this profile's
-- own. What SWAPS and CAPFL refer to is none of these terms: it is bound to them once all contracts are read, and is 0 before.
use Rattle.std.specs.Prelude.{ℤ, pos, ◌||◌, false, codes, is_some, unwrap_or, if◌then◌else◌, Result, Ok}
use Rattle.act_date.specs.declared.day_count.DayCount.TheVariants.{Aa}
use Rattle.act_json.specs.Fields.{decimal_field}
use Rattle.act_model.specs.Names.{NameLists}
use Rattle.act_model.specs.declared.choice.DeliverySettlement.TheVariants.{D}
use Rattle.act_model.specs.declared.terms.Capfl.{Capfl}
use Rattle.act_model.specs.declared.terms.RateReset.{RateReset}
use Rattle.act_model.specs.declared.terms.Swaps.{Swaps}
use Rattle.act_model.specs.declared.terms.Swppv.{Swppv}
use Rattle.act_terms.specs.Choices.{day_count_named, delivery_named}
use Rattle.act_terms.specs.Fault.{◌>>=◌, refused}
use Rattle.act_terms.specs.Fields.{choice_field, day_after, needed, needed_day, not_negative, optional, optional_cycle, optional_day, optional_decimal}
use Rattle.act_terms.specs.Loan.{rate_reset_of}
use Rattle.act_terms.specs.declared.fault.TermCause.TheVariants.{MissingTerm}
use Rattle.act_terms.specs.declared.fault.TermsFault.{TermsFault}
use Rattle.act_terms.specs.declared.swap.PlainInterest.{PlainInterest}
use Rattle.serde_json.specs.Data.{Data}

-- ---- SWPPV

-- both rates, how parts of a year are counted, and the dates of interest
unfoldable pub plain_interest_of : Data → Result PlainInterest TermsFault
plain_interest_of contract = do
  rate ← needed (codes "nominalInterestRate") (decimal_field (codes "nominalInterestRate") contract)
  rate2 ← optional_decimal (codes "nominalInterestRate2") contract
  day_count ← optional (codes "dayCountConvention") (choice_field day_count_named (codes "dayCountConvention") contract)
  anchor ← optional_day (codes "cycleAnchorDateOfInterestPayment") contract
  cycle ← optional_cycle (codes "cycleOfInterestPayment") contract
  Ok (
      record {
        nominal_interest_rate = rate;
        nominal_interest_rate2 = unwrap_or rate2 (pos 0);
        day_count_convention = unwrap_or day_count Aa;
        cycle_anchor_date_of_interest_payment = anchor;
        cycle_of_interest_payment = cycle;
      }
      )

-- the terms of a SWPPV together
abbrev pub swppv_with : ℤ → ℤ → ℤ → PlainInterest → RateReset → Swppv
swppv_with exchange maturity notional interest reset =
    record {
      initial_exchange_date = exchange;
      maturity_date = maturity;
      notional_principal = notional;
      nominal_interest_rate = interest.nominal_interest_rate;
      nominal_interest_rate2 = interest.nominal_interest_rate2;
      day_count_convention = interest.day_count_convention;
      cycle_anchor_date_of_interest_payment = interest.cycle_anchor_date_of_interest_payment;
      cycle_of_interest_payment = interest.cycle_of_interest_payment;
      rate_reset = reset;
    }

-- the terms of a SWPPV, and the names with the code of the rate that resets it
unfoldable pub swppv_of : NameLists → Data → Result (Swppv × NameLists) TermsFault
swppv_of names contract = do
  exchange ← needed_day (codes "initialExchangeDate") contract
  maturity ← needed (codes "maturityDate") (day_after exchange (codes "maturityDate") contract)
  notional ← needed (codes "notionalPrincipal") (not_negative (codes "notionalPrincipal") contract)
  interest ← plain_interest_of contract
  reset ← rate_reset_of names contract
  Ok (swppv_with exchange maturity notional interest reset.0, reset.1)

-- ---- SWAPS

-- the terms of a SWAPS
unfoldable pub swaps_of : Data → Result Swaps TermsFault
swaps_of contract = do
  delivery ← optional (codes "deliverySettlement") (choice_field delivery_named (codes "deliverySettlement") contract)
  Ok (record { delivery_settlement = unwrap_or delivery D; first = 0; second = 0; swapped = false })

-- ---- CAPFL

-- a cap, a floor or both have to be given
abbrev pub limited : Capfl → Result Capfl TermsFault
limited capfl = if is_some capfl.life_cap || is_some capfl.life_floor then Ok capfl else refused MissingTerm (codes "lifeCap")

-- the terms of a CAPFL
unfoldable pub capfl_of : Data → Result Capfl TermsFault
capfl_of contract = do
  maturity ← optional_day (codes "maturityDate") contract
  cap ← optional_decimal (codes "lifeCap") contract
  floor ← optional_decimal (codes "lifeFloor") contract
  limited (record { maturity_date = maturity; life_cap = cap; life_floor = floor; underlying = 0; shadow = 0 })
