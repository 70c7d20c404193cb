-- What the terms of guarantees hold: lists in place of vectors. ACTUS data dictionary.
use Rattle.std.specs.Prelude.{ℕ, ℤ, List, Option}
use Rattle.act_date.specs.declared.cycle.Cycle.{Cycle}
use Rattle.act_model.specs.declared.choice.GuaranteedExposure.{GuaranteedExposure}
use Rattle.act_model.specs.declared.observed.ObsKind.{ObsKind}
use Rattle.act_model.specs.declared.terms.Covered.{Covered}

-- the terms of a guarantee
pub record Guarantee : Type 0 where
  pub maturity_date : Option ℤ
  pub coverage_of_credit_enhancement : ℤ
  pub guaranteed_exposure : GuaranteedExposure
  pub credit_event_type_covered : List ObsKind
  pub settlement_period : Cycle
  pub covered : List Covered

-- the terms of a guarantee by collateral, with the codes of the collateral
pub record Collateral : Type 0 where
  pub guarantee : Guarantee
  pub covering : List ℕ
