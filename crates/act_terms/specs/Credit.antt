-- The terms of guarantees and collateral: CEG and CEC. ACTUS data dictionary; what is required, the defaults and the shapes of creditEventTypeCovered are
-- this profile's own. What they cover and what covers it is none of these terms: it is bound to them once all contracts are read, and is empty before.
use Rattle.std.specs.Prelude.{List, [], ◌∷◌, codes, unwrap_or, Option, Some, None, Result, Ok}
use Rattle.act_num.specs.Number.{one}
use Rattle.std.specs.Prelude.{pos}
use Rattle.act_model.specs.Terms.{Collateral, Guarantee}
use Rattle.act_model.specs.declared.choice.GuaranteedExposure.TheVariants as exposure
use Rattle.act_model.specs.declared.observed.ObsKind.{ObsKind}
use Rattle.act_model.specs.declared.observed.ObsKind.TheVariants as observed
use Rattle.act_terms.specs.Choices.{credit_event_named, exposure_named}
use Rattle.act_terms.specs.Exercise.{settlement_period_of}
use Rattle.act_terms.specs.Fault.{◌>>=◌, refused}
use Rattle.act_terms.specs.Fields.{choice_field, optional, optional_day, optional_decimal}
use Rattle.act_terms.specs.Structure.{listed}
use Rattle.act_terms.specs.declared.fault.TermCause.{TermCause}
use Rattle.act_terms.specs.declared.fault.TermCause.TheVariants.{WrongShape, BadValue}
use Rattle.act_terms.specs.declared.fault.TermsFault.{TermsFault}
use Rattle.serde_json.specs.Data.{Data, null, string, array}
use Rattle.serde_json.specs.Find.{get}

-- ---- creditEventTypeCovered

-- it is refused
abbrev pub bad_types : {A : Type 0} → TermCause → Result A TermsFault
bad_types cause = refused cause (codes "creditEventTypeCovered")

-- the type that a text names
abbrev pub type_or_refusal : Option ObsKind → Result ObsKind TermsFault
type_or_refusal (Some type) = Ok type
type_or_refusal None = bad_types BadValue

-- a type: a text that names one
unfoldable pub credit_event_in : Data → Result ObsKind TermsFault
credit_event_in (string text) = type_or_refusal (credit_event_named text)
credit_event_in other = bad_types WrongShape

-- types in their order, or the first that is refused
unfoldable pub credit_events_from : List Data → Result (List ObsKind) TermsFault
credit_events_from [] = Ok []
credit_events_from (value ∷ values) = do
  first ← credit_event_in value
  rest ← credit_events_from values
  Ok (first ∷ rest)

-- the types of a value: default where it isn't given, those of a list, or the one of a text
abbrev pub credit_events_in : Option Data → Result (List ObsKind) TermsFault
credit_events_in None = Ok (observed.DF ∷ [])
credit_events_in (Some null) = Ok (observed.DF ∷ [])
credit_events_in (Some (string [])) = Ok (observed.DF ∷ [])
credit_events_in (Some (array items)) = credit_events_from (listed items)
credit_events_in (Some other) = credit_events_from (other ∷ [])

unfoldable pub credit_events_of : Data → Result (List ObsKind) TermsFault
credit_events_of contract = credit_events_in (get (codes "creditEventTypeCovered") contract)

-- ---- the kinds

-- the terms of a CEG
unfoldable pub ceg_of : Data → Result Guarantee TermsFault
ceg_of contract = do
  maturity ← optional_day (codes "maturityDate") contract
  coverage ← optional_decimal (codes "coverageOfCreditEnhancement") contract
  guaranteed ← optional (codes "guaranteedExposure") (choice_field exposure_named (codes "guaranteedExposure") contract)
  types ← credit_events_of contract
  period ← settlement_period_of contract
  Ok (
      record {
        maturity_date = maturity;
        coverage_of_credit_enhancement = unwrap_or coverage (pos one);
        guaranteed_exposure = unwrap_or guaranteed exposure.NO;
        credit_event_type_covered = types;
        settlement_period = period;
        covered = [];
      }
      )

-- the terms of a CEC: those of a guarantee
unfoldable pub cec_of : Data → Result Collateral TermsFault
cec_of contract = do
  guarantee ← ceg_of contract
  Ok (record { guarantee = guarantee; covering = [] })
