-- The texts that a choice may have. ACTUS data dictionary; the day count B252, and that `NULL` is no shift, are this profile's own.
use Rattle.std.specs.Prelude.{ℕ, ◌==◌, ◌&&◌, ◌||◌, if◌then◌else◌, Bool, List, [], ◌∷◌, codes, Option, Some, None}
use Rattle.std.specs.Str.{byte, bytes_eq}
use Rattle.act_date.specs.declared.calendar.Calendar.{Calendar}
use Rattle.act_date.specs.declared.calendar.Calendar.TheVariants.{Nc, Mf}
use Rattle.act_date.specs.declared.calendar.Convention.{Convention}
use Rattle.act_date.specs.declared.calendar.Convention.TheVariants as convention
use Rattle.act_date.specs.declared.cycle.MonthRule.{MonthRule}
use Rattle.act_date.specs.declared.cycle.MonthRule.TheVariants.{Sd, Eom}
use Rattle.act_date.specs.declared.day_count.DayCount.{DayCount}
use Rattle.act_date.specs.declared.day_count.DayCount.TheVariants as count
use Rattle.act_model.specs.declared.choice.ContractRole.{ContractRole}
use Rattle.act_model.specs.declared.choice.ContractRole.TheVariants as role
use Rattle.act_model.specs.declared.choice.DeliverySettlement.{DeliverySettlement}
use Rattle.act_model.specs.declared.choice.DeliverySettlement.TheVariants as delivery
use Rattle.act_model.specs.declared.choice.ExerciseType.{ExerciseType}
use Rattle.act_model.specs.declared.choice.ExerciseType.TheVariants as exercise
use Rattle.act_model.specs.declared.choice.FeeBasis.{FeeBasis}
use Rattle.act_model.specs.declared.choice.FeeBasis.TheVariants as basis
use Rattle.act_model.specs.declared.choice.GuaranteedExposure.{GuaranteedExposure}
use Rattle.act_model.specs.declared.choice.GuaranteedExposure.TheVariants as exposure
use Rattle.act_model.specs.declared.choice.InterestCalculationBase.{InterestCalculationBase}
use Rattle.act_model.specs.declared.choice.InterestCalculationBase.TheVariants.{NT, NTIED, NTL}
use Rattle.act_model.specs.declared.choice.OptionType.{OptionType}
use Rattle.act_model.specs.declared.choice.OptionType.TheVariants as option
use Rattle.act_model.specs.declared.choice.PenaltyType.{PenaltyType}
use Rattle.act_model.specs.declared.choice.PenaltyType.TheVariants as penalty
use Rattle.act_model.specs.declared.choice.ScalingEffect.{ScalingEffect}
use Rattle.act_model.specs.declared.observed.ObsKind.{ObsKind}
use Rattle.act_model.specs.declared.observed.ObsKind.TheVariants as observed
use Rattle.act_terms.specs.declared.reference.ReferenceRole.{ReferenceRole}
use Rattle.act_terms.specs.declared.reference.ReferenceRole.TheVariants.{UDL, FIL, SEL, COVE, COVI}
use Rattle.act_terms.specs.declared.reference.ReferenceType.{ReferenceType}
use Rattle.act_terms.specs.declared.reference.ReferenceType.TheVariants.{CNT, CID, MOC}

-- the choice of a text, by the first pair that has it
abbrev pub among : {A : Type 0} → List (List ℕ × A) → List ℕ → Option A
among [] text = None
among (choice ∷ choices) text = if bytes_eq text choice.0 then Some choice.1 else among choices text

-- contractRole
unfoldable pub role_named : List ℕ → Option ContractRole
role_named text = among ((codes "RPA", role.RPA) ∷ (codes "RFL", role.RFL) ∷ (codes "RF", role.RF) ∷ (codes "BUY", role.BUY) ∷ (codes "LG", role.LG) ∷ (codes "OBL", role.OBL) ∷ (codes "COL", role.COL)
    ∷ (codes "RPL", role.RPL) ∷ (codes "PFL", role.PFL) ∷ (codes "PF", role.PF) ∷ (codes "SEL", role.SEL) ∷ (codes "ST", role.ST) ∷ (codes "GUA", role.GUA) ∷ []) text

-- calendar
unfoldable pub calendar_named : List ℕ → Option Calendar
calendar_named text = among ((codes "NC", Nc) ∷ (codes "MF", Mf) ∷ []) text

-- businessDayConvention; `NULL` is no shift
unfoldable pub convention_named : List ℕ → Option Convention
convention_named text = among ((codes "NOS", convention.Nos) ∷ (codes "NULL", convention.Nos) ∷ (codes "SCF", convention.Scf) ∷ (codes "SCMF", convention.Scmf) ∷ (codes "CSF", convention.Csf)
    ∷ (codes "CSMF", convention.Csmf) ∷ (codes "SCP", convention.Scp) ∷ (codes "SCMP", convention.Scmp) ∷ (codes "CSP", convention.Csp) ∷ (codes "CSMP", convention.Csmp) ∷ []) text

-- endOfMonthConvention
unfoldable pub month_rule_named : List ℕ → Option MonthRule
month_rule_named text = among ((codes "SD", Sd) ∷ (codes "EOM", Eom) ∷ []) text

-- dayCountConvention
unfoldable pub day_count_named : List ℕ → Option DayCount
day_count_named text = among ((codes "AA", count.Aa) ∷ (codes "A360", count.A360) ∷ (codes "A365", count.A365) ∷ (codes "30E360", count.E30) ∷ (codes "30E360ISDA", count.E30Isda) ∷ (codes "B252", count.B252) ∷ []) text

-- feeBasis
unfoldable pub fee_basis_named : List ℕ → Option FeeBasis
fee_basis_named text = among ((codes "A", basis.A) ∷ (codes "N", basis.N) ∷ []) text

-- penaltyType
unfoldable pub penalty_type_named : List ℕ → Option PenaltyType
penalty_type_named text = among ((codes "O", penalty.O) ∷ (codes "A", penalty.A) ∷ (codes "N", penalty.N) ∷ (codes "I", penalty.I) ∷ []) text

-- interestCalculationBase
unfoldable pub calculation_base_named : List ℕ → Option InterestCalculationBase
calculation_base_named text = among ((codes "NT", NT) ∷ (codes "NTIED", NTIED) ∷ (codes "NTL", NTL) ∷ []) text

-- deliverySettlement
unfoldable pub delivery_named : List ℕ → Option DeliverySettlement
delivery_named text = among ((codes "D", delivery.D) ∷ (codes "S", delivery.S) ∷ []) text

-- optionType
unfoldable pub option_type_named : List ℕ → Option OptionType
option_type_named text = among ((codes "C", option.C) ∷ (codes "P", option.P) ∷ (codes "CP", option.CP) ∷ []) text

-- optionExerciseType
unfoldable pub exercise_type_named : List ℕ → Option ExerciseType
exercise_type_named text = among ((codes "E", exercise.E) ∷ (codes "A", exercise.A) ∷ (codes "B", exercise.B) ∷ []) text

-- guaranteedExposure
unfoldable pub exposure_named : List ℕ → Option GuaranteedExposure
exposure_named text = among ((codes "NO", exposure.NO) ∷ (codes "NI", exposure.NI) ∷ (codes "MV", exposure.MV) ∷ []) text

-- a credit event
unfoldable pub credit_event_named : List ℕ → Option ObsKind
credit_event_named text = among ((codes "DL", observed.DL) ∷ (codes "DQ", observed.DQ) ∷ (codes "DF", observed.DF) ∷ []) text

-- referenceType
unfoldable pub reference_type_named : List ℕ → Option ReferenceType
reference_type_named text = among ((codes "CNT", CNT) ∷ (codes "CID", CID) ∷ (codes "MOC", MOC) ∷ []) text

-- referenceRole
unfoldable pub reference_role_named : List ℕ → Option ReferenceRole
reference_role_named text = among ((codes "UDL", UDL) ∷ (codes "FIL", FIL) ∷ (codes "SEL", SEL) ∷ (codes "COVE", COVE) ∷ (codes "COVI", COVI) ∷ []) text

-- scalingEffect: three letters, the first I, O or 0, the second N, O or 0, the third O or 0
abbrev pub is_none : ℕ → Bool
is_none letter = (letter == byte "O") || (letter == byte "0")

unfoldable pub scaling_effect_named : List ℕ → Option ScalingEffect
scaling_effect_named (interest ∷ notional ∷ last ∷ []) =
    if ((interest == byte "I") || is_none interest) && ((notional == byte "N") || is_none notional) && is_none last
    then Some (record { interest = interest == byte "I"; notional = notional == byte "N" }) else None
scaling_effect_named text = None
