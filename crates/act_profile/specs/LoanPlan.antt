-- The scheduled events of a loan: PAM, LAM, NAM and ANN. The names of the events are those of ACTUS; the rules are this profile's.
use Rattle.std.specs.Prelude.{◌||◌, int_lt, if◌then◌else◌, Bool, true, false, ℤ, pos, List, [], ◌∷◌, ◌++◌, map, Option, Some, None, option_map, option_and_then, Result}
use Rattle.std.specs.List.{filter}
use Rattle.std.specs.Ordering.{int_eq}
use Rattle.act_date.specs.Fraction.{Fraction}
use Rattle.act_model.specs.Run.{EventPlan}
use Rattle.act_model.specs.declared.choice.ContractType.{ContractType}
use Rattle.act_model.specs.declared.choice.ContractType.TheVariants as type
use Rattle.act_model.specs.declared.choice.InterestCalculationBase.{InterestCalculationBase}
use Rattle.act_model.specs.declared.choice.InterestCalculationBase.TheVariants as base
use Rattle.act_model.specs.declared.event.Event.{Event}
use Rattle.act_model.specs.declared.event.EventType.TheVariants.{IED, PR, FP, PRD, TD, IP, IPCI, RRF, RR, PRF, IPCB, SC, MD}
use Rattle.act_model.specs.declared.run.PlanFault.{PlanFault}
use Rattle.act_model.specs.declared.terms.Redemption.{Redemption}
use Rattle.act_profile.specs.Dates.{after, recurring_or_end, united}
use Rattle.act_profile.specs.Lists.{insert_by}
use Rattle.act_profile.specs.LoanTerms.{LoanTerms, dates_before_maturity, dates_to_maturity, part_of_year}
use Rattle.act_profile.specs.Order.{in_order, is_type}
use Rattle.act_profile.specs.Outcomes.{map_ok}
use Rattle.act_profile.specs.Planning.{Planned, events_by_type, unshifted, unshifted_where_given, shifting}

-- ---- the dates of each type; T is the maturity

-- PR: the dates before T on which principal is redeemed; a PAM has none
abbrev pub redemption_dates_by : LoanTerms → Option Redemption → Option (List ℤ)
redemption_dates_by l None = Some []
redemption_dates_by l (Some terms) =
    dates_before_maturity l terms.cycle_anchor_date_of_principal_redemption terms.cycle_of_principal_redemption

-- PR, by the loan's terms
abbrev pub redemption_dates : LoanTerms → Option (List ℤ)
redemption_dates l = redemption_dates_by l l.redemption

-- the interest dates up to a day, or that day alone where they have no anchor (this profile's own)
abbrev pub interest_dates_until : LoanTerms → ℤ → Option (List ℤ)
interest_dates_until l end =
    recurring_or_end l.common.end_of_month_convention l.loan.initial_exchange_date end l.loan.cycle_anchor_date_of_interest_payment l.loan.cycle_of_interest_payment

-- IPCI: the interest dates up to the capitalization end; none without a nominal rate
abbrev pub capitalization_dates_by : LoanTerms → Option ℤ → Option ℤ → Option (List ℤ)
capitalization_dates_by l None end = Some []
capitalization_dates_by l (Some rate) None = Some []
capitalization_dates_by l (Some rate) (Some end) = interest_dates_until l end

-- IPCI, by the loan's terms
abbrev pub capitalization_dates : LoanTerms → Option (List ℤ)
capitalization_dates l = capitalization_dates_by l l.loan.nominal_interest_rate l.loan.capitalization_end_date

-- dates with those of redemption and T besides, each once
abbrev pub with_redemptions_and_end : LoanTerms → List ℤ → Option (List ℤ)
with_redemptions_and_end l dates = option_map (λ others. united (united dates others) (l.maturity ∷ [])) (redemption_dates l)

-- of a NAM or an ANN interest is paid on each redemption date and at T besides (this profile's own)
abbrev pub with_redemption_dates : LoanTerms → ContractType → List ℤ → Option (List ℤ)
with_redemption_dates l type.NAM dates = with_redemptions_and_end l dates
with_redemption_dates l type.ANN dates = with_redemptions_and_end l dates
with_redemption_dates l other dates = Some dates

-- IP: the interest dates up to T after the capitalization end; none without a nominal rate
abbrev pub interest_payment_dates_by : LoanTerms → Option ℤ → Option (List ℤ)
interest_payment_dates_by l None = Some []
interest_payment_dates_by l (Some rate) =
    option_map (after l.loan.capitalization_end_date)
    (option_and_then (with_redemption_dates l l.type) (interest_dates_until l l.maturity))

-- IP, by the loan's terms
abbrev pub interest_payment_dates : LoanTerms → Option (List ℤ)
interest_payment_dates l = interest_payment_dates_by l l.loan.nominal_interest_rate

-- FP: the fee dates up to T, where there is a fee other than 0
abbrev pub fee_dates_by : LoanTerms → Option ℤ → Option (List ℤ)
fee_dates_by l None = Some []
fee_dates_by l (Some rate) =
    if int_eq rate (pos 0) then Some []
    else dates_to_maturity l l.loan.fee.cycle_anchor_date_of_fee l.loan.fee.cycle_of_fee

-- FP, by the loan's terms
abbrev pub fee_dates : LoanTerms → Option (List ℤ)
fee_dates l = fee_dates_by l l.loan.fee.fee_rate

-- the reset dates before T
abbrev pub reset_dates : LoanTerms → Option (List ℤ)
reset_dates l =
    dates_before_maturity l l.loan.rate_reset.cycle_anchor_date_of_rate_reset l.loan.rate_reset.cycle_of_rate_reset

-- RR and RRF: where the next rate is given, the first reset after the status date sets it
unfoldable pub with_first_given : ℤ → List ℤ → List Planned
with_first_given status [] = []
with_first_given status (d ∷ ds) =
    if int_lt status d then record { kind = RRF; date = d; shifts = true } ∷ shifting RR ds
    else record { kind = RR; date = d; shifts = true } ∷ with_first_given status ds

abbrev pub resets_on : ℤ → Option ℤ → List ℤ → List Planned
resets_on status None dates = shifting RR dates
resets_on status (Some rate) dates = with_first_given status dates

-- an earlier date
abbrev pub is_earlier : Planned → Planned → Bool
is_earlier a b = int_lt a.date b.date

-- PRF: an annuity's payment is fixed with each reset, and where none is given at the initial exchange, which isn't shifted (this profile's own)
abbrev pub with_first_fixing : ℤ → Option ℤ → List Planned → List Planned
with_first_fixing exchange None fixings = insert_by is_earlier (record { kind = PRF; date = exchange; shifts = false }) fixings
with_first_fixing exchange (Some payment) fixings = fixings

abbrev pub fixings_by : LoanTerms → ContractType → Option (List Planned)
fixings_by l type.ANN =
    option_map (λ dates. with_first_fixing l.loan.initial_exchange_date l.payment (shifting PRF dates)) (reset_dates l)
fixings_by l other = Some []

-- IPCB: the dates before T on which the interest calculation base is fixed, where it is NTL
abbrev pub base_dates_by : LoanTerms → InterestCalculationBase → Redemption → Option (List ℤ)
base_dates_by l base.NTL terms =
    dates_before_maturity l terms.cycle_anchor_date_of_interest_calculation_base terms.cycle_of_interest_calculation_base
base_dates_by l other terms = Some []

abbrev pub base_dates_of : LoanTerms → Option Redemption → Option (List ℤ)
base_dates_of l None = Some []
base_dates_of l (Some terms) = base_dates_by l terms.interest_calculation_base terms

-- IPCB, by the loan's terms
abbrev pub base_dates : LoanTerms → Option (List ℤ)
base_dates l = base_dates_of l l.redemption

-- SC: the scaling dates before T, where something is scaled
abbrev pub scaling_dates : LoanTerms → Option (List ℤ)
scaling_dates l =
    if l.loan.scaling.scaling_effect.interest || l.loan.scaling.scaling_effect.notional
    then dates_before_maturity l l.loan.scaling.cycle_anchor_date_of_scaling_index l.loan.scaling.cycle_of_scaling_index
    else Some []

-- ---- the plan

-- the dates of each type of event, in the order in which faults are found; of one day and type events are in this order too
abbrev pub loan_dates : LoanTerms → List (Option (List Planned))
loan_dates l =
    Some (unshifted IED l.loan.initial_exchange_date)
    ∷ Some (unshifted_where_given PRD l.common.purchase_date)
    ∷ Some (unshifted_where_given TD l.common.termination_date)
    ∷ option_map (shifting PR) (redemption_dates l)
    ∷ option_map (shifting IPCI) (capitalization_dates l)
    ∷ option_map (shifting IP) (interest_payment_dates l)
    ∷ option_map (shifting FP) (fee_dates l)
    ∷ option_map (resets_on l.common.status_date l.loan.rate_reset.next_reset_rate) (reset_dates l)
    ∷ fixings_by l l.type
    ∷ option_map (shifting IPCB) (base_dates l)
    ∷ option_map (shifting SC) (scaling_dates l)
    ∷ Some (shifting MD (l.maturity ∷ []))
    ∷ []

-- the days that the events of a type go by
abbrev pub calculation_days : (Event → Bool) → List Event → List ℤ
calculation_days is_wanted events = map (λ e. e.calc) (filter is_wanted events)

-- the days that an annuity's redemptions and then its maturity go by
abbrev pub annuity_days : ContractType → List Event → List ℤ
annuity_days type.ANN events =
    calculation_days (λ e. is_type e.kind PR) events ++ calculation_days (λ e. is_type e.kind MD) events
annuity_days other events = []

-- the parts of a year between successive days
unfoldable pub parts_from : LoanTerms → ℤ → List ℤ → List Fraction
parts_from l day [] = []
parts_from l day (d ∷ ds) = part_of_year l day d ∷ parts_from l d ds

abbrev pub parts_between : LoanTerms → List ℤ → List Fraction
parts_between l [] = []
parts_between l (d ∷ ds) = parts_from l d ds

abbrev pub with_redemptions : LoanTerms → List Event → EventPlan
with_redemptions l events =
    let days = annuity_days l.type events in
    record { events = events; redemptions = days; periods = parts_between l days }

-- the plan of a loan: its scheduled events in order, or the first fault
unfoldable pub loan_plan : LoanTerms → Result EventPlan PlanFault
loan_plan l = map_ok (λ events. with_redemptions l (in_order events)) (events_by_type l.common 0 (loan_dates l))
