-- The states and steps of loans: PAM, LAM, NAM and ANN. The names of events and state variables are those of ACTUS; every starting state
-- and formula is this profile's.
use Rattle.std.specs.Prelude.{unwrap_or, ℕ, ◌+◌, not, if◌then◌else◌, Bool, true, false, ℤ, pos, neg_ℤ, int_lt, List, [], ◌∷◌, ◌++◌, length, Option, Some, None, option_map, option_and_then}
use Rattle.std.specs.Int.{int_max, int_min}
use Rattle.act_annuity.specs.Payment.{annuity_payment}
use Rattle.act_num.specs.Number.{add_of, clip_of, mul_of, ratio_of, rnd, sub_of}
use Rattle.act_model.specs.Run.{EventPlan}
use Rattle.act_model.specs.declared.choice.ContractType.{ContractType}
use Rattle.act_model.specs.declared.choice.ContractType.TheVariants as type
use Rattle.act_model.specs.declared.choice.FeeBasis.{FeeBasis}
use Rattle.act_model.specs.declared.choice.FeeBasis.TheVariants as fee
use Rattle.act_model.specs.declared.choice.InterestCalculationBase.{InterestCalculationBase}
use Rattle.act_model.specs.declared.choice.InterestCalculationBase.TheVariants as base
use Rattle.act_model.specs.declared.choice.PenaltyType.{PenaltyType}
use Rattle.act_model.specs.declared.choice.PenaltyType.TheVariants as penalty
use Rattle.act_model.specs.declared.choice.ScalingEffect.{ScalingEffect}
use Rattle.act_model.specs.declared.event.Event.{Event}
use Rattle.act_model.specs.declared.event.EventType.{EventType}
use Rattle.act_model.specs.declared.event.EventType.TheVariants.{IED, PR, PP, PY, FP, PRD, TD, IP, IPCI, RRF, RR, PRF, IPCB, SC, MD, CE}
use Rattle.act_model.specs.declared.state.State.{State}
use Rattle.act_model.specs.declared.terms.RateReset.{RateReset}
use Rattle.act_profile.specs.Dates.{latest_until}
use Rattle.act_profile.specs.Formula.{interest_on, lesser, minus, plus, times}
use Rattle.act_profile.specs.LoanTerms.{LoanTerms, base_amount_of, interest_calculation_base_of, own_sign, part_of_year}
use Rattle.act_profile.specs.LoanPlan.{capitalization_dates, parts_from, interest_payment_dates, redemption_dates}
use Rattle.act_profile.specs.States.{first_state, later_day, with_feac, with_ipac, with_ipcb, with_ipnr, with_isc, with_md, with_nsc, with_nt, with_prnxt, with_sd, with_xa}
use Rattle.act_profile.specs.Step.{Change, Payoff, StepLine, becomes, becomes_by, changed, idle_line, keeps, nothing, pays, pays_by}

-- ---- words of the tables

-- B: what interest is computed on, the notional of a PAM and the base of the others
abbrev pub interest_base : ContractType → State → ℤ
interest_base type.PAM s = s.nt
interest_base other s = s.ipcb

-- -R*x, by the contract's role
abbrev pub own_opposite : LoanTerms → ℤ → ℤ
own_opposite l x = neg_ℤ (own_sign l x)

-- N = max(R*Nt, 0): what can be redeemed
abbrev pub redeemable : LoanTerms → State → ℤ
redeemable l s = int_max (own_sign l s.nt) (pos 0)

-- a notional that becomes the base, where that is NT
abbrev pub with_base : InterestCalculationBase → ℤ → State → State
with_base base.NT nt s = with_ipcb nt s
with_base other nt s = s

-- a new notional, and where the base is NT a new base
abbrev pub with_notional : LoanTerms → ℤ → State → State
with_notional l nt s = with_base (interest_calculation_base_of l) nt (with_nt nt s)

-- ---- accruing

-- the interest accrued up to a day
abbrev pub accrued_interest : LoanTerms → ℤ → State → Option ℤ
accrued_interest l calc s =
    plus (Some s.ipac) (interest_on (interest_base l.type s) s.ipnr (part_of_year l (unwrap_or s.sd calc) calc))

-- the fee accrued up to a day: a fee of basis N accrues on the notional, one of basis A doesn't (this profile's own)
abbrev pub accrued_fee_by : LoanTerms → ℤ → State → Option FeeBasis → Option ℤ → Option ℤ
accrued_fee_by l calc s (Some fee.N) (Some rate) =
    plus (Some s.feac) (interest_on s.nt rate (part_of_year l (unwrap_or s.sd calc) calc))
accrued_fee_by l calc s basis rate = Some s.feac

-- the same by the loan's terms
abbrev pub accrued_fee : LoanTerms → ℤ → State → Option ℤ
accrued_fee l calc s = accrued_fee_by l calc s l.loan.fee.fee_basis l.loan.fee.fee_rate

-- the state that has accrued up to a day; Sd never goes back
abbrev pub accrued : LoanTerms → ℤ → State → Option State
accrued l calc s =
    option_and_then (λ interest. option_map (λ fee. with_sd (later_day s.sd calc) (with_feac fee (with_ipac interest s)))
    (accrued_fee l calc s)) (accrued_interest l calc s)

-- the state before an event: nothing accrues before IED and CE
abbrev pub before_event : LoanTerms → EventType → ℤ → State → Option State
before_event l IED calc s = Some s
before_event l CE calc s = Some s
before_event l other calc s = accrued l calc s

-- ---- the initial exchange

-- the base at first: the notional, or the given amount where the base isn't NT
abbrev pub first_base_by : LoanTerms → InterestCalculationBase → Option ℤ → ℤ → ℤ
first_base_by l base.NT amount nt = nt
first_base_by l other None nt = nt
first_base_by l other (Some amount) nt = own_sign l amount

-- the same by the loan's terms
abbrev pub first_base : LoanTerms → ℤ → ℤ
first_base l nt = first_base_by l (interest_calculation_base_of l) (base_amount_of l.redemption) nt

-- the state with the notional, the rate, the base and the fee that the contract begins with
abbrev pub exchanged : LoanTerms → State → State
exchanged l s =
    let nt = own_sign l l.loan.notional_principal in
    with_feac (own_sign l l.loan.fee.fee_accrued) (with_ipcb (first_base l nt)
    (with_ipnr (unwrap_or l.loan.nominal_interest_rate (pos 0)) (with_nt nt s)))

-- the interest from a day on, or 0 without one
abbrev pub interest_since : LoanTerms → Option ℤ → ℤ → State → Option ℤ
interest_since l None day s = Some (pos 0)
interest_since l (Some first) day s = interest_on (interest_base l.type s) s.ipnr (part_of_year l first day)

-- the given accrued interest, or else that from a day on
abbrev pub first_interest : LoanTerms → Option ℤ → Option ℤ → ℤ → State → Option ℤ
first_interest l (Some interest) first day s = Some (own_sign l interest)
first_interest l None first day s = interest_since l first day s

-- the anchor of interest dates, where it is before a day
abbrev pub anchor_before : Option ℤ → ℤ → Option ℤ
anchor_before None day = None
anchor_before (Some anchor) day = if int_lt anchor day then Some anchor else None

-- the state after IED
abbrev pub after_exchange : LoanTerms → ℤ → State → Option State
after_exchange l calc s =
    let first = anchor_before l.loan.cycle_anchor_date_of_interest_payment calc in
    let next = exchanged l (with_sd calc s) in
    changed with_ipac (first_interest l l.loan.accrued_interest first calc next) next

-- ---- redemption

-- r, the amount that is redeemed: of a LAM the payment, of the others what the payment exceeds the accrued interest by, which may be
-- negative; never more than is owed
abbrev pub redeemed : LoanTerms → ContractType → State → Option ℤ
redeemed l type.LAM s = Some (int_min s.prnxt (redeemable l s))
redeemed l other s = lesser (minus (Some s.prnxt) (Some (own_sign l s.ipac))) (Some (redeemable l s))

-- r of a prepayment: its value, and never more than is owed
abbrev pub prepaid : LoanTerms → Event → State → ℤ
prepaid l e s = int_min e.value (redeemable l s)

-- the state with what is left of the notional, Nt - R*r
abbrev pub after_redemption : LoanTerms → ℤ → State → Option State
after_redemption l r s = option_map (λ nt. with_notional l nt s) (sub_of s.nt (own_sign l r))

-- ---- the annuity payment

-- the days after a day: from the first of them on, since they ascend
unfoldable pub days_after : ℤ → List ℤ → List ℤ
days_after t [] = []
days_after t (d ∷ ds) = if int_lt t d then d ∷ ds else days_after t ds

-- the payment that redeems the notional on these days: with the interest accrued so far and that up to the first of them. On no such day it
-- is what is owed with the interest accrued so far
abbrev pub annuity_payment_over : LoanTerms → ℤ → State → List ℤ → Option ℤ
annuity_payment_over l t s [] =
    plus (Some (own_sign l s.nt)) (Some (own_sign l s.ipac))
annuity_payment_over l t s (d ∷ ds) =
    let n = own_sign l s.nt in
    option_and_then (λ a. annuity_payment n a s.ipnr (parts_from l d ds))
    (plus (Some (own_sign l s.ipac)) (interest_on n s.ipnr (part_of_year l t d)))

-- the annuity payment at a day
abbrev pub annuity_payment_at : LoanTerms → EventPlan → ℤ → State → Option ℤ
annuity_payment_at l plan t s = annuity_payment_over l t s (days_after t plan.redemptions)

-- ---- resets and scaling

-- the rate that an observed one resets a rate to: multiplied, with the spread, its change and itself within their bounds
abbrev pub reset_rate : RateReset → ℤ → ℤ → Option ℤ
reset_rate terms observed rate =
    option_map (λ r. clip_of r terms.life_floor terms.life_cap) (plus (Some rate)
    (option_map (λ d. clip_of d terms.period_floor terms.period_cap)
    (minus (plus (times (Some observed) (Some terms.rate_multiplier)) (Some terms.rate_spread)) (Some rate))))

-- the state after a reset
abbrev pub after_reset : LoanTerms → ℤ → State → Option State
after_reset l observed s = changed with_ipnr (reset_rate l.loan.rate_reset observed s.ipnr) s

-- the multipliers by an index: of interest with effect I, of the notional with effect N
abbrev pub scaled_interest : Bool → ℤ → State → State
scaled_interest true i s = with_isc i s
scaled_interest false i s = s

abbrev pub scaled_notional : Bool → ℤ → State → State
scaled_notional true i s = with_nsc i s
scaled_notional false i s = s

abbrev pub scaled : ScalingEffect → ℤ → State → State
scaled effect i s = scaled_notional effect.notional i (scaled_interest effect.interest i s)

-- the ratio of an index to the one at the contract's deal
abbrev pub index_ratio : ℤ → Option ℤ → Option ℤ
index_ratio observed None = None
index_ratio observed (Some first) = ratio_of observed first

-- the state after scaling
abbrev pub after_scaling : LoanTerms → ℤ → State → Option State
after_scaling l observed s =
    changed (scaled l.loan.scaling.scaling_effect) (index_ratio observed l.loan.scaling.scaling_index_at_contract_deal_date) s

-- ---- the table of steps

-- a change by the value of a code, which the terms give wherever there is such an event
abbrev pub becomes_by_given : Option ℕ → (ℤ → State → Option State) → Change
becomes_by_given None next = becomes (λ s. None)
becomes_by_given (Some code) next = becomes_by code next

-- the interest that is lost from a day up to maturity, by the rate observed; of what was prepaid last
abbrev pub lost_interest : LoanTerms → ℤ → ℤ → State → Option ℤ
lost_interest l calc observed s =
    option_and_then (λ d. option_map (own_sign l) (interest_on s.xa (int_max d (pos 0)) (part_of_year l calc l.maturity)))
    (sub_of s.ipnr observed)

abbrev pub penalty_by_rate : LoanTerms → ℤ → Option ℕ → Payoff
penalty_by_rate l calc None = pays (λ s. None)
penalty_by_rate l calc (Some code) = pays_by code (lost_interest l calc)

-- PY: an amount, a part of what was prepaid last, or the interest lost by the reset code's rate; a loan without penalty has no PY
abbrev pub penalty_payoff : LoanTerms → ℤ → PenaltyType → Payoff
penalty_payoff l calc penalty.O = nothing
penalty_payoff l calc penalty.A = pays (λ s. Some (own_sign l l.loan.penalty_rate))
penalty_payoff l calc penalty.N = pays (λ s. option_map (own_sign l) (mul_of s.xa l.loan.penalty_rate))
penalty_payoff l calc penalty.I = penalty_by_rate l calc l.loan.rate_reset.market_object_code_of_rate_reset

-- FP: of basis A the amount, of basis N what has accrued; a loan with fees has a basis and a rate
abbrev pub fee_payoff : LoanTerms → Option FeeBasis → Option ℤ → Payoff
fee_payoff l (Some fee.N) rate = pays (λ s. Some s.feac)
fee_payoff l (Some fee.A) (Some rate) = pays (λ s. Some (own_sign l rate))
fee_payoff l basis rate = pays (λ s. None)

-- the line of an event, one equation a type, in the table's order
abbrev pub loan_line_of : LoanTerms → EventPlan → Event → EventType → StepLine
loan_line_of l plan e IED = record {
  payoff = pays (λ s. option_map (own_opposite l) (add_of l.loan.notional_principal l.loan.premium_discount_at_ied));
  change = becomes (after_exchange l e.calc);
}
loan_line_of l plan e PR = record {
  payoff = pays (λ s. option_and_then (λ r. mul_of s.nsc (own_sign l r)) (redeemed l l.type s));
  change = becomes (λ s. option_and_then (λ r. after_redemption l r s) (redeemed l l.type s));
}
loan_line_of l plan e PP = record {
  payoff = pays (λ s. Some (own_sign l (int_min e.value (redeemable l s))));
  change = becomes (λ s. option_map (with_xa (int_min e.value (redeemable l s))) (after_redemption l (int_min e.value (redeemable l s)) s));
}
loan_line_of l plan e PY = record {
  payoff = penalty_payoff l e.calc l.loan.penalty_type;
  change = keeps;
}
loan_line_of l plan e FP = record {
  payoff = fee_payoff l l.loan.fee.fee_basis l.loan.fee.fee_rate;
  change = becomes (λ s. Some (with_feac (pos 0) s));
}
loan_line_of l plan e PRD = record {
  payoff = pays (λ s. sub_of (own_opposite l l.common.price_at_purchase_date) s.ipac);
  change = keeps;
}
loan_line_of l plan e TD = record {
  payoff = pays (λ s. add_of (own_sign l l.common.price_at_termination_date) s.ipac);
  change = becomes (λ s. Some (with_notional l (pos 0) (with_ipnr (pos 0) (with_ipac (pos 0) (with_feac (pos 0) s)))));
}
loan_line_of l plan e IP = record {
  payoff = pays (λ s. mul_of s.isc s.ipac);
  change = becomes (λ s. Some (with_ipac (pos 0) s));
}
loan_line_of l plan e IPCI = record {
  payoff = nothing;
  change = becomes (λ s. option_map (λ nt. with_notional l nt (with_ipac (pos 0) s)) (add_of s.nt s.ipac));
}
loan_line_of l plan e RRF = record {
  payoff = nothing;
  change = becomes (changed with_ipnr l.loan.rate_reset.next_reset_rate);
}
loan_line_of l plan e RR = record {
  payoff = nothing;
  change = becomes_by_given l.loan.rate_reset.market_object_code_of_rate_reset (λ o s. changed with_ipnr (reset_rate l.loan.rate_reset o s.ipnr) s);
}
loan_line_of l plan e PRF = record {
  payoff = nothing;
  change = becomes (λ s. changed with_prnxt (annuity_payment_at l plan e.calc s) s);
}
loan_line_of l plan e IPCB = record {
  payoff = nothing;
  change = becomes (λ s. Some (with_ipcb s.nt s));
}
loan_line_of l plan e SC = record {
  payoff = nothing;
  change = becomes_by_given l.loan.scaling.market_object_code_of_scaling_index (λ o s. changed (scaled l.loan.scaling.scaling_effect) (index_ratio o l.loan.scaling.scaling_index_at_contract_deal_date) s);
}
loan_line_of l plan e MD = record {
  payoff = pays (λ s. plus (plus (mul_of s.nsc s.nt) (mul_of s.isc s.ipac)) (Some s.feac));
  change = becomes (λ s. Some (with_notional l (pos 0) (with_ipac (pos 0) (with_feac (pos 0) s))));
}
loan_line_of l plan e other = idle_line

abbrev pub loan_line : LoanTerms → EventPlan → Event → StepLine
loan_line l plan e = loan_line_of l plan e e.kind

-- ---- the starting state

-- Prnxt at first: the given payment; of a LAM without one the notional by the number of its redemption dates and one more, rounded; else 0
abbrev pub initial_redemption_payment_by : LoanTerms → ContractType → Option ℤ → Option ℤ
initial_redemption_payment_by l type (Some payment) = Some payment
initial_redemption_payment_by l type.LAM None = option_map (λ dates. rnd l.loan.notional_principal (length dates + 1)) (redemption_dates l)
initial_redemption_payment_by l other None = Some (pos 0)

-- Prnxt at first, by the loan's terms
abbrev pub initial_redemption_payment : LoanTerms → Option ℤ
initial_redemption_payment l = initial_redemption_payment_by l l.type l.payment

-- it is started: its initial exchange isn't after the status date
abbrev pub is_started : LoanTerms → Bool
is_started l = not (int_lt l.common.status_date l.loan.initial_exchange_date)

-- u: the latest of the initial exchange and the interest dates, before they are moved, that isn't after the status date
abbrev pub accrues_from : LoanTerms → Option ℤ
accrues_from l =
    option_and_then (λ paid. option_map (λ capitalized. latest_until l.common.status_date l.loan.initial_exchange_date (paid ++ capitalized))
    (capitalization_dates l)) (interest_payment_dates l)

-- Prnxt of a started loan: of an annuity without a given payment the annuity payment at the status date
abbrev pub started_redemption_payment : LoanTerms → EventPlan → ContractType → Option ℤ → State → Option ℤ
started_redemption_payment l plan type.ANN None s = annuity_payment_at l plan l.common.status_date s
started_redemption_payment l plan other payment s = initial_redemption_payment l

-- the state of a started loan
abbrev pub started_state : LoanTerms → EventPlan → State → Option State
started_state l plan s =
    option_and_then (λ first. option_and_then (λ next. changed with_prnxt (started_redemption_payment l plan l.type l.payment next) next)
    (changed with_ipac (first_interest l l.loan.accrued_interest (Some first) l.common.status_date (exchanged l s)) (exchanged l s)))
    (accrues_from l)

-- the state that a loan begins with, where it is defined
abbrev pub loan_state : LoanTerms → EventPlan → Option State
loan_state l plan =
    let s = with_md l.maturity (first_state l.common.status_date) in
    if is_started l then started_state l plan s else changed with_prnxt (initial_redemption_payment l) s
