-- The amounts of loans are in range: their states at first and before an event, and the lines of their events.
use Rattle.std.proofs.Common.{◌+◌, ℕ, Bool, true, false, ℤ, pos, List, [], ◌∷◌, length, Option, Some, None}
use Rattle.std.specs.Int.{int_max, int_min}
use Rattle.std.specs.Option.{IfSome, unwrap_or}
use Rattle.std.specs.Prelude.{Result, Ok, Err}
use Rattle.std.specs.Result.{result_ok}
use Rattle.act_model.specs.Bounds.{KindIsBounded, LoanIsBounded, ResetIsBounded}
use Rattle.act_model.specs.Run.{EventPlan}
use Rattle.act_model.specs.declared.choice.ContractType.{ContractType}
use Rattle.act_model.specs.declared.choice.ContractType.TheVariants as contract
use Rattle.act_model.specs.declared.choice.FeeBasis.{FeeBasis}
use Rattle.act_model.specs.declared.choice.FeeBasis.TheVariants as fee
use Rattle.act_model.specs.declared.choice.InterestCalculationBase.{InterestCalculationBase}
use Rattle.act_model.specs.declared.choice.InterestCalculationBase.TheVariants as base
use Rattle.act_model.specs.declared.choice.PenaltyType.{PenaltyType}
use Rattle.act_model.specs.declared.choice.PenaltyType.TheVariants as penalty
use Rattle.act_model.specs.declared.event.Event.{Event}
use Rattle.act_model.specs.declared.event.EventType.{EventType}
use Rattle.act_model.specs.declared.event.EventType.TheVariants as type
use Rattle.act_model.specs.declared.state.State.{State}
use Rattle.act_model.specs.declared.terms.Common.{Common}
use Rattle.act_model.specs.declared.terms.Kind.{Kind}
use Rattle.act_model.specs.declared.terms.Kind.TheVariants as kind
use Rattle.act_model.specs.declared.terms.RateReset.{RateReset}
use Rattle.act_num.specs.Number.{InRange, clip_of, mul_of}
use Rattle.act_profile.specs.Dates.{maturity_of_lam}
use Rattle.act_profile.specs.Formula.{minus, plus}
use Rattle.act_profile.specs.Loan.{accrued, accrued_fee_by, accrues_from, after_redemption, annuity_payment_at, annuity_payment_over, becomes_by_given, before_event, days_after, exchanged, fee_payoff, first_base_by, first_interest, index_ratio, initial_redemption_payment_by, interest_base, interest_since, is_started, loan_line_of, loan_state, lost_interest, own_opposite, penalty_by_rate, penalty_payoff, redeemable, redeemed, reset_rate, scaled_interest, scaled_notional, started_redemption_payment, started_state, with_base, with_notional}
use Rattle.act_profile.specs.LoanPlan.{parts_from, redemption_dates}
use Rattle.act_profile.specs.LoanTerms.{LoanTerms, base_amount_of, interest_calculation_base_of, loan_terms_of, own_sign, part_of_year}
use Rattle.act_profile.specs.Outcomes.{map_ok}
use Rattle.act_profile.specs.States.{first_state, with_feac, with_ipac, with_ipnr, with_md, with_nt, with_sd}
use Rattle.act_profile.specs.Step.{changed}
use Rattle.act_profile.specs.Steps.{loan_accrual_by, loan_line_by, loan_state_of}
use Rattle.act_bounds.proofs.Operations.{AmountHolds, add-holds, and_then-holds, annuity-holds, clip-holds, int_max-holds, int_min-holds, interest-holds, lesser-holds, map-holds, mapped-holds, minus-holds, mul-holds, neg-holds, zero-in_range, plus-holds, ratio-holds, rnd-holds, signed-holds, sub-holds, whatever-holds}
use Rattle.act_bounds.proofs.States.{ChangeHolds, LineHolds, NextHolds, PayoffHolds, StateHolds, either-holds, first_state-holds}

-- ---- terms

-- the prices of a purchase and a termination
pub record PricesHold (common : Common) : Type 0 where
  pub purchase : InRange common.price_at_purchase_date
  pub termination : InRange common.price_at_termination_date

-- the amounts of a loan's terms
pub record LoanHolds (l : LoanTerms) : Type 0 where
  pub prices : PricesHold l.common
  pub loan : LoanIsBounded l.loan
  pub base : IfSome (base_amount_of l.redemption) InRange
  pub payment : IfSome l.payment InRange

ok-holds : {A B E : Type 0} (Q : B → Type 0) (f : A → B) (result : Result A E) → ((x : A) → Q (f x)) → IfSome (result_ok (map_ok f result)) Q
ok-holds Q f (Ok x) then = then x
ok-holds Q f (Err fault) then = tt

loan_terms-hold : (common : Common) (terms : Kind) → PricesHold common → KindIsBounded terms → IfSome (loan_terms_of common terms) LoanHolds
loan_terms-hold common (kind.PAM pam) prices bounded = record { prices = prices; loan = bounded; base = tt; payment = tt }
loan_terms-hold common (kind.LAM lam) prices bounded =
    ok-holds LoanHolds _ (maturity_of_lam lam) (λ maturity. record { prices = prices; loan = bounded.own; base = bounded.base; payment = bounded.paid })
loan_terms-hold common (kind.NAM nam) prices bounded = record { prices = prices; loan = bounded.own; base = bounded.base; payment = bounded.paid }
loan_terms-hold common (kind.ANN ann) prices bounded = record { prices = prices; loan = bounded.own; base = bounded.base; payment = bounded.paid }
loan_terms-hold common other prices bounded = tt

-- ---- resets and scaling

given-holds : (amount : Option ℤ) → AmountHolds amount → InRange (unwrap_or amount (pos 0))
given-holds None holds = zero-in_range
given-holds (Some amount) holds = holds

pub reset-holds : (reset : RateReset) (observed rate : ℤ) → ResetIsBounded reset → AmountHolds (reset_rate reset observed rate)
reset-holds reset observed rate bounded =
    map-holds InRange InRange (λ r. clip_of r reset.life_floor reset.life_cap) _ (plus-holds (Some rate) _)
    (λ r holds. clip-holds r reset.life_floor reset.life_cap holds bounded.floor bounded.cap)

index-holds : (observed : ℤ) (first : Option ℤ) → AmountHolds (index_ratio observed first)
index-holds observed None = tt
index-holds observed (Some first) = ratio-holds observed first

scaled-holds : (notional interest : Bool) (i : ℤ) (s : State) → InRange i → StateHolds s → StateHolds (scaled_notional notional i (scaled_interest interest i s))
scaled-holds true true i s index state = assumption
scaled-holds true false i s index state = assumption
scaled-holds false true i s index state = assumption
scaled-holds false false i s index state = state

-- a change by a code that the terms give
pub given-change : (code : Option ℕ) (next : ℤ → State → Option State) → ((x : ℤ) (s : State) → StateHolds s → NextHolds (next x s)) → ChangeHolds (becomes_by_given code next)
given-change None next holds = λ s state. tt
given-change (Some code) next holds = holds

based-holds : (basis : InterestCalculationBase) (nt : ℤ) (s : State) → InRange nt → StateHolds s → StateHolds (with_base basis nt s)
based-holds base.NT nt s notional state = assumption
based-holds other nt s notional state = state

module _ (l : LoanTerms) (bounded : LoanHolds l) where
  -- ---- words of the tables

  own-holds : (x : ℤ) → InRange x → InRange (own_sign l x)
  own-holds x holds = signed-holds l.common.contract_role x holds

  own_opposite-holds : (x : ℤ) → InRange x → InRange (own_opposite l x)
  own_opposite-holds x holds = neg-holds (own_sign l x) (own-holds x holds)

  redeemable-holds : (s : State) → StateHolds s → InRange (redeemable l s)
  redeemable-holds s state = int_max-holds (own_sign l s.nt) (pos 0) (own-holds s.nt state.nt) zero-in_range

  notional-holds : (nt : ℤ) (s : State) → InRange nt → StateHolds s → StateHolds (with_notional l nt s)
  notional-holds nt s notional state =
      let next : StateHolds (with_nt nt s) = assumption in
      based-holds (interest_calculation_base_of l) nt (with_nt nt s) notional next

  -- ---- accruing

  fee-holds : (calc : ℤ) (s : State) (basis : Option FeeBasis) (rate : Option ℤ) → StateHolds s → AmountHolds (accrued_fee_by l calc s basis rate)
  fee-holds calc s (Some fee.N) (Some rate) state = plus-holds (Some s.feac) _
  fee-holds calc s basis rate state = state.feac

  accrued-holds : (calc : ℤ) (s : State) → StateHolds s → NextHolds (accrued l calc s)
  accrued-holds calc s state =
      and_then-holds InRange StateHolds _ _ (plus-holds (Some s.ipac) _) (λ interest i.
      map-holds InRange StateHolds _ _ (fee-holds calc s l.loan.fee.fee_basis l.loan.fee.fee_rate state) (λ amount f. assumption))

  before-holds : (what : EventType) (calc : ℤ) (s : State) → StateHolds s → NextHolds (before_event l what calc s)
  before-holds type.IED calc s state = state
  before-holds type.CE calc s state = state
  before-holds other calc s state = accrued-holds calc s state

  -- ---- the initial exchange

  first_base-holds : (basis : InterestCalculationBase) (amount : Option ℤ) (nt : ℤ) → AmountHolds amount → InRange nt → InRange (first_base_by l basis amount nt)
  first_base-holds base.NT amount nt holds notional = notional
  first_base-holds other None nt holds notional = notional
  first_base-holds other (Some amount) nt holds notional = own-holds amount holds

  exchanged-holds : (s : State) → StateHolds s → StateHolds (exchanged l s)
  exchanged-holds s state =
      let nt = own_sign l l.loan.notional_principal in
      let notional : InRange nt = own-holds l.loan.notional_principal bounded.loan.notional in
      let base = first_base-holds (interest_calculation_base_of l) (base_amount_of l.redemption) nt bounded.base notional in
      let rate = given-holds l.loan.nominal_interest_rate bounded.loan.rate in
      let fee = own-holds l.loan.fee.fee_accrued bounded.loan.fee_accrued in
      assumption

  since-holds : (first : Option ℤ) (day : ℤ) (s : State) → AmountHolds (interest_since l first day s)
  since-holds None day s = zero-in_range
  since-holds (Some first) day s = interest-holds (interest_base l.type s) s.ipnr (part_of_year l first day)

  first_interest-holds : (given first : Option ℤ) (day : ℤ) (s : State) → AmountHolds given → AmountHolds (first_interest l given first day s)
  first_interest-holds (Some interest) first day s holds = own-holds interest holds
  first_interest-holds None first day s holds = since-holds first day s

  with_interest-holds : (first : Option ℤ) (day : ℤ) (s : State) → StateHolds s → NextHolds (changed with_ipac (first_interest l l.loan.accrued_interest first day s) s)
  with_interest-holds first day s state =
      map-holds InRange StateHolds _ _ (first_interest-holds l.loan.accrued_interest first day s bounded.loan.interest) (λ interest i. assumption)

  -- ---- redemption

  redeemed-holds : (what : ContractType) (s : State) → StateHolds s → AmountHolds (redeemed l what s)
  redeemed-holds contract.LAM s state = int_min-holds s.prnxt (redeemable l s) state.prnxt (redeemable-holds s state)
  redeemed-holds other s state = lesser-holds (minus (Some s.prnxt) (Some (own_sign l s.ipac))) (Some (redeemable l s)) (minus-holds (Some s.prnxt) (Some (own_sign l s.ipac))) (redeemable-holds s state)

  prepaid-holds : (e : Event) (s : State) → InRange e.value → StateHolds s → InRange (int_min e.value (redeemable l s))
  prepaid-holds e s value state = int_min-holds e.value (redeemable l s) value (redeemable-holds s state)

  after_redemption-holds : (r : ℤ) (s : State) → StateHolds s → NextHolds (after_redemption l r s)
  after_redemption-holds r s state =
      map-holds InRange StateHolds (λ nt. with_notional l nt s) _ (sub-holds s.nt (own_sign l r)) (λ nt notional. notional-holds nt s notional state)

  -- ---- the annuity payment

  payment_over-holds : (t : ℤ) (s : State) (days : List ℤ) → AmountHolds (annuity_payment_over l t s days)
  payment_over-holds t s [] = plus-holds (Some (own_sign l s.nt)) (Some (own_sign l s.ipac))
  payment_over-holds t s (d ∷ ds) =
      whatever-holds InRange _ _ (λ a. annuity-holds (own_sign l s.nt) a s.ipnr (parts_from l d ds))

  payment_at-holds : (plan : EventPlan) (t : ℤ) (s : State) → AmountHolds (annuity_payment_at l plan t s)
  payment_at-holds plan t s = payment_over-holds t s (days_after t plan.redemptions)

  -- ---- the table of steps

  lost-holds : (calc observed : ℤ) (s : State) → AmountHolds (lost_interest l calc observed s)
  lost-holds calc observed s =
      whatever-holds InRange _ _ (λ d. map-holds InRange InRange (own_sign l) _ (interest-holds s.xa (int_max d (pos 0)) (part_of_year l calc l.maturity)) own-holds)

  by_rate-holds : (calc : ℤ) (code : Option ℕ) → PayoffHolds (penalty_by_rate l calc code)
  by_rate-holds calc None = λ s state. tt
  by_rate-holds calc (Some code) = λ x s state. lost-holds calc x s

  penalty-holds : (calc : ℤ) (what : PenaltyType) → PayoffHolds (penalty_payoff l calc what)
  penalty-holds calc penalty.O = tt
  penalty-holds calc penalty.A = λ s state. own-holds l.loan.penalty_rate bounded.loan.penalty
  penalty-holds calc penalty.N = λ s state. map-holds InRange InRange (own_sign l) _ (mul-holds s.xa l.loan.penalty_rate) own-holds
  penalty-holds calc penalty.I = by_rate-holds calc l.loan.rate_reset.market_object_code_of_rate_reset

  fee_payoff-holds : (basis : Option FeeBasis) (rate : Option ℤ) → AmountHolds rate → PayoffHolds (fee_payoff l basis rate)
  fee_payoff-holds (Some fee.N) rate holds = λ s state. state.feac
  fee_payoff-holds (Some fee.A) (Some rate) holds = λ s state. own-holds rate holds
  fee_payoff-holds basis rate holds = λ s state. tt

  ended-holds : (s : State) → StateHolds s → StateHolds (with_notional l (pos 0) s)
  ended-holds s state = notional-holds (pos 0) s zero-in_range state

  line_of-holds : (plan : EventPlan) (e : Event) (what : EventType) → InRange e.value → LineHolds (loan_line_of l plan e what)
  line_of-holds plan e type.IED value = record {
    payoff = λ s state. map-holds InRange InRange (own_opposite l) _ (add-holds l.loan.notional_principal l.loan.premium_discount_at_ied) own_opposite-holds;
    change = λ s state.
        let moved : StateHolds (with_sd e.calc s) = assumption in
        with_interest-holds _ e.calc _ (exchanged-holds (with_sd e.calc s) moved);
  }
  line_of-holds plan e type.PR value = record {
    payoff = λ s state. whatever-holds InRange _ (redeemed l l.type s) (λ r. mul-holds s.nsc (own_sign l r));
    change = λ s state. whatever-holds StateHolds _ (redeemed l l.type s) (λ r. after_redemption-holds r s state);
  }
  line_of-holds plan e type.PP value = record {
    payoff = λ s state. own-holds _ (prepaid-holds e s value state);
    change = λ s state.
        let prepaid = prepaid-holds e s value state in
        map-holds StateHolds StateHolds _ _ (after_redemption-holds (int_min e.value (redeemable l s)) s state) (λ next after. assumption);
  }
  line_of-holds plan e type.PY value = record { payoff = penalty-holds e.calc l.loan.penalty_type; change = tt }
  line_of-holds plan e type.FP value = record {
    payoff = fee_payoff-holds l.loan.fee.fee_basis l.loan.fee.fee_rate bounded.loan.fee;
    change = λ s state. assumption zero-in_range;
  }
  line_of-holds plan e type.PRD value = record { payoff = λ s state. sub-holds _ s.ipac; change = tt }
  line_of-holds plan e type.TD value = record {
    payoff = λ s state. add-holds _ s.ipac;
    change = λ s state. ended-holds (with_ipnr (pos 0) (with_ipac (pos 0) (with_feac (pos 0) s))) (assumption zero-in_range);
  }
  line_of-holds plan e type.IP value = record { payoff = λ s state. mul-holds s.isc s.ipac; change = λ s state. assumption zero-in_range }
  line_of-holds plan e type.IPCI value = record {
    payoff = tt;
    change = λ s state. map-holds InRange StateHolds _ _ (add-holds s.nt s.ipac) (λ nt notional. notional-holds nt (with_ipac (pos 0) s) notional (assumption zero-in_range));
  }
  line_of-holds plan e type.RRF value = record {
    payoff = tt;
    change = λ s state. map-holds InRange StateHolds _ l.loan.rate_reset.next_reset_rate bounded.loan.reset.next (λ rate r. assumption);
  }
  line_of-holds plan e type.RR value = record {
    payoff = tt;
    change = given-change l.loan.rate_reset.market_object_code_of_rate_reset _ (λ o s state.
        map-holds InRange StateHolds _ _ (reset-holds l.loan.rate_reset o s.ipnr bounded.loan.reset) (λ rate r. assumption));
  }
  line_of-holds plan e type.PRF value = record {
    payoff = tt;
    change = λ s state. map-holds InRange StateHolds _ _ (payment_at-holds plan e.calc s) (λ payment p. assumption);
  }
  line_of-holds plan e type.IPCB value = record { payoff = tt; change = λ s state. assumption }
  line_of-holds plan e type.SC value = record {
    payoff = tt;
    change = given-change l.loan.scaling.market_object_code_of_scaling_index _ (λ o s state.
        map-holds InRange StateHolds _ _ (index-holds o l.loan.scaling.scaling_index_at_contract_deal_date) (λ i index. scaled-holds l.loan.scaling.scaling_effect.notional l.loan.scaling.scaling_effect.interest i s index state));
  }
  line_of-holds plan e type.MD value = record {
    payoff = λ s state. plus-holds (plus (mul_of s.nsc s.nt) (mul_of s.isc s.ipac)) (Some s.feac);
    change = λ s state. ended-holds (with_ipac (pos 0) (with_feac (pos 0) s)) (assumption zero-in_range);
  }
  line_of-holds plan e other value = record { payoff = tt; change = tt }

  -- ---- the starting state

  initial_payment-holds : (what : ContractType) (payment : Option ℤ) → AmountHolds payment → AmountHolds (initial_redemption_payment_by l what payment)
  initial_payment-holds what (Some payment) holds = holds
  initial_payment-holds contract.LAM None holds =
      mapped-holds InRange _ (redemption_dates l) (λ dates. rnd-holds l.loan.notional_principal (length dates + 1) bounded.loan.notional)
  initial_payment-holds other None holds = zero-in_range

  started_payment-holds : (plan : EventPlan) (what : ContractType) (payment : Option ℤ) (s : State) → AmountHolds (started_redemption_payment l plan what payment s)
  started_payment-holds plan contract.ANN None s = payment_at-holds plan l.common.status_date s
  started_payment-holds plan other payment s = initial_payment-holds l.type l.payment bounded.payment

  started-holds : (plan : EventPlan) (s : State) → StateHolds s → NextHolds (started_state l plan s)
  started-holds plan s state =
      whatever-holds StateHolds _ (accrues_from l) (λ first.
      and_then-holds StateHolds StateHolds _ _ (with_interest-holds (Some first) l.common.status_date (exchanged l s) (exchanged-holds s state)) (λ next after.
      map-holds InRange StateHolds _ _ (started_payment-holds plan l.type l.payment next) (λ payment p. assumption)))

  loan_state-holds : (plan : EventPlan) → NextHolds (loan_state l plan)
  loan_state-holds plan =
      let first = first_state-holds l.common.status_date in
      let s = with_md l.maturity (first_state l.common.status_date) in
      let state : StateHolds s = assumption in
      either-holds (is_started l) _ _ (started-holds plan s state)
      (map-holds InRange StateHolds _ _ (initial_payment-holds l.type l.payment bounded.payment) (λ payment p. assumption))

-- ---- by kind

line_by-holds : (plan : EventPlan) (e : Event) (terms : Option LoanTerms) → IfSome terms LoanHolds → InRange e.value → LineHolds (loan_line_by plan e terms)
line_by-holds plan e None bounded value = record { payoff = tt; change = tt }
line_by-holds plan e (Some l) bounded value = line_of-holds l bounded plan e e.kind value

accrual_by-holds : (e : Event) (terms : Option LoanTerms) (s : State) → IfSome terms LoanHolds → StateHolds s → NextHolds (loan_accrual_by e terms s)
accrual_by-holds e None s bounded state = tt
accrual_by-holds e (Some l) s bounded state = before-holds l bounded e.kind e.calc s state

state_of-holds : (plan : EventPlan) (terms : Option LoanTerms) → IfSome terms LoanHolds → NextHolds (loan_state_of plan terms)
state_of-holds plan None bounded = tt
state_of-holds plan (Some l) bounded = loan_state-holds l bounded plan

module _ (common : Common) (terms : Kind) (prices : PricesHold common) (bounded : KindIsBounded terms) where
  pub loan_line-holds : (plan : EventPlan) (e : Event) → InRange e.value → LineHolds (loan_line_by plan e (loan_terms_of common terms))
  loan_line-holds plan e value = line_by-holds plan e (loan_terms_of common terms) (loan_terms-hold common terms prices bounded) value

  pub loan_accrual-holds : (e : Event) (s : State) → StateHolds s → NextHolds (loan_accrual_by e (loan_terms_of common terms) s)
  loan_accrual-holds e s state = accrual_by-holds e (loan_terms_of common terms) s (loan_terms-hold common terms prices bounded) state

  pub first_loan-holds : (plan : EventPlan) → NextHolds (loan_state_of plan (loan_terms_of common terms))
  first_loan-holds plan = state_of-holds plan (loan_terms_of common terms) (loan_terms-hold common terms prices bounded)
