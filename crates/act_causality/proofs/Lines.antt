-- The codes that the lines of the tables of steps read: those that the contract reads by its terms.
use Rattle.std.proofs.Common.{◌≡◌, ◌||◌, ℕ, Bool, true, false, ℤ, List, [], ◌∷◌, Option, Some, None, Result, Ok, Err, refl}
use Rattle.std.specs.Result.{result_ok}
use Rattle.act_model.specs.Kind.{loan_of}
use Rattle.act_model.specs.Run.{EventPlan, Stream}
use Rattle.std.specs.Prelude.{option_and_then}
use Rattle.act_model.specs.declared.choice.ContractType.TheVariants as contract
use Rattle.act_model.specs.declared.terms.Ann.{Ann}
use Rattle.act_model.specs.declared.terms.Nam.{Nam}
use Rattle.act_model.specs.declared.terms.Pam.{Pam}
use Rattle.act_model.specs.declared.choice.FeeBasis.{FeeBasis}
use Rattle.act_model.specs.declared.choice.FeeBasis.TheVariants as fee
use Rattle.act_model.specs.declared.choice.PenaltyType.{PenaltyType}
use Rattle.act_model.specs.declared.choice.PenaltyType.TheVariants as penalty
use Rattle.act_model.specs.declared.event.Event.{Event}
use Rattle.act_model.specs.declared.event.EventType.{EventType}
use Rattle.act_model.specs.declared.event.EventType.TheVariants as type
use Rattle.act_model.specs.declared.run.PlanFault.{PlanFault}
use Rattle.act_model.specs.declared.state.State.{State}
use Rattle.act_model.specs.declared.terms.Common.{Common}
use Rattle.act_model.specs.declared.terms.Fxout.{Fxout}
use Rattle.act_model.specs.declared.terms.Futur.{Futur}
use Rattle.act_model.specs.declared.terms.Kind.{Kind}
use Rattle.act_model.specs.declared.terms.Kind.TheVariants as kind
use Rattle.act_model.specs.declared.terms.Lam.{Lam}
use Rattle.act_model.specs.declared.terms.Loan.{Loan}
use Rattle.act_model.specs.declared.terms.Optns.{Optns}
use Rattle.act_model.specs.declared.terms.Swppv.{Swppv}
use Rattle.act_profile.specs.Credit.{credit_line}
use Rattle.act_profile.specs.Dates.{maturity_of_lam}
use Rattle.act_profile.specs.Equity.{outright_line, settled_difference, stock_line}
use Rattle.act_profile.specs.Exercise.{future_line, option_line}
use Rattle.act_profile.specs.Loan.{becomes_by_given, fee_payoff, loan_line_of, penalty_by_rate, penalty_payoff}
use Rattle.act_profile.specs.LoanTerms.{LoanTerms}
use Rattle.act_profile.specs.Order.{is_own, is_type}
use Rattle.act_profile.specs.Outcomes.{map_ok}
use Rattle.act_profile.specs.Reads.{given_code, kind_codes, loan_codes, scaling_codes}
use Rattle.act_profile.specs.Step.{StepLine, change_code, payoff_code}
use Rattle.act_profile.specs.Steps.{line_by, loan_line_by, own_or_row_line}
use Rattle.act_profile.specs.Swap.{plain_swap_line}
use Rattle.act_profile.specs.Trade.{trade_line}
use Rattle.act_causality.proofs.Steps.{IsRead, LineReads, given-read, in_first, in_second, read-more}

-- ---- what all kinds share

-- something of the loan is scaled
abbrev pub IsScaled : Loan → Type 0
IsScaled loan = (loan.scaling.scaling_effect.interest || loan.scaling.scaling_effect.notional) ≡ true

given-change : (code : Option ℕ) (next : ℤ → State → Option State) → IsRead (given_code code) (change_code (becomes_by_given code next))
given-change None next = tt
given-change (Some code) next = given-read (Some code)

trade-reads : (codes : List ℕ) (common : Common) (what : EventType) → LineReads codes (trade_line common what)
trade-reads codes common type.PRD = record { payoff = tt; change = tt }
trade-reads codes common type.TD = record { payoff = tt; change = tt }
trade-reads codes common other = record { payoff = tt; change = tt }

-- ---- loans

abbrev pub pam_terms : Common → Pam → LoanTerms
pam_terms common pam = record { type = contract.PAM; common = common; loan = pam.loan; redemption = None; payment = None; maturity = pam.maturity_date }

abbrev pub lam_terms : Common → Lam → ℤ → LoanTerms
lam_terms common lam maturity = record { type = contract.LAM; common = common; loan = lam.loan; redemption = Some lam.redemption; payment = lam.next_principal_redemption_payment; maturity = maturity }

abbrev pub nam_terms : Common → Nam → LoanTerms
nam_terms common nam = record { type = contract.NAM; common = common; loan = nam.loan; redemption = Some nam.redemption; payment = Some nam.next_principal_redemption_payment; maturity = nam.maturity_date }

abbrev pub ann_terms : Common → Ann → LoanTerms
ann_terms common ann = record { type = contract.ANN; common = common; loan = ann.loan; redemption = Some ann.redemption; payment = ann.next_principal_redemption_payment; maturity = ann.maturity_date }

rate-read : (l : LoanTerms) (calc : ℤ) (code : Option ℕ) → IsRead (given_code code) (payoff_code (penalty_by_rate l calc code))
rate-read l calc None = tt
rate-read l calc (Some code) = given-read (Some code)

reset-in : (l : LoanTerms) (code : Option ℕ) → IsRead (given_code l.loan.rate_reset.market_object_code_of_rate_reset) code → IsRead (loan_codes l.loan) code
reset-in l code is =
    read-more (given_code l.loan.rate_reset.market_object_code_of_rate_reset) (loan_codes l.loan) (in_first (given_code l.loan.rate_reset.market_object_code_of_rate_reset) (scaling_codes l.loan)) code is

scaling-in : (l : LoanTerms) (code : Option ℕ) → IsScaled l.loan → IsRead (given_code l.loan.scaling.market_object_code_of_scaling_index) code → IsRead (loan_codes l.loan) code
scaling-in l code scaled is =
    let same : scaling_codes l.loan ≡ given_code l.loan.scaling.market_object_code_of_scaling_index = rw scaled refl in
    read-more (given_code l.loan.scaling.market_object_code_of_scaling_index) (loan_codes l.loan)
    (λ c within. in_second (given_code l.loan.rate_reset.market_object_code_of_rate_reset) (scaling_codes l.loan) c (rw same within)) code is

penalty-read : (l : LoanTerms) (calc : ℤ) (what : PenaltyType) → IsRead (loan_codes l.loan) (payoff_code (penalty_payoff l calc what))
penalty-read l calc penalty.O = tt
penalty-read l calc penalty.A = tt
penalty-read l calc penalty.N = tt
penalty-read l calc penalty.I =
    reset-in l (payoff_code (penalty_by_rate l calc l.loan.rate_reset.market_object_code_of_rate_reset)) (rate-read l calc l.loan.rate_reset.market_object_code_of_rate_reset)

fee-read : (l : LoanTerms) (codes : List ℕ) (basis : Option FeeBasis) (rate : Option ℤ) → IsRead codes (payoff_code (fee_payoff l basis rate))
fee-read l codes (Some fee.N) rate = tt
fee-read l codes (Some fee.A) (Some rate) = tt
fee-read l codes basis rate = tt

-- a loan's line reads the reset code, and the scaling code at a scaling
loan-reads : (l : LoanTerms) (plan : EventPlan) (e : Event) (what : EventType) → (is_type what type.SC ≡ true → IsScaled l.loan) → LineReads (loan_codes l.loan) (loan_line_of l plan e what)
loan-reads l plan e type.PY scaled = record { payoff = penalty-read l e.calc l.loan.penalty_type; change = tt }
loan-reads l plan e type.FP scaled = record { payoff = fee-read l (loan_codes l.loan) l.loan.fee.fee_basis l.loan.fee.fee_rate; change = tt }
loan-reads l plan e type.RR scaled = record { payoff = tt; change = reset-in l _ (given-change l.loan.rate_reset.market_object_code_of_rate_reset _) }
loan-reads l plan e type.SC scaled = record { payoff = tt; change = scaling-in l _ (scaled refl) (given-change l.loan.scaling.market_object_code_of_scaling_index _) }
loan-reads l plan e other scaled = record { payoff = tt; change = tt }

-- the terms of a loan that has a plan, by its kind
lam-reads : (common : Common) (lam : Lam) (plan : EventPlan) (e : Event) (maturity : Result ℤ PlanFault) → (is_type e.kind type.SC ≡ true → IsScaled lam.loan) →
    LineReads (loan_codes lam.loan) (loan_line_by plan e (option_and_then result_ok (Some (map_ok (λ (day : ℤ). lam_terms common lam day) maturity))))
lam-reads common lam plan e (Ok maturity) scaled = loan-reads (lam_terms common lam maturity) plan e e.kind scaled
lam-reads common lam plan e (Err fault) scaled = record { payoff = tt; change = tt }

-- ---- the other kinds

stock-reads : (codes : List ℕ) (common : Common) (e : Event) (what : EventType) → LineReads codes (stock_line common e what)
stock-reads codes common e type.DV = record { payoff = tt; change = tt }
stock-reads codes common e what = trade-reads codes common what

difference-read : (common : Common) (fxout : Fxout) (pair : Option ℕ) → IsRead (given_code pair) (payoff_code (settled_difference common fxout pair))
difference-read common fxout None = tt
difference-read common fxout (Some pair) = given-read (Some pair)

outright-reads : (common : Common) (fxout : Fxout) (e : Event) (what : EventType) → LineReads (given_code fxout.pair) (outright_line common fxout e what)
outright-reads common fxout e type.MD = record { payoff = tt; change = tt }
outright-reads common fxout e type.STD = record { payoff = difference-read common fxout fxout.pair; change = tt }
outright-reads common fxout e what = trade-reads (given_code fxout.pair) common what

plain_swap-reads : (common : Common) (swap : Swppv) (e : Event) (what : EventType) → LineReads (given_code swap.rate_reset.market_object_code_of_rate_reset) (plain_swap_line common swap e what)
plain_swap-reads common swap e type.IED = record { payoff = tt; change = tt }
plain_swap-reads common swap e type.TD = record { payoff = tt; change = tt }
plain_swap-reads common swap e type.IP = record { payoff = tt; change = tt }
plain_swap-reads common swap e type.RRF = record { payoff = tt; change = tt }
plain_swap-reads common swap e type.RR = record { payoff = tt; change = given-change swap.rate_reset.market_object_code_of_rate_reset _ }
plain_swap-reads common swap e type.MD = record { payoff = tt; change = tt }
plain_swap-reads common swap e what = trade-reads (given_code swap.rate_reset.market_object_code_of_rate_reset) common what

option-reads : (common : Common) (optns : Optns) (e : Event) (what : EventType) → LineReads (optns.underlying ∷ []) (option_line common optns e what)
option-reads common optns e type.XD = record { payoff = tt; change = given-read (Some optns.underlying) }
option-reads common optns e type.STD = record { payoff = tt; change = tt }
option-reads common optns e what = trade-reads (optns.underlying ∷ []) common what

future-reads : (common : Common) (futur : Futur) (e : Event) (what : EventType) → LineReads (futur.underlying ∷ []) (future_line common futur e what)
future-reads common futur e type.XD = record { payoff = tt; change = given-read (Some futur.underlying) }
future-reads common futur e type.STD = record { payoff = tt; change = tt }
future-reads common futur e what = trade-reads (futur.underlying ∷ []) common what

credit-reads : (codes : List ℕ) (common : Common) (what : EventType) → LineReads codes (credit_line common what)
credit-reads codes common type.STD = record { payoff = tt; change = tt }
credit-reads codes common other = record { payoff = tt; change = tt }

row-reads : (codes : List ℕ) (is_own_event : Bool) (own row : StepLine) → LineReads codes own → LineReads codes row → LineReads codes (own_or_row_line is_own_event own row)
row-reads codes true own row first second = first
row-reads codes false own row first second = second

-- ---- any kind

-- something of the contract is scaled, where it is a loan
abbrev pub ScaledLoan : Option Loan → Type 0
ScaledLoan None = Unit {0}
ScaledLoan (Some loan) = IsScaled loan

-- the line of a contract's event reads only codes that the contract reads by its terms
pub kind-reads : (common : Common) (contract : Kind) (plan : EventPlan) (children : List Stream) (e : Event) → (is_type e.kind type.SC ≡ true → ScaledLoan (loan_of contract)) →
    LineReads (kind_codes contract) (line_by common contract plan children e)
kind-reads common (kind.PAM pam) plan children e scaled = loan-reads (pam_terms common pam) plan e e.kind scaled
kind-reads common (kind.LAM lam) plan children e scaled = lam-reads common lam plan e (maturity_of_lam lam) scaled
kind-reads common (kind.NAM nam) plan children e scaled = loan-reads (nam_terms common nam) plan e e.kind scaled
kind-reads common (kind.ANN ann) plan children e scaled = loan-reads (ann_terms common ann) plan e e.kind scaled
kind-reads common (kind.STK stk) plan children e scaled = stock-reads [] common e e.kind
kind-reads common (kind.FXOUT fxout) plan children e scaled = outright-reads common fxout e e.kind
kind-reads common (kind.SWPPV swppv) plan children e scaled = plain_swap-reads common swppv e e.kind
kind-reads common (kind.SWAPS swaps) plan children e scaled = row-reads [] (is_own e.source) _ _ (trade-reads [] common e.kind) (record { payoff = tt; change = tt })
kind-reads common (kind.CAPFL capfl) plan children e scaled = row-reads [] (is_own e.source) _ _ (trade-reads [] common e.kind) (record { payoff = tt; change = tt })
kind-reads common (kind.OPTNS optns) plan children e scaled = option-reads common optns e e.kind
kind-reads common (kind.FUTUR futur) plan children e scaled = future-reads common futur e e.kind
kind-reads common (kind.CEG ceg) plan children e scaled = credit-reads (kind_codes (kind.CEG ceg)) common e.kind
kind-reads common (kind.CEC cec) plan children e scaled = credit-reads (kind_codes (kind.CEC cec)) common e.kind
