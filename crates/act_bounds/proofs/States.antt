-- States and lines of the table of steps whose amounts are in range, and the step of such a line.
use Rattle.std.proofs.Common.{cond, ℕ, Bool, true, false, ℤ, pos, List, Option, Some, None, Result, arith}
use Rattle.std.specs.Option.{IfSome, ok_or}
use Rattle.std.specs.Result.{IfOk}
use Rattle.act_model.specs.Observed.{observation}
use Rattle.act_model.specs.declared.event.Event.{Event}
use Rattle.act_model.specs.declared.observed.Obs.{Obs}
use Rattle.act_model.specs.declared.run.Stop.{Stop}
use Rattle.act_model.specs.declared.run.Stop.TheVariants.{Overflow}
use Rattle.act_model.specs.declared.state.State.{State}
use Rattle.act_num.specs.Number.{InRange, one}
use Rattle.act_profile.specs.States.{first_state}
use Rattle.act_profile.specs.Step.{Change, Payoff, StepLine, amount_of, becomes, becomes_by, change_code, factor_code, keeps, nothing, outcome, payoff_code, pays, pays_by, reading, settled, state_after, step_by, unpaid, with_value}
use Rattle.act_bounds.proofs.Operations.{AmountHolds, and_then-holds, map-holds, mul-holds, zero-in_range, whatever-holds}

-- ---- states

-- the amounts of a state are in range
pub record StateHolds (s : State) : Type 0 where
  pub nt : InRange s.nt
  pub ipnr : InRange s.ipnr
  pub ipac : InRange s.ipac
  pub ipnr2 : InRange s.ipnr2
  pub ipac2 : InRange s.ipac2
  pub feac : InRange s.feac
  pub nsc : InRange s.nsc
  pub isc : InRange s.isc
  pub ipcb : InRange s.ipcb
  pub prnxt : InRange s.prnxt
  pub xa : InRange s.xa

-- those of a state that may be undefined
abbrev pub NextHolds : Option State → Type 0
NextHolds next = IfSome next StateHolds

pub either-holds : (test : Bool) (first second : Option State) → NextHolds first → NextHolds second → NextHolds (cond test first second)
either-holds true first second holds other = holds
either-holds false first second holds other = other

-- a payoff and those of the state after it
abbrev pub TakenHolds : ℤ × State → Type 0
TakenHolds taken = InRange taken.0 × StateHolds taken.1

pub first_state-holds : (status_date : ℤ) → StateHolds (first_state status_date)
first_state-holds status_date =
    let unscaled : InRange (pos one) = omega arith in
    assumption (zero-in_range, unscaled)

-- ---- lines

-- what is paid of states in range is in range, whatever value is read
abbrev pub PayoffHolds : Payoff → Type 0
PayoffHolds nothing = Unit {0}
PayoffHolds (pays amount) = (s : State) → StateHolds s → AmountHolds (amount s)
PayoffHolds (pays_by code amount) = (x : ℤ) (s : State) → StateHolds s → AmountHolds (amount x s)

-- so is what such states become
abbrev pub ChangeHolds : Change → Type 0
ChangeHolds keeps = Unit {0}
ChangeHolds (becomes next) = (s : State) → StateHolds s → NextHolds (next s)
ChangeHolds (becomes_by code next) = (x : ℤ) (s : State) → StateHolds s → NextHolds (next x s)

-- both of a line
pub record LineHolds (line : StepLine) : Type 0 where
  pub payoff : PayoffHolds line.payoff
  pub change : ChangeHolds line.change

pub unpaid-holds : (before : Bool) (line : StepLine) → LineHolds line → LineHolds (unpaid before line)
unpaid-holds true line holds = record { payoff = tt; change = holds.change }
unpaid-holds false line holds = holds

-- ---- the step of a line

amount-holds : (payoff : Payoff) (value : Option ℤ) (s : State) → PayoffHolds payoff → StateHolds s → AmountHolds (amount_of payoff value s)
amount-holds nothing value s holds state = zero-in_range
amount-holds (pays amount) value s holds state = holds s state
amount-holds (pays_by code amount) value s holds state = whatever-holds InRange (λ x. amount x s) value (λ x. holds x s state)

settled-holds : (factor : Option ℤ) (p : ℤ) → InRange p → AmountHolds (settled factor p)
settled-holds None p holds = holds
settled-holds (Some factor) p holds = mul-holds factor p

after-holds : (change : Change) (value : Option ℤ) (s : State) → ChangeHolds change → StateHolds s → NextHolds (state_after change value s)
after-holds keeps value s holds state = state
after-holds (becomes next) value s holds state = holds s state
after-holds (becomes_by code next) value s holds state = whatever-holds StateHolds (λ x. next x s) value (λ x. holds x s state)

outcome-holds : (line : StepLine) (factor value other : Option ℤ) (s : State) → LineHolds line → StateHolds s → IfSome (outcome line factor value other s) TakenHolds
outcome-holds line factor value other s holds state =
    and_then-holds InRange TakenHolds _ _
    (and_then-holds InRange InRange (settled factor) _ (amount-holds line.payoff value s holds.payoff state) (settled-holds factor))
    (λ p paid. map-holds StateHolds TakenHolds (λ next. (p, next)) _ (after-holds line.change other s holds.change state) (λ next after. (paid, after)))

module _ {A : Type 0} (P : A → Type 0) where
  pub value-holds : (code : ℕ) (day : ℤ) (value : Option ℤ) (follows : ℤ → Result A Stop) → ((x : ℤ) → IfOk (follows x) P) → IfOk (with_value code day value follows) P
  value-holds code day None follows holds = tt
  value-holds code day (Some x) follows holds = holds x

  reading-holds : (entries : List Obs) (day : ℤ) (code : Option ℕ) (follows : Option ℤ → Result A Stop) → ((x : Option ℤ) → IfOk (follows x) P) → IfOk (reading entries day code follows) P
  reading-holds entries day None follows holds = holds None
  reading-holds entries day (Some code) follows holds = value-holds code day (observation entries code day) (λ x. follows (Some x)) (λ x. holds (Some x))

  pub ok_or-holds : (value : Option A) (stop : Stop) → IfSome value P → IfOk (ok_or value stop) P
  ok_or-holds None stop holds = tt
  ok_or-holds (Some x) stop holds = holds

pub step_by-holds : (entries : List Obs) (factor : Option ℕ) (event : Event) (accrue : State → Option State) (line : StepLine) (s : State) → LineHolds line → NextHolds (accrue s) → IfOk (step_by entries factor event accrue line s) TakenHolds
step_by-holds entries factor event accrue line s holds accrued =
    reading-holds TakenHolds entries event.day (factor_code factor line.payoff) _ (λ x.
    reading-holds TakenHolds entries event.day (payoff_code line.payoff) _ (λ value.
    reading-holds TakenHolds entries event.day (change_code line.change) _ (λ other.
    ok_or-holds TakenHolds _ (Overflow event.day event.kind)
    (and_then-holds StateHolds TakenHolds (outcome line x value other) (accrue s) accrued (λ next state. outcome-holds line x value other next holds state)))))
