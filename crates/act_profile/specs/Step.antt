-- A step: what an event pays and the state that it leaves, or why the run stops there. ACTUS has payoff and state transition functions; the
-- form of a line, the order of reads and what an undefined amount brings about are this profile's own.
use Rattle.std.specs.Prelude.{ℕ, Bool, true, false, ℤ, pos, List, Option, Some, None, option_map, option_and_then, Result, Err}
use Rattle.std.specs.Option.{ok_or}
use Rattle.act_num.specs.Number.{mul_of}
use Rattle.act_model.specs.Observed.{observation}
use Rattle.act_model.specs.declared.event.Event.{Event}
use Rattle.act_model.specs.declared.observed.Obs.{Obs}
use Rattle.act_model.specs.declared.run.Stop.{Stop}
use Rattle.act_model.specs.declared.run.Stop.TheVariants.{Missing, Overflow}
use Rattle.act_model.specs.declared.state.State.{State}

-- ---- a line of the table of steps

-- what an event pays before the settlement factor: nothing, where the table writes 0; an amount; or an amount by the value of a code
pub data Payoff : Type 0 where
  nothing : Payoff
  pays : (State → Option ℤ) → Payoff
  pays_by : ℕ → (ℤ → State → Option ℤ) → Payoff

-- what an event makes of the state: the same; another; or another by the value of a code
pub data Change : Type 0 where
  keeps : Change
  becomes : (State → Option State) → Change
  becomes_by : ℕ → (ℤ → State → Option State) → Change

-- a line of the table: both are of the state that has accrued up to the event
pub record StepLine : Type 0 where
  pub payoff : Payoff
  pub change : Change

-- the state with one amount changed, where that amount is defined
abbrev pub changed : (ℤ → State → State) → Option ℤ → State → Option State
changed set amount s = option_map (λ x. set x s) amount

-- a line that pays and changes nothing
abbrev pub idle_line : StepLine
idle_line = record { payoff = nothing; change = keeps }

-- ---- reads

-- what follows from the value of a code on a day, or a stop where it is missing
abbrev pub with_value : {A : Type 0} → ℕ → ℤ → Option ℤ → (ℤ → Result A Stop) → Result A Stop
with_value code day None follows = Err (Missing code day)
with_value code day (Some value) follows = follows value

-- what follows from the value of a code on a day, where there is a code to read
abbrev pub reading : {A : Type 0} → List Obs → ℤ → Option ℕ → (Option ℤ → Result A Stop) → Result A Stop
reading entries day None follows = follows None
reading entries day (Some code) follows = with_value code day (observation entries code day) (λ value. follows (Some value))

-- the code that a payoff reads
abbrev pub payoff_code : Payoff → Option ℕ
payoff_code nothing = None
payoff_code (pays amount) = None
payoff_code (pays_by code amount) = Some code

-- the code that a change reads
abbrev pub change_code : Change → Option ℕ
change_code keeps = None
change_code (becomes next) = None
change_code (becomes_by code next) = Some code

-- the settlement factor is read only by a payoff that isn't written as 0
abbrev pub factor_code : Option ℕ → Payoff → Option ℕ
factor_code factor nothing = None
factor_code factor (pays amount) = factor
factor_code factor (pays_by code amount) = factor

-- ---- amounts

-- the payoff before the settlement factor, by the value read
abbrev pub amount_of : Payoff → Option ℤ → State → Option ℤ
amount_of nothing value s = Some (pos 0)
amount_of (pays amount) value s = amount s
amount_of (pays_by code amount) value s = option_and_then (λ x. amount x s) value

-- the payoff, multiplied with the settlement factor where there is one
abbrev pub settled : Option ℤ → ℤ → Option ℤ
settled None p = Some p
settled (Some factor) p = mul_of factor p

-- the state after the event, by the value read
abbrev pub state_after : Change → Option ℤ → State → Option State
state_after keeps value s = Some s
state_after (becomes next) value s = next s
state_after (becomes_by code next) value s = option_and_then (λ x. next x s) value

-- the payoff and the state after the event, of the state that has accrued
abbrev pub outcome : StepLine → Option ℤ → Option ℤ → Option ℤ → State → Option (ℤ × State)
outcome line factor value other s =
    option_and_then (λ p. option_map (λ next. (p, next)) (state_after line.change other s))
    (option_and_then (settled factor) (amount_of line.payoff value s))

-- ---- the step

-- an event before a purchase pays nothing, and changes the state as ever
abbrev pub unpaid : Bool → StepLine → StepLine
unpaid true line = record { payoff = nothing; change = line.change }
unpaid false line = line

-- the step of a line: first its reads, the settlement factor before the others, then the accrual, the payoff and the change. An undefined
-- amount is an overflow
abbrev pub step_by : List Obs → Option ℕ → Event → (State → Option State) → StepLine → State → Result (ℤ × State) Stop
step_by entries factor event accrue line s =
    reading entries event.day (factor_code factor line.payoff) (λ x.
    reading entries event.day (payoff_code line.payoff) (λ value.
    reading entries event.day (change_code line.change) (λ other.
    ok_or (option_and_then (outcome line x value other) (accrue s)) (Overflow event.day event.kind))))
