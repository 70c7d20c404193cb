-- What the code of a step answers.
use Rattle.std.specs.Prelude.{◌≡◌, ℕ, ◌+◌, ℤ, Result, IfOk, IfErr}
use Rattle.act_model.specs.declared.run.Stop.{Stop}
use Rattle.act_model.specs.declared.state.State.{State}
use Rattle.act_profile.specs.Outcomes.{map_ok}

-- a step answers this, in one tick of a counter where it is Ok and in none where it is a stop
pub record Takes {A : Type 0} (result answer : Result A Stop) (before after : ℕ) : Type 0 where
  pub value : result ≡ answer
  pub ticked : IfOk result (λ _. after ≡ before + 1)
  pub unticked : IfErr result (λ _. after ≡ before)

-- a payoff, with the state that is left; or a stop
abbrev pub with_state : State → Result ℤ Stop → Result (ℤ × State) Stop
with_state state taken = map_ok (λ payoff. (payoff, state)) taken
