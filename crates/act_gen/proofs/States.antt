-- The states of a seed.
use Rattle.std.proofs.Common.{◌≡◌, ℕ, ◌+◌, refl, add-one}
use Rattle.act_gen.specs.Draws.{next_state, state}

pub first_state : (seed : ℕ) → state seed 0 ≡ seed
unfolding state
first_state seed = refl

pub later_state : (seed k : ℕ) → state seed (k + 1) ≡ next_state (state seed k)
unfolding state
later_state seed k = rw add-one refl
