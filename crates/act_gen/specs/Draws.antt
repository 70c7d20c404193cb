-- Whole numbers drawn from a seed. This profile's own.
use Rattle.std.specs.Prelude.{ℕ, zero, suc, ◌+◌, ◌*◌, ◌/◌, ◌%◌, ◌^◌}

-- the state that follows a state, a number of 64 bits
abbrev pub next_state : ℕ → ℕ
next_state x = (x * 6364136223846793005 + 1442695040888963407) % 2 ^ 64

-- the states of a seed: the seed itself, and then each the next of the one before it
unfoldable pub state : ℕ → ℕ → ℕ
state seed zero = seed
state seed (suc k) = next_state (state seed k)

-- the kth draw from a seed, counted from 1, as a number below m: the leading 31 bits of the kth state, modulo m
unfoldable pub draw : ℕ → ℕ → ℕ → ℕ
draw seed k m = state seed k / 2 ^ 33 % m
