-- Counts of faults. They never fall, and stop at the last value of a counter.
use Rattle.std.specs.Prelude.{ℕ, ◌+◌, ◌==◌, if◌then◌else◌}

-- the last value of a counter: 2^64 - 1
abbrev pub last_count : ℕ
last_count = 18446744073709551615

-- a counter goes up by one, as far as its last value
abbrev pub next_count : ℕ → ℕ
next_count n = if n == last_count then n else n + 1
