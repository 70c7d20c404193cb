-- What the code says of a date that is put among others.
use Rattle.std.specs.Prelude.{ℕ, ℤ, int_lt, Bool, true, List, Option, Some, None}
use Rattle.std.specs.List.{prefix_len}

-- how many dates are earlier, from the front on
abbrev pub earlier : ℤ → List ℤ → ℕ
earlier date dates = prefix_len (λ d. int_lt d date) dates

-- a date comes after the one before it, where there is one
abbrev pub is_later : Option ℤ → ℤ → Bool
is_later None date = true
is_later (Some previous) date = int_lt previous date
