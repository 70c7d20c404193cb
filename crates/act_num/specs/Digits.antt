-- Digits with leading zeros.
use Rattle.std.specs.Prelude.{ℕ, zero, suc, ◌+◌, ◌/◌, ◌%◌, List, [], ◌∷◌, ◌++◌}

-- the last k decimal digits of n as text, leading zeros included
abbrev pub padded_digits : ℕ → ℕ → List ℕ
padded_digits zero n = []
padded_digits (suc k) n = padded_digits k (n / 10) ++ (48 + n % 10) ∷ []
