-- A fraction of a year.
use Rattle.std.specs.Prelude.{ℕ}

pub record Fraction : Type 0 where
  pub num : ℕ
  pub den : ℕ
