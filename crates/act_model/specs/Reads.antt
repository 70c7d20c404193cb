-- What evaluations read. This profile's own.
use Rattle.std.specs.Prelude.{ℕ, List}

-- the codes that are read, and the contracts whose events are observed
pub record Readings : Type 0 where
  pub codes : List ℕ
  pub contracts : List ℕ
