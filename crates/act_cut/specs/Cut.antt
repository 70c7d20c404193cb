-- What a cut asks of what is read, and how it is found day by day.
use Rattle.std.specs.Prelude.{ℤ, Option, Some, None}
use Rattle.std.specs.Int.{int_min}
use Rattle.std.specs.List.Sorted.{IsStrictlyIncreasing}
use Rattle.act_model.specs.Reads.{Readings}

-- the codes ascend, each once, and so do the contracts
pub record AreAscending (reads : Readings) : Type 0 where
  pub codes : IsStrictlyIncreasing reads.codes
  pub contracts : IsStrictlyIncreasing reads.contracts

-- the least day once there is a day more
abbrev pub earlier : Option ℤ → ℤ → ℤ
earlier None day = day
earlier (Some least) day = int_min least day

-- the lesser of two days, where there are two
abbrev pub lesser : Option ℤ → Option ℤ → Option ℤ
lesser None second = second
lesser (Some first) None = Some first
lesser (Some first) (Some second) = Some (int_min first second)
