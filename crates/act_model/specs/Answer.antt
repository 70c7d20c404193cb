-- What answers hold.
use Rattle.std.specs.Prelude.{ℕ, List}
use Rattle.act_model.specs.Run.{Stream}

-- the runs of the contracts asked for, in portfolio order, over the first `version` entries of the book
pub record Reply : Type 0 where
  pub caller : ℕ
  pub number : ℕ
  pub version : ℕ
  pub runs : List (ℕ × Stream)
