-- A portfolio: its contracts with their names, and the order in which they are evaluated.
use Rattle.std.specs.Prelude.{ℕ, List}
use Rattle.act_model.specs.Names.{NameLists}
use Rattle.act_profile.specs.Run.{Contracts}

-- a portfolio: its contracts by their numbers, the shadows behind those of the file, the names of all that they name, the order in which they are
-- evaluated, and for each contract of the file the names of its object that its kind doesn't use
pub record Accepted : Type 0 where
  pub names : NameLists
  pub contracts : Contracts
  pub order : List ℕ
  pub unused : List (List (List ℕ))
