-- What contracts see of a desk. This profile's own.
use Rattle.std.specs.Prelude.{ℕ}
use Rattle.atomic_table.specs.Seated.{TableId}
use Rattle.act_portfolio.specs.Reading.{Accepted}

-- which desk it is, how many passes it has, and of which portfolio
pub record Desk : Type 0 where
  pub id : TableId
  pub seats : ℕ
  pub portfolio : Accepted
