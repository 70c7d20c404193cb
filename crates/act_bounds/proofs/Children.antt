-- What is read of children whose runs hold.
use Rattle.std.proofs.Common.{ℕ, zero, suc, List, [], ◌∷◌, IfSome}
use Rattle.std.specs.List.{AllByRecursion}
use Rattle.act_model.specs.Run.{Stream}
use Rattle.act_model.specs.declared.run.Row.{Row}
use Rattle.act_num.specs.Number.{InRange}
use Rattle.act_profile.specs.Legs.{child, no_rows, paid, row_at}
use Rattle.act_bounds.proofs.Parts.{some-get, some-map}
use Rattle.act_bounds.specs.Bounds.{RowHolds, RunHolds}

module _ (codes currencies : ℕ) where
  -- the runs of children hold
  abbrev pub ChildrenHold : List Stream → Type 0
  ChildrenHold children = AllByRecursion (RunHolds codes currencies) children

  pub none-holds : RunHolds codes currencies no_rows
  none-holds = record { rows = tt; close = tt }

  pub child-holds : (children : List Stream) (n : ℕ) → ChildrenHold children → RunHolds codes currencies (child children n)
  child-holds [] n hold = none-holds
  child-holds (run ∷ children) zero hold = hold.0
  child-holds (run ∷ children) (suc n) hold = child-holds children n hold.1

  pub row_at-holds : (children : List Stream) (leg n : ℕ) → ChildrenHold children → IfSome (row_at children leg n) (RowHolds currencies)
  row_at-holds children leg n hold = some-get (RowHolds currencies) (child children leg).rows n (child-holds children leg hold).rows

  -- what the rows of children pay are numbers of the range
  pub paid-holds : (children : List Stream) → ChildrenHold children → (leg n : ℕ) → IfSome (paid (row_at children leg n)) InRange
  paid-holds children hold leg n = some-map (RowHolds currencies) InRange (λ (r : Row). r.payoff) (λ r holds. holds.payoff) (row_at children leg n) (row_at-holds children leg n hold)
