-- What contracts see of a turn and of a pass.
use Rattle.std.specs.Prelude.{ℕ, ◌+◌, ◌<◌, ◌≡◌, List, length, slice_get, Bool, false, Option, Some}
use Rattle.atomic_table.specs.Seated.{TableId}
use Rattle.act_turn.specs.Journal.{entries_of}

-- which turn it is, and how many passes it has
pub record Identity : Type 0 where
  pub id : TableId
  pub seats : ℕ

-- what a pass holds: of which turn it is, its number, the list that it has seen, the one that it had seen as its last turn came, how many turns it has had, and whether it holds the value
pub record Standing (E : Type 0) : Type 0 where
  pub turn : TableId
  pub number : ℕ
  pub seen : List E
  pub came : List E
  pub turns : ℕ
  pub holds : Bool

module _ {E : Type 0} where
  -- a pass that has had no turn yet, and has seen the list xs
  abbrev pub first_standing : TableId → ℕ → List E → Standing E
  first_standing id k xs = record { turn = id; number = k; seen = xs; came = xs; turns = 0; holds = false }

  -- the passes of a turn before any is taken: their numbers go from 1 on, and each has seen the list xs
  abbrev pub AreNumbered : TableId → List E → List (Standing E) → Type 0
  AreNumbered id xs passes = (k : ℕ) → k < length passes → slice_get passes k ≡ Some (first_standing id (k + 1) xs)

  -- it is a pass of this turn, and doesn't hold the value
  abbrev pub IsFree : TableId → Standing E → Type 0
  IsFree id pass = (pass.turn ≡ id) × (pass.holds ≡ false)

  -- a pass's own entries: those of the list that it has seen whose author is its number
  abbrev pub own_entries : (E → Option ℕ) → Standing E → List E
  own_entries author pass = entries_of author pass.number pass.seen
