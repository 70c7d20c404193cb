-- What clauses on references that are turned around say.
use Rattle.std.specs.Prelude.{◌≡◌, ℕ, ◌⊎◌, ◌↔◌, List}
use Rattle.std.specs.List.{Contains}
use Rattle.act_refs.specs.Path.{IsChild}

-- the references of one are those of the other, turned around
abbrev pub IsTurned : List (List ℕ) → List (List ℕ) → Type 0
IsTurned graph turned = (parent child : ℕ) → IsChild graph parent child ↔ IsChild turned child parent

-- a contract is added to the lists of its children, and nothing else changes
pub record AddsParent (before after : List (List ℕ)) (children : List ℕ) (parent : ℕ) : Type 0 where
  pub kept : (child other : ℕ) → IsChild before child other → IsChild after child other
  pub added : (child : ℕ) → Contains children child → IsChild after child parent
  pub only : (child other : ℕ) → IsChild after child other → IsChild before child other ⊎ ((other ≡ parent) × Contains children child)
