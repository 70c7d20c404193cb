-- The contracts that an ask reaches. This profile's own.
use Rattle.std.specs.Prelude.{◌≡◌, ℕ, ◌||◌, Bool, true, false, List, length, slice_index_or}
use Rattle.std.specs.List.{list_any}
use Rattle.act_profile.specs.Reads.{cone_to, is_in}
use Rattle.act_profile.specs.Run.{Contracts, deepest}
use Rattle.act_refs.specs.Path.{IsChild}

-- a contract is reached from some contracts: it is one of them, or in the cone of one
abbrev pub is_reached : Contracts → List ℕ → ℕ → Bool
is_reached contracts asked c = list_any (λ a. is_in (cone_to deepest contracts a) c) asked

-- ---- what is marked of them

-- a contract is asked for or marked
abbrev pub is_wanted : List ℕ → List Bool → ℕ → Bool
is_wanted asked below c = is_in asked c || slice_index_or below c false

-- the children of those that are asked for or marked are marked, and these are all that are reached
pub record AreBelow (contracts : Contracts) (asked : List ℕ) (below : List Bool) : Type 0 where
  pub count : length below ≡ length contracts.terms
  pub reached : (c : ℕ) → is_reached contracts asked c ≡ is_wanted asked below c
  pub closed : (c child : ℕ) → is_wanted asked below c ≡ true → IsChild contracts.children c child → slice_index_or below child false ≡ true
