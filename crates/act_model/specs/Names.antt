-- Names and their numbers: a name's number is its place among those of its sort. This profile's own.
use Rattle.std.specs.Prelude.{◌≡◌, ℕ, ◌≤◌, true, List, [], ◌∷◌, ◌++◌, length, slice_get, Option, Some, is_some, unwrap_or, if◌then◌else◌}
use Rattle.std.specs.Str.{bytes_eq}
use Rattle.std.specs.List.{position}
use Rattle.act_model.specs.Limits.{most_names}
use Rattle.act_model.specs.Name.{is_name}

-- the names of contracts, of market objects and of currencies, each in the order in which they were added
pub record NameLists : Type 0 where
  pub contracts : List (List ℕ)
  pub codes : List (List ℕ)
  pub currencies : List (List ℕ)

-- no names
abbrev pub no_names : NameLists
no_names = record { contracts = []; codes = []; currencies = [] }

-- the number of a name, where it is there
abbrev pub place_of : List ℕ → List (List ℕ) → Option ℕ
place_of name names = position (bytes_eq name) names

-- the number that a name has once it is there: its own, or that of the next
abbrev pub number_of : List ℕ → List (List ℕ) → ℕ
number_of name names = unwrap_or (place_of name names) (length names)

-- the names with one that is added last where it isn't there
abbrev pub with_name : List ℕ → List (List ℕ) → List (List ℕ)
with_name name names = if is_some (place_of name names) then names else names ++ name ∷ []

-- no more names of a sort than there may be
pub record AreFew (names : NameLists) : Type 0 where
  pub contracts : length names.contracts ≤ most_names
  pub codes : length names.codes ≤ most_names
  pub currencies : length names.currencies ≤ most_names

-- what is true of the names of one sort: they are names, each has the number of its place, and there are no more than there may be
pub record AreNames (names : List (List ℕ)) : Type 0 where
  pub named : (place : ℕ) (name : List ℕ) → slice_get names place ≡ Some name → is_name name ≡ true
  pub numbered : (place : ℕ) (name : List ℕ) → slice_get names place ≡ Some name → place_of name names ≡ Some place
  pub few : length names ≤ most_names
