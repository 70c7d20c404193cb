-- What is known of contracts that are read.
use Rattle.std.specs.Prelude.{◌≡◌, ℕ, true, false, codes, slice_get, Some, List}
use Rattle.std.specs.List.{sum_by}
use Rattle.std.specs.Str.{bytes_eq}
use Rattle.act_model.specs.Name.{is_name}
use Rattle.act_profile.specs.Built.{IsBuilt}
use Rattle.act_profile.specs.Contract.{observed_as}
use Rattle.act_terms.specs.Contract.{NamedTerms}
use Rattle.act_cones.specs.Counts.{counts_as}

-- a contract whose terms are read: its name is a name and no star, and what is asked of its kind holds
pub record IsContract (c : NamedTerms) : Type 0 where
  pub name : is_name c.id ≡ true
  pub no_star : bytes_eq c.id (codes "*") ≡ false
  pub built : IsBuilt c.terms.kind

-- contracts have the events that are observed under their places
pub record AreNumbered (contracts : List NamedTerms) : Type 0 where
  pub each : (place : ℕ) (c : NamedTerms) → slice_get contracts place ≡ Some c → observed_as c.terms.common ≡ place

-- how many contracts some are, with their shadows
abbrev pub count_with_shadows : List NamedTerms → ℕ
count_with_shadows contracts = sum_by (λ c. counts_as c.terms.kind) contracts
