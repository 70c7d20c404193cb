-- How many scheduled events a contract counts, and what its evaluation weighs. This profile's own.
use Rattle.std.specs.Prelude.{◌≡◌, ℕ, ◌+◌, List, [], ◌∷◌, map, slice_get, Option, Some, None, Ok}
use Rattle.std.specs.List.{sum}
use Rattle.act_model.specs.Run.{EventPlan}
use Rattle.act_model.specs.declared.terms.Kind.{Kind}
use Rattle.act_model.specs.declared.terms.Kind.TheVariants as kind
use Rattle.act_model.specs.declared.terms.Terms.{Terms}
use Rattle.act_profile.specs.Built.{IsBuilt}
use Rattle.act_profile.specs.Plan.{own_count, plan_of}
use Rattle.act_profile.specs.Reads.{cone_of}
use Rattle.act_profile.specs.Run.{Contracts}

-- terms have these plans, and what is asked of their kinds holds
pub record HavePlans (terms : List Terms) (plans : List EventPlan) : Type 0 where
  pub built : (c : ℕ) (t : Terms) → slice_get terms c ≡ Some t → IsBuilt t.kind
  pub planned : (c : ℕ) (t : Terms) (plan : EventPlan) → slice_get terms c ≡ Some t → slice_get plans c ≡ Some plan → plan_of t ≡ Ok plan

-- how many scheduled events a contract has by itself
abbrev pub count_where_given : Option Terms → Option EventPlan → ℕ
count_where_given (Some terms) (Some plan) = own_count terms.kind plan
count_where_given terms plan = 0

abbrev pub count_by_itself : Contracts → ℕ → ℕ
count_by_itself contracts c = count_where_given (slice_get contracts.terms c) (slice_get contracts.plans c)

-- the contracts whose scheduled events count with those of a kind: the two of a swap of contracts, and the one under a cap and floor
abbrev pub counted_by : Kind → List ℕ
counted_by (kind.SWAPS swaps) = swaps.first ∷ swaps.second ∷ []
counted_by (kind.CAPFL capfl) = capfl.underlying ∷ []
counted_by other = []

-- the same, by the terms
abbrev pub counted_with : Option Terms → List ℕ
counted_with None = []
counted_with (Some terms) = counted_by terms.kind

-- the scheduled count of a contract
unfoldable pub scheduled_count : Contracts → ℕ → ℕ
scheduled_count contracts c = count_by_itself contracts c + sum (map (count_by_itself contracts) (counted_with (slice_get contracts.terms c)))

-- the cone sum of a contract: over the contracts of its cone, the scheduled count and one
unfoldable pub cone_sum : Contracts → ℕ → ℕ
cone_sum contracts c = sum (map (λ d. scheduled_count contracts d + 1) (cone_of contracts c))

-- a cap and floor counts as two contracts, since it has a shadow
abbrev pub counts_as : Kind → ℕ
counts_as (kind.CAPFL capfl) = 2
counts_as other = 1
