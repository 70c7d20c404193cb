-- The steps of reading a portfolio that go contract by contract: their terms, how many there may be, their names and plans, or the first refusal. ACTUS data dictionary; the
-- refusals are this profile's own.
use Rattle.std.specs.Prelude.{ℕ, suc, ◌+◌, ◌++◌, nat_lt, if◌then◌else◌, is_some, List, [], ◌∷◌, length, map, Option, Some, None, Result, Ok, Err}
use Rattle.std.specs.List.{zip}
use Rattle.act_model.specs.Kind.{type_of}
use Rattle.act_model.specs.Limits.{most_contracts}
use Rattle.act_model.specs.Names.{NameLists, place_of}
use Rattle.act_model.specs.Run.{EventPlan}
use Rattle.act_model.specs.declared.terms.Terms.{Terms}
use Rattle.act_profile.specs.Plan.{plan_of}
use Rattle.act_refs.specs.Ordered.{Disorder, cyclic, deep}
use Rattle.act_terms.specs.Contract.{NamedTerms, contract_of}
use Rattle.act_terms.specs.Used.{unused_names}
use Rattle.act_cones.specs.Counts.{counts_as}
use Rattle.act_refusal.specs.Refusal.{Refusal, ◌>>=◌, in_cycle, refused_plan, refused_terms, refusing, repeated_id, too_deep, too_many_contracts}
use Rattle.serde_json.specs.Data.{Data}

-- the names, terms and references of contracts from a number on, among the names of what those before them name, and the names with what these name; or
-- the first term that is refused
unfoldable pub contracts_from : ℕ → NameLists → List Data → Result (List NamedTerms × NameLists) Refusal
contracts_from number names [] = Ok ([], names)
contracts_from number names (contract ∷ contracts) = do
  first ← refusing (refused_terms number) (contract_of number names contract)
  rest ← contracts_from (suc number) first.1 contracts
  Ok (first.0 ∷ rest.0, rest.1)

-- the first contract past the limit, by its place, behind contracts that count so many
unfoldable pub first_past : ℕ → ℕ → List NamedTerms → Option ℕ
first_past count place [] = None
first_past count place (contract ∷ contracts) =
    let with_it = count + counts_as contract.terms.kind in
    if nat_lt most_contracts with_it then Some place else first_past with_it (suc place) contracts

-- there are no more contracts than there may be
abbrev pub within_limit : Option ℕ → List NamedTerms → Result (List NamedTerms) Refusal
within_limit None contracts = Ok contracts
within_limit (Some place) contracts = Err (too_many_contracts place)

-- the first of some names, by its place behind others, that is one of those before it
unfoldable pub first_repeated : List (List ℕ) → List (List ℕ) → Option ℕ
first_repeated before [] = None
first_repeated before (id ∷ ids) = if is_some (place_of id before) then Some (length before) else first_repeated (before ++ id ∷ []) ids

-- no name comes twice
abbrev pub unrepeated : Option ℕ → List (List ℕ) → Result (List (List ℕ)) Refusal
unrepeated None ids = Ok ids
unrepeated (Some place) ids = Err (repeated_id place)

-- why contracts have no order in which they are evaluated, as a refusal
abbrev pub refused_order : List (List ℕ) → Disorder → Refusal
refused_order ids (cyclic cycle) = in_cycle ids cycle
refused_order ids (deep contract) = too_deep contract

-- the plans of contracts from a number on, or the first that has none
unfoldable pub plans_from : ℕ → List Terms → Result (List EventPlan) Refusal
plans_from number [] = Ok []
plans_from number (terms ∷ others) = do
  first ← refusing (refused_plan number) (plan_of terms)
  rest ← plans_from (suc number) others
  Ok (first ∷ rest)

-- for each contract that is read, the names of its object that aren't terms of its type
abbrev pub unused_lists : List NamedTerms → List Data → List (List (List ℕ))
unused_lists named contracts = map (λ (one : NamedTerms × Data). unused_names (type_of one.0.terms.kind) one.1) (zip named contracts)
