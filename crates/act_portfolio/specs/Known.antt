-- What is known of contracts on the way to a portfolio.
use Rattle.std.specs.Prelude.{◌≡◌, ℕ, ◌+◌, ◌<◌, ◌≤◌, length, map, None, List, [], Ok, Result, zero}
use Rattle.std.specs.List.{All, filter_map, zip}
use Rattle.act_model.specs.Limits.{most_contracts}
use Rattle.act_model.specs.Names.{NameLists, no_names}
use Rattle.act_model.specs.Reads.{Readings}
use Rattle.act_model.specs.Run.{EventPlan}
use Rattle.act_model.specs.declared.terms.Terms.{Terms}
use Rattle.act_refs.specs.Ordered.{order_of}
use Rattle.act_terms.specs.Contract.{NamedTerms}
use Rattle.act_terms.specs.Named.{IsNamedIn}
use Rattle.act_cones.specs.Cones.{AreCones, AreRanks}
use Rattle.act_binding.specs.Binding.{bound_terms, children_with_shadows, shadow_numbers, shadow_of}
use Rattle.act_binding.specs.Links.{listing_of}
use Rattle.act_refusal.specs.Steps.{contracts_from, first_past, first_repeated, unrepeated, unused_lists, within_limit}
use Rattle.act_refusal.specs.Known.{IsContract, count_with_shadows}
use Rattle.act_refusal.specs.Refusal.{Refusal, ◌>>=◌}
use Rattle.act_portfolio.specs.Fit.{first_unfit, fitting}
use Rattle.act_portfolio.specs.Reading.{Accepted, IsAccepted, portfolio_listed}
use Rattle.serde_json.specs.Data.{Data}

-- contracts that are read are no more than there may be, no name comes twice, and the references of each fit its kind
abbrev pub checked : List NamedTerms → Result (List NamedTerms) Refusal
checked contracts = do
  few ← within_limit (first_past 0 0 contracts) contracts
  ids ← unrepeated (first_repeated [] (map (λ (c : NamedTerms). c.id) contracts)) (map (λ (c : NamedTerms). c.id) contracts)
  fitting (first_unfit contracts) contracts

-- contracts, what they are named and name, and the names that their kinds don't use
pub record CheckedContracts : Type 0 where
  pub named : List NamedTerms
  pub names : NameLists
  pub unused : List (List (List ℕ))

-- contracts that were read from objects and checked
pub record AreChecked (objects : List Data) (contracts : CheckedContracts) : Type 0 where
  pub before : NameLists
  pub read : contracts_from zero no_names objects ≡ Ok (contracts.named, before)
  pub names : contracts.names ≡ record before { contracts = map (λ (c : NamedTerms). c.id) contracts.named }
  pub passed : checked contracts.named ≡ Ok contracts.named
  pub fit : first_unfit contracts.named ≡ None
  pub few : count_with_shadows contracts.named ≤ most_contracts
  pub are : All IsContract contracts.named
  pub named : All (IsNamedIn before) contracts.named
  pub left : contracts.unused ≡ unused_lists contracts.named objects

-- a portfolio, or what refuses it, is that of contracts that were read from objects and checked
abbrev pub IsMadeOf : Result Accepted Refusal → CheckedContracts → Type 0
IsMadeOf portfolio contracts = (objects : List Data) × (portfolio ≡ portfolio_listed objects) × AreChecked objects contracts

-- what contracts refer to: the numbers that their shadows have, the shadows, and the children of all, which have an order
pub record IsGraph (contracts : List NamedTerms) (behind : List ℕ) (behind_terms : List Terms) (lists : List (List ℕ)) (order : List ℕ) : Type 0 where
  pub numbers : behind ≡ shadow_numbers (length contracts) contracts
  pub shadows : behind_terms ≡ filter_map (shadow_of (listing_of contracts)) (zip contracts behind)
  pub children : lists ≡ children_with_shadows contracts
  pub exist : All (All (λ child. child < length lists)) lists
  pub ordered : order_of lists ≡ Ok order
  pub count : length lists ≡ length contracts + length behind_terms
  pub few : length lists ≤ count_with_shadows contracts

-- the portfolio of contracts and their plans, whose names these are, with this order and these unused names
abbrev pub portfolio_with : NameLists → List NamedTerms → List ℕ → List (List (List ℕ)) → List EventPlan → Accepted
portfolio_with names contracts order unused plans = record {
  names = names;
  contracts = record { terms = bound_terms contracts plans; plans = plans; children = children_with_shadows contracts };
  order = order;
  unused = unused;
}

-- what is kept of a portfolio: what is true of an accepted one, and for each contract its place in the order, the events that it counts, what it weighs
-- and what it reads
pub record IsPortfolio (portfolio : Accepted) (places counts weights : List ℕ) (reads : List Readings) : Type 0 where
  pub accepted : IsAccepted portfolio.names portfolio.contracts portfolio.order portfolio.unused
  pub ranks : AreRanks (length portfolio.contracts.terms) portfolio.order places
  pub cones : AreCones portfolio.contracts counts weights reads
