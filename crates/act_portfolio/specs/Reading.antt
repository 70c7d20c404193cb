-- What the bytes of a portfolio file are: the contracts with their names, terms and plans, or the first refusal. ACTUS data dictionary; the
-- refusals and their order are this profile's own.
use Rattle.std.specs.Prelude.{◌≡◌, ℕ, zero, ◌<◌, ◌≤◌, false, codes, slice_get, List, [], length, map, Some, Result, Ok, Err}
use Rattle.std.specs.List.{All}
use Rattle.std.specs.Str.{bytes_eq}
pub use Rattle.act_accepted.specs.Accepted.{Accepted}
use Rattle.act_causality.specs.Causality.{IsLinked}
use Rattle.act_json.specs.Reading.{json_of}
use Rattle.act_json.specs.declared.fault.JsonFault.{JsonFault}
use Rattle.act_model.specs.Limits.{most_contracts}
use Rattle.act_model.specs.Names.{NameLists, no_names}
use Rattle.act_model.specs.Run.{EventPlan}
use Rattle.act_model.specs.declared.terms.Terms.{Terms}
use Rattle.act_profile.specs.Built.{IsBuilt}
use Rattle.act_profile.specs.Printable.{ArePrintable}
use Rattle.act_profile.specs.Run.{Contracts}
use Rattle.act_refs.specs.Ordered.{order_of}
use Rattle.act_terms.specs.Contract.{NamedTerms}
use Rattle.act_terms.specs.Inline.{in_portfolio_order}
use Rattle.act_terms.specs.Structure.{listed}
use Rattle.act_binding.specs.Binding.{bound_terms, children_with_shadows, with_shadows}
use Rattle.act_refusal.specs.Steps.{contracts_from, first_past, first_repeated, plans_from, refused_order, unrepeated, unused_lists, within_limit}
use Rattle.act_refusal.specs.Refusal.{Refusal, ◌>>=◌, no_json, no_list, refusing}
use Rattle.act_portfolio.specs.Fit.{first_unfit, fitting}
use Rattle.serde_json.specs.Data.{Data, array}

-- ---- the outer list

-- the list that a value is
abbrev pub list_of : Data → Result (List Data) Refusal
list_of (array items) = Ok (listed items)
list_of other = Err no_list

-- ---- the order

-- the order in which contracts are evaluated, children first, or why they have none
abbrev pub ordered : List NamedTerms → Result (List ℕ) Refusal
ordered contracts = refusing (refused_order (map (λ (c : NamedTerms). c.id) contracts)) (order_of (children_with_shadows contracts))

-- ---- the portfolio

-- the contracts together, their terms bound to what they refer to, and behind them the shadows
abbrev pub accepted : List Data → List NamedTerms → NameLists → List ℕ → List EventPlan → Accepted
accepted contracts named names order plans =
    record {
      names = record names { contracts = map (λ (c : NamedTerms). c.id) named };
      contracts = record { terms = bound_terms named plans; plans = plans; children = children_with_shadows named };
      order = order;
      unused = unused_lists named contracts;
    }

-- the portfolio of contracts in portfolio order
unfoldable pub portfolio_listed : List Data → Result Accepted Refusal
portfolio_listed contracts = do
  read ← contracts_from zero no_names contracts
  few ← within_limit (first_past 0 0 read.0) read.0
  ids ← unrepeated (first_repeated [] (map (λ (c : NamedTerms). c.id) read.0)) (map (λ (c : NamedTerms). c.id) read.0)
  fit ← fitting (first_unfit read.0) read.0
  order ← ordered read.0
  plans ← plans_from zero (with_shadows read.0)
  Ok (accepted contracts read.0 read.1 order plans)

-- the portfolio of what is read as JSON
abbrev pub portfolio_in : Result Data JsonFault → Result Accepted Refusal
portfolio_in json = do
  value ← refusing (λ fault. no_json) json
  contracts ← list_of value
  portfolio_listed (in_portfolio_order contracts)

-- the portfolio of a file's bytes
unfoldable pub portfolio_of : List ℕ → Result Accepted Refusal
portfolio_of bytes = portfolio_in (json_of bytes)

-- ---- what is true of an accepted portfolio

-- what is asked of each contract's kind holds, and its plan is that of its terms; its days are days, its amounts numbers of the range, and what it names
-- is among the names; what its terms hold of other contracts is so; its children are contracts, and the order is the reference order; for each contract of
-- the file there is a name, which isn't `*`, and a list of unused names; there are at most 4,096, shadows included
pub record IsAccepted (names : NameLists) (contracts : Contracts) (order : List ℕ) (unused : List (List (List ℕ))) : Type 0 where
  pub built : (c : ℕ) (t : Terms) → slice_get contracts.terms c ≡ Some t → IsBuilt t.kind
  pub printable : ArePrintable (length names.codes) (length names.currencies) contracts
  pub linked : IsLinked contracts
  pub children : length contracts.children ≡ length contracts.terms
  pub numbered : All (All (λ child. child < length contracts.terms)) contracts.children
  pub ordered : order_of contracts.children ≡ Ok order
  pub named : length names.contracts ≤ length contracts.terms
  pub no_star : All (λ (name : List ℕ). bytes_eq name (codes "*") ≡ false) names.contracts
  pub unused_lists : length unused ≡ length names.contracts
  pub few : length contracts.terms ≤ most_contracts
