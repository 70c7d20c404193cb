-- The portfolio of a list of contracts, from what its steps give.
use Rattle.std.proofs.Common.{◌≡◌, ℕ, zero, suc, List, [], ◌∷◌, length, map, Result, Ok, Err, refl, ap, sym, ◌∙◌, arith}
use Rattle.std.proofs.lemmas.List.Elements.{All-weaker}
use Rattle.std.specs.List.{All}
use Rattle.act_model.specs.Names.{NameLists, no_names}
use Rattle.act_profile.specs.Outcomes.{map_ok, then_ok}
use Rattle.act_refs.specs.Ordered.{order_of}
use Rattle.act_terms.specs.Contract.{NamedTerms, contract_of}
use Rattle.act_terms.specs.Named.{IsNamedIn}
use Rattle.act_terms.proofs.TermsNamed.{named_more}
use Rattle.serde_json.specs.Data.{Data}
use Rattle.act_binding.specs.Binding.{children_with_shadows, with_shadows}
use Rattle.act_portfolio.specs.Known.{checked, portfolio_with}
use Rattle.act_portfolio.specs.Fit.{first_unfit, fitting}
use Rattle.act_portfolio.specs.Reading.{Accepted, accepted, ordered, portfolio_listed}
use Rattle.act_refusal.specs.Steps.{contracts_from, first_past, first_repeated, plans_from, refused_order, unrepeated, unused_lists, within_limit}
use Rattle.act_refusal.specs.Refusal.{Refusal, refused_terms, refusing}
use Rattle.act_refusal.proofs.ReadSoFar.{Read}

-- ---- step by step

regrouped : {A B C D E F : Type 0} (a : Result A Refusal) (b : Result B Refusal) (c : Result C Refusal) (d : Result D Refusal) (e : Result E Refusal) (f : D → E → F)
    → then_ok (λ few. then_ok (λ ids. then_ok (λ fit. then_ok (λ order. then_ok (λ plans. Ok (f order plans)) e) d) c) b) a ≡ then_ok (λ fit. then_ok (λ order. map_ok (f order) e) d) (then_ok (λ few. then_ok (λ ids. c) b) a)
regrouped (Err refusal) b c d e f = refl
regrouped (Ok a) (Err refusal) c d e f = refl
regrouped (Ok a) (Ok b) (Err refusal) d e f = refl
regrouped (Ok a) (Ok b) (Ok c) (Err refusal) e f = refl
regrouped (Ok a) (Ok b) (Ok c) (Ok d) (Err refusal) f = refl
regrouped (Ok a) (Ok b) (Ok c) (Ok d) (Ok e) f = refl

pub refused_contracts : (contracts : List Data) (refusal : Refusal) → contracts_from zero no_names contracts ≡ Err refusal → portfolio_listed contracts ≡ Err refusal
unfolding portfolio_listed
refused_contracts contracts refusal is = rw is refl

-- the ids of contracts
abbrev ids_of : List NamedTerms → List (List ℕ)
ids_of named = map (λ (c : NamedTerms). c.id) named

module _ (contracts : List Data) (named : List NamedTerms) (names : NameLists) (read : contracts_from zero no_names contracts ≡ Ok (named, names)) where
  -- the plans of ordered contracts
  abbrev pub behind_order : List ℕ → Result Accepted Refusal
  behind_order order = map_ok (accepted contracts named names order) (plans_from zero (with_shadows named))

  by_checks : portfolio_listed contracts ≡ then_ok (λ fit. then_ok behind_order (ordered named)) (checked named)
  unfolding portfolio_listed
  by_checks =
      rw read (regrouped (within_limit (first_past 0 0 named) named) (unrepeated (first_repeated [] (ids_of named)) (ids_of named)) (fitting (first_unfit named) named) (ordered named) (plans_from zero (with_shadows named)) (accepted contracts named names))

  pub refused_checks : (refusal : Refusal) → checked named ≡ Err refusal → portfolio_listed contracts ≡ Err refusal
  refused_checks refusal is = by_checks ∙ ap (then_ok (λ fit. then_ok behind_order (ordered named))) is

  behind_checks : checked named ≡ Ok named → portfolio_listed contracts ≡ then_ok behind_order (ordered named)
  behind_checks is = by_checks ∙ ap (then_ok (λ fit. then_ok behind_order (ordered named))) is

  pub refused_graph : (refusal : Refusal) → checked named ≡ Ok named → ordered named ≡ Err refusal → portfolio_listed contracts ≡ Err refusal
  refused_graph refusal is none = behind_checks is ∙ ap (then_ok behind_order) none

  ordered_as : (order : List ℕ) → checked named ≡ Ok named → order_of (children_with_shadows named) ≡ Ok order → portfolio_listed contracts ≡ behind_order order
  ordered_as order is found = behind_checks is ∙ ap (λ o. then_ok behind_order (refusing (refused_order (ids_of named)) o)) found

  pub refused_plans : (order : List ℕ) (refusal : Refusal) → checked named ≡ Ok named → order_of (children_with_shadows named) ≡ Ok order → plans_from zero (with_shadows named) ≡ Err refusal → portfolio_listed contracts ≡ Err refusal
  refused_plans order refusal is found plans = ordered_as order is found ∙ ap (map_ok (accepted contracts named names order)) plans

  pub accepts : (names₂ : NameLists) (order : List ℕ) (unused : List (List (List ℕ))) (portfolio : Accepted) → checked named ≡ Ok named → order_of (children_with_shadows named) ≡ Ok order
      → names₂ ≡ record names { contracts = map (λ (c : NamedTerms). c.id) named } → unused ≡ unused_lists named contracts
      → map_ok (portfolio_with names₂ named order unused) (plans_from zero (with_shadows named)) ≡ Ok portfolio → portfolio_listed contracts ≡ Ok portfolio
  accepts names₂ order unused portfolio is found names_are unused_are made = ordered_as order is found ∙ (rw (names_are, unused_are) at made)

-- ---- what is named

-- what contracts name is among the names also with other names of contracts
pub named_among : (before : NameLists) (ids : List (List ℕ)) (named : List NamedTerms) → All (IsNamedIn before) named → All (IsNamedIn (record before { contracts = ids })) named
named_among before ids named all =
    let names : NameLists = record before { contracts = ids } in
    All-weaker (IsNamedIn before) (IsNamedIn names) (λ contract among. named_more before names contract (record { codes = omega arith; currencies = omega arith }) among) named all

-- ---- how many there are

-- as many are read as there are
abbrev pub AsMany : List Data → Type 0
AsMany contracts = (i : ℕ) (names : NameLists) (named : List NamedTerms) (after : NameLists) → contracts_from i names contracts ≡ Ok (named, after) → length named ≡ length contracts

-- the contracts that are read
abbrev contracts_of : Read → List NamedTerms
contracts_of (Ok read) = read.0
contracts_of (Err refusal) = []

-- one before others that are read
abbrev with_rest : NamedTerms → List NamedTerms × NameLists → Read
with_rest first rest = Ok (first ∷ rest.0, rest.1)

module _ (contracts : List Data) (many : AsMany contracts) (i : ℕ) (named : List NamedTerms) (after : NameLists) where
  with_others : (first : NamedTerms) (names : NameLists) (others : Read) → contracts_from i names contracts ≡ others → then_ok (with_rest first) others ≡ Ok (named, after) → length named ≡ suc (length contracts)
  with_others first names (Err refusal) are is = absurd (cc)
  with_others first names (Ok rest) are is =
      let same = many i names rest.0 rest.1 are in
      rw (← ap contracts_of is) (ap suc same)

  with_first : (first : Result (NamedTerms × NameLists) Refusal) → then_ok (λ first. then_ok (with_rest first.0) (contracts_from i first.1 contracts)) first ≡ Ok (named, after) → length named ≡ suc (length contracts)
  with_first (Err refusal) is = absurd (cc)
  with_first (Ok first) is = with_others first.0 first.1 (contracts_from i first.1 contracts) refl is

pub as_many_read : (contracts : List Data) → AsMany contracts
unfolding contracts_from
as_many_read [] i names named after is = sym (ap (λ r. length (contracts_of r)) is)
as_many_read (d ∷ ds) i names named after is = with_first ds (as_many_read ds) (suc i) named after (refusing (refused_terms i) (contract_of i names d)) is

-- the lists of unused names are as many as the contracts
pub unused_are_many : (named : List NamedTerms) (contracts : List Data) → length named ≡ length contracts → length (unused_lists named contracts) ≡ length named
unused_are_many [] contracts many = refl
unused_are_many (n ∷ named) [] many = absurd (omega arith)
unused_are_many (n ∷ named) (d ∷ contracts) many = ap suc (unused_are_many named contracts (omega arith))
