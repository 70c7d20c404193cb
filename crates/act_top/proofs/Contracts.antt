-- Contracts by their numbers.
use Rattle.std.proofs.Common.{◌≡◌, ℕ, ◌+◌, ◌<◌, ◌≤◌, List, [], ◌∷◌, ◌++◌, length, drop, get_or, Some, slice_get, refl, sym, ap, ◌∙◌}
use Rattle.std.specs.List.{flat_map}
use Rattle.std.proofs.lemmas.List.{drop_all}
use Rattle.std.proofs.lemmas.Option.{slice_get_read, slice_get-get_or, unwrap_or-slice_get}
use Rattle.act_model.specs.declared.terms.Terms.{Terms}
use Rattle.act_cones.specs.Counts.{scheduled_count}
use Rattle.act_portfolio.specs.Reading.{Accepted}
use Rattle.act_model.specs.Kind.{type_name, type_of}
use Rattle.act_text.specs.Lines.{name_of}
use Rattle.act_top.specs.Check.{contract_line, contracts_text, unused_line}
use Rattle.act_engine.proofs.Lists.{drop-at}

-- an item that was read of a list
pub at-place : {X : Type 0} (xs read : List X) (n i : ℕ) (x : X) → read ≡ xs → n ≡ length xs → i < n → x ≡ get_or read i x → slice_get xs i ≡ Some x
at-place xs read n i x same all within is = slice_get_read xs n i x all within (is ∙ ap (λ l. get_or l i x) same)

-- the name of a number is there
pub name-at : (names : List (List ℕ)) (i : ℕ) → i < length names → slice_get names i ≡ Some (name_of names i)
name-at names i within = slice_get-get_or names i [] within ∙ ap (λ (name : List ℕ). Some name) (sym (unwrap_or-slice_get names i []))

-- a contract's text, and that of those behind it
pub contracts-next : (portfolio : Accepted) (c : ℕ) (terms : Terms) (id name : List ℕ) (unused : List (List ℕ)) (count : ℕ) →
    slice_get portfolio.contracts.terms c ≡ Some terms → slice_get portfolio.names.contracts c ≡ Some id → slice_get portfolio.unused c ≡ Some unused → name ≡ id → count ≡ scheduled_count portfolio.contracts c →
    contracts_text portfolio c (drop c portfolio.contracts.terms) (drop c portfolio.names.contracts) (drop c portfolio.unused)
    ≡ (contract_line name (type_name (type_of terms.kind)) count ++ flat_map unused_line unused)
    ++ contracts_text portfolio (c + 1) (drop (c + 1) portfolio.contracts.terms) (drop (c + 1) portfolio.names.contracts) (drop (c + 1) portfolio.unused)
unfolding contracts_text
contracts-next portfolio c terms id name unused count of named without same counted =
    rw (drop-at portfolio.contracts.terms c terms of, drop-at portfolio.names.contracts c id named, drop-at portfolio.unused c unused without, same, counted) refl

-- behind the last name stands nothing
pub contracts-end : (portfolio : Accepted) (c : ℕ) (terms : List Terms) (lists : List (List (List ℕ))) → contracts_text portfolio c terms [] lists ≡ []
unfolding contracts_text
contracts-end portfolio c [] lists = refl
contracts-end portfolio c (t ∷ terms) lists = refl

pub contracts-past : (portfolio : Accepted) (c : ℕ) (terms : List Terms) (lists : List (List (List ℕ))) → length portfolio.names.contracts ≤ c → contracts_text portfolio c terms (drop c portfolio.names.contracts) lists ≡ []
contracts-past portfolio c terms lists past =
    ap (λ (ids : List (List ℕ)). contracts_text portfolio c terms ids lists) (drop_all c portfolio.names.contracts past) ∙ contracts-end portfolio c terms lists
