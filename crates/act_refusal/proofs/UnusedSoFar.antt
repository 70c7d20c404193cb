-- The names that contracts' objects don't use, listed contract by contract.
use Rattle.std.proofs.Common.{◌≡◌, ℕ, List, [], ◌∷◌, ◌++◌, ap, sym, ◌∙◌, append_assoc, append-nil}
use Rattle.act_model.specs.Kind.{type_of}
use Rattle.act_terms.specs.Contract.{NamedTerms}
use Rattle.act_terms.specs.Used.{unused_names}
use Rattle.serde_json.specs.Data.{Data}
use Rattle.act_refusal.specs.Steps.{unused_lists}

-- the lists so far and those of the contracts that are left make all
abbrev pub IsListedTo : List NamedTerms → List Data → List (List (List ℕ)) → List (List (List ℕ)) → Type 0
IsListedTo named contracts lists all = lists ++ unused_lists named contracts ≡ all

pub one_listed : (named more : List NamedTerms) (contracts others : List Data) (lists all : List (List (List ℕ))) (first : NamedTerms) (contract : Data) (list : List (List ℕ)) → IsListedTo named contracts lists all
    → named ≡ first ∷ more → contracts ≡ contract ∷ others → list ≡ unused_names (type_of first.terms.kind) contract → IsListedTo more others (lists ++ list ∷ []) all
one_listed named more contracts others lists all first contract list so_far are these is =
    append_assoc lists (list ∷ []) (unused_lists more others) ∙ ap (λ l. lists ++ l ∷ unused_lists more others) is ∙ ap (λ ns. lists ++ unused_lists ns (contract ∷ others)) (sym are)
    ∙ ap (λ ds. lists ++ unused_lists named ds) (sym these) ∙ so_far

pub all_listed : (named : List NamedTerms) (contracts : List Data) (lists all : List (List (List ℕ))) → IsListedTo named contracts lists all → named ≡ [] → lists ≡ all
all_listed named contracts lists all so_far none =
    sym (append-nil lists) ∙ ap (λ ns. lists ++ unused_lists ns contracts) (sym none) ∙ so_far
