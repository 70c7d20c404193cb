-- The numbers of shadows, and the children of contracts, one by one.
use Rattle.std.proofs.Common.{◌≡◌, ℕ, ◌+◌, ◌≤◌, List, [], ◌∷◌, ◌++◌, length, map, Option, Some, None, refl, ap, sym, ◌∙◌, append_assoc, append-nil, arith}
use Rattle.std.specs.List.{cons_option, filter_map}
use Rattle.act_model.specs.declared.terms.Kind.{Kind}
use Rattle.act_model.specs.declared.terms.Kind.TheVariants as kind
use Rattle.act_terms.specs.Contract.{NamedTerms}
use Rattle.act_terms.specs.Reference.{Reference}
use Rattle.act_terms.specs.declared.reference.ReferenceRole.{ReferenceRole}
use Rattle.act_binding.specs.Binding.{behind, shadow_numbers}
use Rattle.act_binding.specs.Links.{Linked, Listing, contract_of, linked, linked_by}

-- ---- numbers

first_number : (next : ℕ) (c : NamedTerms) (more : List NamedTerms) → shadow_numbers next (c ∷ more) ≡ next ∷ shadow_numbers (behind c.terms.kind next) more
unfolding shadow_numbers
first_number next c more = refl

pub one_numbered : (numbers all : List ℕ) (next : ℕ) (left more : List NamedTerms) (c : NamedTerms) → numbers ++ shadow_numbers next left ≡ all → left ≡ c ∷ more → (numbers ++ next ∷ []) ++ shadow_numbers (behind c.terms.kind next) more ≡ all
one_numbered numbers all next left more c so_far here =
    append_assoc numbers (next ∷ []) (shadow_numbers (behind c.terms.kind next) more)
    ∙ ap (λ l. numbers ++ l) (sym (ap (shadow_numbers next) here ∙ first_number next c more)) ∙ so_far

none_numbered : (next : ℕ) → shadow_numbers next [] ≡ []
unfolding shadow_numbers
none_numbered next = refl

pub all_numbered : (numbers all : List ℕ) (next : ℕ) (left : List NamedTerms) → numbers ++ shadow_numbers next left ≡ all → left ≡ [] → numbers ≡ all
all_numbered numbers all next left so_far none =
    sym (append-nil numbers) ∙ ap (λ l. numbers ++ l) (sym (ap (shadow_numbers next) none ∙ none_numbered next)) ∙ so_far

pub one_behind : (k : Kind) (next : ℕ) → behind k next ≤ next + 1
one_behind (kind.CAPFL capfl) next = omega arith
one_behind other next = omega arith

pub as_many_numbers : (next : ℕ) (contracts : List NamedTerms) → length (shadow_numbers next contracts) ≡ length contracts
unfolding shadow_numbers
as_many_numbers next [] = refl
as_many_numbers next (c ∷ contracts) = let same = as_many_numbers (behind c.terms.kind next) contracts in omega arith

-- ---- children

one_linked : (role : ReferenceRole) (contract : Option ℕ) (before : List Linked) (after : List ℕ) → map (λ (l : Linked). l.1) before ≡ after → map (λ (l : Linked). l.1) (cons_option (linked_by role contract) before) ≡ cons_option contract after
one_linked role None before after same = same
one_linked role (Some c) before after same = ap (λ l. c ∷ l) same

-- the contracts that are linked are those that the references are to
pub linked_contracts : (listing : Listing) (references : List Reference) → map (λ (l : Linked). l.1) (linked listing references) ≡ filter_map (λ r. contract_of listing r.object) references
linked_contracts listing [] = refl
linked_contracts listing (r ∷ references) = one_linked r.role (contract_of listing r.object) _ _ (linked_contracts listing references)
