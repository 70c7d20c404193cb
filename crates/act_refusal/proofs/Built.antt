-- What is asked of the kinds of contracts that are read and of shadows, of all together.
use Rattle.std.proofs.Common.{◌≡◌, zero, suc, Bor, List, [], ◌∷◌, ◌++◌, map, sym, subst, arith}
use Rattle.std.proofs.lemmas.List.Elements.{All-append, All-cons, All-map, All-nil}
use Rattle.std.specs.List.{All}
use Rattle.act_model.specs.declared.terms.Terms.{Terms}
use Rattle.act_profile.specs.Built.{IsBuilt}
use Rattle.act_terms.specs.Contract.{NamedTerms}
use Rattle.act_refusal.specs.Known.{IsContract}

pub all_terms_built : (contracts : List NamedTerms) → All IsContract contracts → All (λ (t : Terms). IsBuilt t.kind) (map (λ (c : NamedTerms). c.terms) contracts)
all_terms_built contracts known = All-map (λ (t : Terms). IsBuilt t.kind) (λ (c : NamedTerms). c.terms) contracts (λ k d lt. (known k d lt).built)

of_borrowed : (terms : List (Bor Terms)) (P : Terms → Type 0) → All P (map (λ (t : Bor Terms). t.now) terms) → All (λ (t : Bor Terms). P t.now) terms
of_borrowed [] P all = All-nil (λ (t : Bor Terms). P t.now)
of_borrowed (t ∷ terms) P all = All-cons (λ (t : Bor Terms). P t.now) t terms (all zero t.now (omega arith)) (of_borrowed terms P (λ k d lt. all (suc k) d (omega arith)))

pub all_are_built : (terms : List (Bor Terms)) (contracts : List NamedTerms) (shadows : List Terms) → map (λ (t : Bor Terms). t.now) terms ≡ map (λ (c : NamedTerms). c.terms) contracts ++ shadows
    → All IsContract contracts → All (λ (t : Terms). IsBuilt t.kind) shadows → All (λ (t : Bor Terms). IsBuilt t.now.kind) terms
all_are_built terms contracts shadows are known built =
    of_borrowed terms (λ (t : Terms). IsBuilt t.kind) (subst (λ (ts : List Terms). All (λ (t : Terms). IsBuilt t.kind) ts) (sym are) (All-append (λ (t : Terms). IsBuilt t.kind) (map (λ (c : NamedTerms). c.terms) contracts) shadows (all_terms_built contracts known) built))
