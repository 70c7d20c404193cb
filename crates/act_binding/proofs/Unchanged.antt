-- What binding keeps: what is asked of a kind, and the plan. And what is asked of a shadow's kind.
use Rattle.std.proofs.Common.{◌≡◌, ℕ, zero, suc, List, [], ◌∷◌, length, map, Option, Some, None, option_and_then, option_map, refl, ap, ◌∙◌, subst, arith}
use Rattle.std.proofs.lemmas.List.Elements.{All-cons, All-nil}
use Rattle.std.proofs.lemmas.Option.{same_Some}
use Rattle.std.specs.List.{All, cons_option, filter_map, zip}
use Rattle.act_model.specs.Run.{EventPlan}
use Rattle.act_model.specs.declared.terms.Capfl.{Capfl}
use Rattle.act_model.specs.declared.terms.Common.{Common}
use Rattle.act_model.specs.declared.terms.Kind.{Kind}
use Rattle.act_model.specs.declared.terms.Kind.TheVariants as kind
use Rattle.act_model.specs.declared.terms.Loan.{Loan}
use Rattle.act_model.specs.declared.terms.Terms.{Terms}
use Rattle.act_profile.specs.Built.{IsBuilt, LoanLeadsOn}
use Rattle.act_profile.specs.Credit.{guarantee_plan}
use Rattle.act_profile.specs.Plan.{plan_by, plan_of}
use Rattle.act_terms.specs.Contract.{NamedTerms}
use Rattle.act_terms.specs.Reference.{Reference}
use Rattle.act_binding.specs.Binding.{Numbered, bind, bound, bound_kind, kind_within, loan_within, shadow_by, shadow_of, shadow_on, shadow_with}
use Rattle.act_binding.specs.Links.{Listing, capped_of, terms_at}
use Rattle.act_binding.specs.declared.binding.Binding.{Binding}

-- ---- bound terms

pub built_kind : (listing : Listing) (plans : List EventPlan) (shadow : ℕ) (references : List Reference) (k : Kind) → IsBuilt k → IsBuilt (bound_kind listing plans shadow references k)
built_kind listing plans shadow references (kind.SWAPS swaps) built = tt
built_kind listing plans shadow references (kind.CAPFL capfl) built = tt
built_kind listing plans shadow references (kind.OPTNS optns) built = tt
built_kind listing plans shadow references (kind.FUTUR futur) built = tt
built_kind listing plans shadow references (kind.CEG ceg) built = tt
built_kind listing plans shadow references (kind.CEC cec) built = tt
built_kind listing plans shadow references other built = built

plan_kind : (common : Common) (listing : Listing) (plans : List EventPlan) (shadow : ℕ) (references : List Reference) (k : Kind) → plan_by common (bound_kind listing plans shadow references k) ≡ plan_by common k
unfolding guarantee_plan
plan_kind common listing plans shadow references (kind.SWAPS swaps) = refl
plan_kind common listing plans shadow references (kind.CAPFL capfl) = refl
plan_kind common listing plans shadow references (kind.OPTNS optns) = refl
plan_kind common listing plans shadow references (kind.FUTUR futur) = refl
plan_kind common listing plans shadow references (kind.CEG ceg) = refl
plan_kind common listing plans shadow references (kind.CEC cec) = refl
plan_kind common listing plans shadow references other = refl

-- the bound terms of some contracts, with the numbers of their shadows
module _ (listing : Listing) (plans : List EventPlan) where
  pub same_plans : (contracts : List NamedTerms) (numbers : List ℕ) → length numbers ≡ length contracts → map plan_of (map (bound listing plans) (zip contracts numbers)) ≡ map plan_of (map (λ (c : NamedTerms). c.terms) contracts)
  same_plans [] numbers many = refl
  same_plans (c ∷ contracts) [] many = absurd (omega arith)
  same_plans (c ∷ contracts) (n ∷ numbers) many =
      ap (λ p. p ∷ map plan_of (map (bound listing plans) (zip contracts numbers))) (plan_kind c.terms.common listing plans n c.references c.terms.kind)
      ∙ ap (λ ps. plan_of c.terms ∷ ps) (same_plans contracts numbers (omega arith))

  pub bound_built : (contracts : List NamedTerms) (numbers : List ℕ) → All (λ (c : NamedTerms). IsBuilt c.terms.kind) contracts → All (λ (t : Terms). IsBuilt t.kind) (map (bound listing plans) (zip contracts numbers))
  bound_built [] numbers built = All-nil (λ (t : Terms). IsBuilt t.kind)
  bound_built (c ∷ contracts) [] built = All-nil (λ (t : Terms). IsBuilt t.kind)
  bound_built (c ∷ contracts) (n ∷ numbers) built =
      All-cons (λ (t : Terms). IsBuilt t.kind) _ _ (built_kind listing plans n c.references c.terms.kind (built zero c (omega arith)))
      (bound_built contracts numbers (λ k d within. built (suc k) d (omega arith)))

-- ---- shadows

built_loan : (capfl : Capfl) (loan : Loan) → LoanLeadsOn loan → LoanLeadsOn (loan_within capfl loan)
built_loan capfl loan built = record { interest = built.interest; reset = built.reset; fee = built.fee; scaling = built.scaling }

built_within : (capfl : Capfl) (k own : Kind) → kind_within capfl k ≡ Some own → IsBuilt k → IsBuilt own
built_within capfl (kind.PAM pam) own is built = subst IsBuilt (same_Some _ _ is) (built_loan capfl pam.loan built)
built_within capfl (kind.LAM lam) own is built =
    subst IsBuilt (same_Some _ _ is) (record { cycles = record { loan = built_loan capfl lam.loan built.cycles.loan; redemption = built.cycles.redemption }; maturity = built.maturity })
built_within capfl (kind.NAM nam) own is built = subst IsBuilt (same_Some _ _ is) (record { loan = built_loan capfl nam.loan built.loan; redemption = built.redemption })
built_within capfl (kind.ANN ann) own is built = subst IsBuilt (same_Some _ _ is) (record { loan = built_loan capfl ann.loan built.loan; redemption = built.redemption })
built_within capfl (kind.SWPPV swppv) own is built = subst IsBuilt (same_Some _ _ is) (record { interest = built.interest; reset = built.reset })
built_within capfl other own is built = absurd (cc)

-- what P of the terms of an underlying makes hold of those of its shadow, where P holds of the terms of all contracts
module _ (P Q : Terms → Type 0) (from : (capfl : Capfl) (n underlying : ℕ) (t shadow : Terms) → shadow_with capfl n underlying t ≡ Some shadow → P t → Q shadow) (listing : Listing) (known : (c : ℕ) (t : Terms) → terms_at listing c ≡ Some t → P t) where
  with_terms : (capfl : Capfl) (n underlying : ℕ) (shadow : Terms) (terms : Option Terms) → ((t : Terms) → terms ≡ Some t → P t) → option_and_then (shadow_with capfl n underlying) terms ≡ Some shadow → Q shadow
  with_terms capfl n underlying shadow None holds is = absurd (cc)
  with_terms capfl n underlying shadow (Some terms) holds is = from capfl n underlying terms shadow is (holds terms refl)

  with_underlying : (capfl : Capfl) (n : ℕ) (shadow : Terms) (underlying : Option ℕ) → shadow_on listing capfl n underlying ≡ Some shadow → Q shadow
  with_underlying capfl n shadow None is = absurd (cc)
  with_underlying capfl n shadow (Some underlying) is = with_terms capfl n underlying shadow (terms_at listing underlying) (known underlying) is

  of_kind : (n : ℕ) (references : List Reference) (shadow : Terms) (k : Kind) → shadow_by listing n references k ≡ Some shadow → Q shadow
  of_kind n references shadow (kind.CAPFL capfl) is = with_underlying capfl n shadow (capped_of listing references) is
  of_kind n references shadow other is = absurd (cc)

  one_more : (o : Option Terms) (others : List Terms) → ((t : Terms) → o ≡ Some t → Q t) → All Q others → All Q (cons_option o others)
  one_more None others here rest = rest
  one_more (Some t) others here rest = All-cons Q t others (here t refl) rest

  pub of_shadows : (contracts : List Numbered) → All Q (filter_map (shadow_of listing) contracts)
  of_shadows [] = All-nil Q
  of_shadows (c ∷ contracts) = one_more (shadow_of listing c) _ (λ t is. of_kind c.1 c.0.references t c.0.terms.kind is) (of_shadows contracts)

-- the same of kinds
module _ (P Q : Kind → Type 0) (from : (capfl : Capfl) (k own : Kind) → kind_within capfl k ≡ Some own → P k → Q own) where
  with_own : (common : Common) (shadow : Terms) (own : Option Kind) → ((o : Kind) → own ≡ Some o → Q o) → option_map (λ (o : Kind). record { common = common; kind = o }) own ≡ Some shadow → Q shadow.kind
  with_own common shadow None holds is = absurd (cc)
  with_own common shadow (Some o) holds is = subst (λ (t : Terms). Q t.kind) (same_Some _ _ is) (holds o refl)

  pub kinds_of_shadows : (listing : Listing) → ((c : ℕ) (t : Terms) → terms_at listing c ≡ Some t → P t.kind) → (contracts : List Numbered) → All (λ (t : Terms). Q t.kind) (filter_map (shadow_of listing) contracts)
  kinds_of_shadows listing known contracts =
      of_shadows (λ (t : Terms). P t.kind) (λ (t : Terms). Q t.kind) (λ capfl n underlying t shadow is holds. with_own _ shadow (kind_within capfl t.kind) (λ o own. from capfl t.kind o own holds) is) listing known contracts

pub shadows_built : (listing : Listing) → ((c : ℕ) (t : Terms) → terms_at listing c ≡ Some t → IsBuilt t.kind) → (contracts : List Numbered) → All (λ (t : Terms). IsBuilt t.kind) (filter_map (shadow_of listing) contracts)
shadows_built listing built contracts = kinds_of_shadows IsBuilt IsBuilt built_within listing built contracts

-- ---- what binding gives

-- from the kinds, the terms
pub bound_as : (listing : Listing) (plans : List EventPlan) (contracts : List NamedTerms) (numbers : List ℕ) (bindings : List Binding)
    → map (λ (b : NamedTerms × Binding). bind b.1 b.0.terms.kind) (zip contracts bindings) ≡ map (λ (c : Numbered). (bound listing plans c).kind) (zip contracts numbers)
    → map (λ (b : NamedTerms × Binding). record { common = b.0.terms.common; kind = bind b.1 b.0.terms.kind }) (zip contracts bindings) ≡ map (bound listing plans) (zip contracts numbers)
bound_as listing plans [] numbers bindings same = refl
bound_as listing plans (c ∷ contracts) [] [] same = refl
bound_as listing plans (c ∷ contracts) [] (b ∷ bindings) same = absurd (cc)
bound_as listing plans (c ∷ contracts) (n ∷ numbers) [] same = absurd (cc)
bound_as listing plans (c ∷ contracts) (n ∷ numbers) (b ∷ bindings) same =
    let parts = both_same _ _ _ _ same in
    ap (λ (k : Kind). record { common = c.terms.common; kind = k } ∷ map (λ (b : NamedTerms × Binding). record { common = b.0.terms.common; kind = bind b.1 b.0.terms.kind }) (zip contracts bindings)) parts.0
    ∙ ap (λ ts. bound listing plans (c, n) ∷ ts) (bound_as listing plans contracts numbers bindings parts.1)
  where
    both_same : (a b : Kind) (xs ys : List Kind) → a ∷ xs ≡ b ∷ ys → (a ≡ b) × (xs ≡ ys)
    both_same a b xs ys is = (cc, cc)
