-- What references bind, gone through one by one.
use Rattle.std.proofs.Common.{◌≡◌, ℕ, ◌+◌, List, [], ◌∷◌, ◌++◌, Option, Some, None, refl, ap, sym, ◌∙◌, append_assoc, append-nil}
use Rattle.std.specs.List.{cons_option, enumerate_from, filter_map}
use Rattle.act_model.specs.Run.{EventPlan}
use Rattle.act_model.specs.declared.terms.Covered.{Covered}
use Rattle.act_terms.specs.Reference.{Reference}
use Rattle.act_binding.specs.Binding.{covered_at}
use Rattle.act_binding.specs.Links.{Listing, contract_of, linked}

-- ---- covered contracts

-- the contracts covered from a place among the children on
abbrev pub covered_from : Listing → List EventPlan → ℕ → List Reference → List Covered
covered_from listing plans child references = filter_map (covered_at listing plans) (enumerate_from child (linked listing references))

-- a reference to a contract
pub one_covered : (listing : Listing) (plans : List EventPlan) (covered next all : List Covered) (child c : ℕ) (left more : List Reference) (r : Reference) → covered ++ covered_from listing plans child left ≡ all → left ≡ r ∷ more
    → Some c ≡ contract_of listing r.object → next ≡ covered ++ cons_option (covered_at listing plans (child, (r.role, c))) [] → next ++ covered_from listing plans (child + 1) more ≡ all
one_covered listing plans covered next all child c left more r so_far here is now =
    let one = covered_at listing plans (child, (r.role, c)) in
    let first : covered_from listing plans child (r ∷ more) ≡ cons_option one (covered_from listing plans (child + 1) more) = rw (← is) refl in
    ap (λ l. l ++ covered_from listing plans (child + 1) more) now ∙ append_assoc covered (cons_option one []) (covered_from listing plans (child + 1) more)
    ∙ ap (λ l. covered ++ l) (before_others one (covered_from listing plans (child + 1) more) ∙ sym (ap (covered_from listing plans child) here ∙ first)) ∙ so_far
  where
    before_others : (o : Option Covered) (others : List Covered) → cons_option o [] ++ others ≡ cons_option o others
    before_others None others = refl
    before_others (Some x) others = refl

-- a reference to a market object
pub none_covered : (listing : Listing) (plans : List EventPlan) (covered all : List Covered) (child : ℕ) (left more : List Reference) (r : Reference) → covered ++ covered_from listing plans child left ≡ all → left ≡ r ∷ more
    → None ≡ contract_of listing r.object → covered ++ covered_from listing plans child more ≡ all
none_covered listing plans covered all child left more r so_far here is =
    let first : covered_from listing plans child (r ∷ more) ≡ covered_from listing plans child more = rw (← is) refl in
    ap (λ l. covered ++ l) (sym (ap (covered_from listing plans child) here ∙ first)) ∙ so_far

pub all_covered : (listing : Listing) (plans : List EventPlan) (covered all : List Covered) (child : ℕ) (left : List Reference) → covered ++ covered_from listing plans child left ≡ all → left ≡ [] → covered ≡ all
all_covered listing plans covered all child left so_far none = sym (append-nil covered) ∙ ap (λ l. covered ++ l) (sym (ap (covered_from listing plans child) none)) ∙ so_far
