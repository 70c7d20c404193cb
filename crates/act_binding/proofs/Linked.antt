-- What the terms of an accepted portfolio hold of other contracts is so: a cap and floor is over a contract and its shadow, and what a guarantee covers
-- are its children.
use Rattle.std.proofs.Common.{◌≡◌, ℕ, ◌+◌, List, [], ◌∷◌, ◌++◌, length, map, true, Option, Some, None, option_and_then, option_map, Ok, inl, inr, refl, ap, sym, subst, ◌∙◌, append_assoc, arith, slice_get}
use Rattle.std.proofs.lemmas.List.{length-append, length-map}
use Rattle.std.proofs.lemmas.Option.{same_Some, slice_get-map}
use Rattle.std.proofs.lemmas.Slice.Zip.{length-zip}
use Rattle.std.specs.List.{AllByRecursion, cons_option, enumerate_from, filter_map}
use Rattle.std.specs.Option.{unwrap_or}
use Rattle.act_causality.specs.Causality as causality
use Rattle.act_causality.specs.Causality.{HasShadow, IsCoveredChild, IsLinked, KnowsChildren, children_at}
use Rattle.act_model.specs.Run.{EventPlan}
use Rattle.act_model.specs.declared.terms.Capfl.{Capfl}
use Rattle.act_model.specs.declared.terms.Covered.{Covered}
use Rattle.act_model.specs.declared.terms.Kind.{Kind}
use Rattle.act_model.specs.declared.terms.Kind.TheVariants as kind
use Rattle.act_model.specs.declared.terms.Terms.{Terms}
use Rattle.act_profile.specs.Contract.{observed_as}
use Rattle.act_profile.specs.Plan.{plan_of}
use Rattle.act_profile.specs.Run.{Contracts}
use Rattle.act_terms.specs.Contract.{NamedTerms}
use Rattle.act_terms.specs.Reference.{Reference}
use Rattle.act_terms.specs.declared.reference.ReferenceRole.{ReferenceRole}
use Rattle.act_terms.specs.declared.reference.ReferenceRole.TheVariants.{UDL, COVE}
use Rattle.act_binding.specs.Binding.{Numbered, bound, bound_kind, bound_terms, children_by, children_of, children_with_shadows, covered_at, covered_where, kind_within, numbered, shadow_by, shadow_common, shadow_numbers, shadow_of, shadow_on}
use Rattle.act_binding.specs.Links.{Linked, Listing, capped_by, capped_of, contract_of, fits_kind, is_capped, linked, listing_of, terms_at}
use Rattle.act_binding.proofs.Graphed.{AllFit, fits_at, shadow_at, within}
use Rattle.act_cones.proofs.Orders.{plan_each}
use Rattle.act_cones.proofs.Lists.{all_at, either_at, first_behind, first_of_pair, in_a_pair, made_at, slice_get_before}
use Rattle.act_binding.proofs.Shadowed.{as_many_numbers}
use Rattle.act_binding.proofs.Unchanged.{kinds_of_shadows}

-- ---- caps and floors

-- the numbers of the contracts that references are to
abbrev linked_numbers : Listing → List Reference → List ℕ
linked_numbers listing references = map (λ (l : Linked). l.1) (linked listing references)

-- the reference of a cap and floor is to a contract, which has a shadow
record IsCapped (listing : Listing) (capfl : Capfl) (shadow : ℕ) (references : List Reference) : Type 0 where
  underlying : ℕ
  terms : Terms
  own : Kind
  links : linked_numbers listing references ≡ underlying ∷ []
  here : terms_at listing underlying ≡ Some terms
  kind : kind_within capfl terms.kind ≡ Some own
  shadows : shadow_on listing capfl shadow (capped_of listing references) ≡ Some (record { common = shadow_common shadow underlying terms.common; kind = own })

module _ (listing : Listing) (capfl : Capfl) (shadow : ℕ) where
  by_terms : (r : Reference) (underlying : ℕ) (terms : Option Terms) → r.role ≡ UDL → contract_of listing r.object ≡ Some underlying → terms_at listing underlying ≡ terms → is_capped terms ≡ true → IsCapped listing capfl shadow (r ∷ [])
  by_terms r underlying None role to here fit = absurd (cc)
  by_terms r underlying (Some terms) role to here fit =
      let own = within capfl terms.kind fit in
      record { underlying = underlying; terms = terms; own = own.0; links = rw to refl; here = here; kind = own.1; shadows = rw (role, to, here, own.1) refl }

  by_role : (r : Reference) (role : ReferenceRole) (contract : Option ℕ) → r.role ≡ role → contract_of listing r.object ≡ contract → is_capped (option_and_then (terms_at listing) (capped_by role contract)) ≡ true → IsCapped listing capfl shadow (r ∷ [])
  by_role r UDL None is to fit = absurd (cc)
  by_role r UDL (Some underlying) is to fit = by_terms r underlying (terms_at listing underlying) is to refl fit
  by_role r other contract is to fit = absurd (cc)

  capped : (references : List Reference) → is_capped (option_and_then (terms_at listing) (capped_of listing references)) ≡ true → IsCapped listing capfl shadow references
  capped [] fit = absurd (cc)
  capped (r ∷ []) fit = by_role r r.role (contract_of listing r.object) refl refl fit
  capped (r ∷ s ∷ more) fit = absurd (cc)

-- binding changes nothing of a kind that has a cap and floor on it
same_within : (listing : Listing) (plans : List EventPlan) (shadow : ℕ) (references : List Reference) (capfl : Capfl) (k own : Kind) → kind_within capfl k ≡ Some own
    → causality.kind_within capfl.life_cap capfl.life_floor (bound_kind listing plans shadow references k) ≡ Some own
same_within listing plans shadow references capfl (kind.PAM pam) own is = is
same_within listing plans shadow references capfl (kind.LAM lam) own is = is
same_within listing plans shadow references capfl (kind.NAM nam) own is = is
same_within listing plans shadow references capfl (kind.ANN ann) own is = is
same_within listing plans shadow references capfl (kind.SWPPV swppv) own is = is
same_within listing plans shadow references capfl other own is = absurd (cc)

-- the terms of a shadow hold nothing of other contracts
shadow_knows : (contracts : Contracts) (capfl : Capfl) (k own : Kind) → kind_within capfl k ≡ Some own → Unit {0} → (children : List ℕ) → KnowsChildren contracts children own
shadow_knows contracts capfl (kind.PAM pam) own is any children = subst (KnowsChildren contracts children) (same_Some _ _ is) tt
shadow_knows contracts capfl (kind.LAM lam) own is any children = subst (KnowsChildren contracts children) (same_Some _ _ is) tt
shadow_knows contracts capfl (kind.NAM nam) own is any children = subst (KnowsChildren contracts children) (same_Some _ _ is) tt
shadow_knows contracts capfl (kind.ANN ann) own is any children = subst (KnowsChildren contracts children) (same_Some _ _ is) tt
shadow_knows contracts capfl (kind.SWPPV swppv) own is any children = subst (KnowsChildren contracts children) (same_Some _ _ is) tt
shadow_knows contracts capfl other own is any children = absurd (cc)

-- ---- the contracts of a file, bound

one_more : {A : Type 0} (P : A → Type 0) (o : Option A) (others : List A) → ((x : A) → o ≡ Some x → P x) → AllByRecursion P others → AllByRecursion P (cons_option o others)
one_more P None others here rest = rest
one_more P (Some x) others here rest = (here x refl, rest)

module _ (named : List NamedTerms) (plans : List EventPlan) (all : AllFit (listing_of named) named) (places : (place : ℕ) (c : NamedTerms) → slice_get named place ≡ Some c → observed_as c.terms.common ≡ place) where
  abbrev contracts : Contracts
  contracts = record { terms = bound_terms named plans; plans = plans; children = children_with_shadows named }

  bound_at : (c : ℕ) (n : Numbered) → slice_get (numbered named) c ≡ Some n → slice_get (bound_terms named plans) c ≡ Some (bound (listing_of named) plans n)
  bound_at c n here =
      slice_get_before (map (bound (listing_of named) plans) (numbered named)) _ c _ (slice_get-map (bound (listing_of named) plans) (numbered named) c ∙ ap (option_map (bound (listing_of named) plans)) here)

  children_are : (c : ℕ) (n : Numbered) → slice_get (numbered named) c ≡ Some n → children_at contracts c ≡ children_of (listing_of named) n
  children_are c n here =
      ap (λ o. unwrap_or o []) (slice_get_before (map (children_of (listing_of named)) (numbered named)) _ c _ (slice_get-map (children_of (listing_of named)) (numbered named) c ∙ ap (option_map (children_of (listing_of named))) here))

  -- a contract that is referred to stands at its number, with the events that are observed under it
  referred : (c : ℕ) (t : Terms) → terms_at (listing_of named) c ≡ Some t
      → (n : Numbered) × (slice_get (bound_terms named plans) c ≡ Some (bound (listing_of named) plans n)) × (n.0.terms ≡ t) × (observed_as n.0.terms.common ≡ c)
  referred c t here =
      let found = made_at (λ (n : NamedTerms). n.terms) named c t here in
      let pair = in_a_pair named (shadow_numbers (length named) named) c found.0 (as_many_numbers (length named) named) found.1 in
      ((found.0, pair.0), bound_at c (found.0, pair.0) pair.1, found.2, places c found.0 found.1)

  knows_shadow : (capfl : Capfl) (shadow : ℕ) (references : List Reference) → is_capped (option_and_then (terms_at (listing_of named)) (capped_of (listing_of named) references)) ≡ true
      → ((s : Terms) → shadow_on (listing_of named) capfl shadow (capped_of (listing_of named) references) ≡ Some s → slice_get (bound_terms named plans) shadow ≡ Some s)
      → HasShadow contracts (linked_numbers (listing_of named) references ++ shadow ∷ [])
  knows_shadow capfl shadow references fit there =
      let one = capped (listing_of named) capfl shadow references fit in
      let under = referred one.underlying one.terms one.here in
      record {
        underlying = one.underlying;
        shadow = shadow;
        terms = bound (listing_of named) plans under.0;
        own = record { common = shadow_common shadow one.underlying one.terms.common; kind = one.own };
        both = ap (λ l. l ++ shadow ∷ []) one.links;
        here = under.1;
        there = there _ one.shadows;
        is = record {
          number = shadow;
          events_of = Some one.underlying;
          cap = capfl.life_cap;
          floor = capfl.life_floor;
          common = ap (λ (t : Terms). shadow_common shadow one.underlying t.common) (sym under.2);
          observed = sym under.3;
          kind = same_within (listing_of named) plans under.0.1 under.0.0.references capfl under.0.0.terms.kind one.own (ap (λ (t : Terms). kind_within capfl t.kind) under.2 ∙ one.kind);
        };
      }

  covers : (children : List ℕ) (child number : ℕ) (role : ReferenceRole) (terms : Option Terms) (plan : Option EventPlan) (covered : Covered) → slice_get children child ≡ Some number → terms_at (listing_of named) number ≡ terms
      → covered_where role number child terms plan ≡ Some covered → IsCoveredChild contracts children covered
  covers children child number COVE (Some terms) (Some plan) covered there here is =
      let under = referred number terms here in
      subst (IsCoveredChild contracts children) (same_Some _ _ is) (record { number = number; terms = bound (listing_of named) plans under.0; child = there; here = under.1; events = sym under.3 })
  covers children child number role terms plan covered there here is = absurd (cc)

  knows_covered : (children before : List ℕ) (links : List Linked) (i : ℕ) → i ≡ length before → children ≡ before ++ map (λ (l : Linked). l.1) links
      → AllByRecursion (IsCoveredChild contracts children) (filter_map (covered_at (listing_of named) plans) (enumerate_from i links))
  knows_covered children before [] i many are = tt
  knows_covered children before (l ∷ links) i many are =
      let there : slice_get children i ≡ Some l.1 = rw (are, many) (first_behind before l.1 (map (λ (l : Linked). l.1) links)) in
      one_more (IsCoveredChild contracts children) (covered_at (listing_of named) plans (i, l)) _ (λ covered is. covers children i l.1 l.0 (terms_at (listing_of named) l.1) (slice_get plans l.1) covered there refl is)
      (knows_covered children (before ++ l.1 ∷ []) links (i + 1) (omega (arith, length-append before (l.1 ∷ []), many)) (are ∙ sym (append_assoc before (l.1 ∷ []) (map (λ (l : Linked). l.1) links))))

  knows : (k : Kind) (shadow : ℕ) (references : List Reference) → fits_kind (listing_of named) k references ≡ true → ((s : Terms) → shadow_by (listing_of named) shadow references k ≡ Some s → slice_get (bound_terms named plans) shadow ≡ Some s)
      → KnowsChildren contracts (children_by k shadow (linked_numbers (listing_of named) references)) (bound_kind (listing_of named) plans shadow references k)
  knows (kind.CAPFL capfl) shadow references fit there = knows_shadow capfl shadow references fit there
  knows (kind.CEG ceg) shadow references fit there = knows_covered _ [] (linked (listing_of named) references) 0 refl refl
  knows (kind.CEC cec) shadow references fit there = knows_covered _ [] (linked (listing_of named) references) 0 refl refl
  knows other shadow references fit there = tt

  many_bound : length (map (bound (listing_of named) plans) (numbered named)) ≡ length named
  many_bound =
      let many = as_many_numbers (length named) named in
      omega (arith, length-map (numbered named) (bound (listing_of named) plans), length-zip named (shadow_numbers (length named) named), many)

  knows_at : (c : ℕ) (n : Numbered) → slice_get (numbered named) c ≡ Some n → KnowsChildren contracts (children_at contracts c) (bound (listing_of named) plans n).kind
  knows_at c n here =
      let fits = fits_at (listing_of named) named all c n.0 (first_of_pair named (shadow_numbers (length named) named) c n here) in
      subst (λ (children : List ℕ). KnowsChildren contracts children (bound (listing_of named) plans n).kind) (sym (children_are c n here))
      (knows n.0.terms.kind n.1 n.0.references fits (λ s is. shadow_at (listing_of named) (length named) named (map (bound (listing_of named) plans) (numbered named)) many_bound all c n s here is))

  all_know : (c : ℕ) (t : Terms) → slice_get (bound_terms named plans) c ≡ Some t → KnowsChildren contracts (children_at contracts c) t.kind
  all_know c t here =
      elim (either_at (map (bound (listing_of named) plans) (numbered named)) (filter_map (shadow_of (listing_of named)) (numbered named)) c t here) [
        | inl first ↦
            let found = made_at (bound (listing_of named) plans) (numbered named) c t first in
            subst (λ (own : Terms). KnowsChildren contracts (children_at contracts c) own.kind) found.2 (knows_at c found.0 found.1)
        | inr last ↦
            let own = kinds_of_shadows (λ k. Unit {0}) (λ k. (children : List ℕ) → KnowsChildren contracts children k) (shadow_knows contracts) (listing_of named) (λ d u is. tt) (numbered named) in
            all_at (λ (own : Terms). (children : List ℕ) → KnowsChildren contracts children own.kind) _ own last.0 t last.1 (children_at contracts c)
      ]

  pub are_linked : map plan_of (bound_terms named plans) ≡ map Ok plans → IsLinked contracts
  are_linked planned = record { plans = plan_each (bound_terms named plans) plans planned; children = all_know }
