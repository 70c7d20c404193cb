-- What bound terms and the terms of shadows name is among the names, where what contracts and their references name is.
use Rattle.std.proofs.Common.{◌≡◌, ℕ, zero, ◌<◌, true, List, [], ◌∷◌, length, map, slice_get, Option, Some, None, is_some, option_and_then, option_map, IfSome, refl, ap, sym, subst, ◌∙◌, arith}
use Rattle.std.proofs.lemmas.List.Elements.{All-append, All-cons, All-head, All-nil, All-tail, All-weaker}
use Rattle.std.proofs.lemmas.Option.{same_Some}
use Rattle.std.specs.List.{All, cons_option, enumerate_from, filter_map, zip}
use Rattle.std.specs.Option.{unwrap_or}
use Rattle.act_model.specs.Names.{NameLists}
use Rattle.act_model.specs.Run.{EventPlan}
use Rattle.act_model.specs.Terms.{Guarantee}
use Rattle.act_model.specs.declared.choice.GuaranteedExposure.{GuaranteedExposure}
use Rattle.act_model.specs.declared.choice.GuaranteedExposure.TheVariants as exposure
use Rattle.act_model.specs.declared.terms.Capfl.{Capfl}
use Rattle.act_model.specs.declared.terms.Common.{Common}
use Rattle.act_model.specs.declared.terms.Covered.{Covered}
use Rattle.act_model.specs.declared.terms.Kind.{Kind}
use Rattle.act_model.specs.declared.terms.Kind.TheVariants as kind
use Rattle.act_model.specs.declared.terms.Terms.{Terms}
use Rattle.act_profile.specs.Contract.{factor_of}
use Rattle.act_profile.specs.Credit.{market_codes_by}
use Rattle.act_profile.specs.Printable.{AreNamed, IsBelow, OtherIsNamed}
use Rattle.act_profile.specs.Reads.{given_code, kind_codes}
use Rattle.act_terms.specs.Contract.{NamedTerms}
use Rattle.act_terms.specs.Named.{IsNamedIn, TargetIsNamed, unbound_codes}
use Rattle.act_terms.specs.Reference.{Reference, Target, to_contract, to_market}
use Rattle.act_terms.specs.declared.reference.ReferenceRole.{ReferenceRole}
use Rattle.act_terms.specs.declared.reference.ReferenceRole.TheVariants.{UDL, COVE, COVI}
use Rattle.act_binding.specs.Binding.{Numbered, bound, bound_kind, covered_at, covered_of, covered_where, guarantee_over, kind_within, shadow_common, shadow_of, shadow_with}
use Rattle.act_binding.specs.Links.{Linked, Listing, contract_of, covering_by, covering_of, fits_kind, linked, listing_of, market_by, market_of, market_referred, terms_at, underlying_of}
use Rattle.act_binding.proofs.Graphed.{AllFit}
use Rattle.act_binding.proofs.Unchanged.{of_shadows}
use Rattle.act_cones.proofs.Lists.{all_at, made_at}

-- ---- what is made of items

one_more : {A : Type 0} (P : A → Type 0) (o : Option A) (others : List A) → IfSome o P → All P others → All P (cons_option o others)
one_more P None others here rest = rest
one_more P (Some x) others here rest = All-cons P x others here rest

all_made : {A B : Type 0} (P : B → Type 0) (f : A → Option B) (xs : List A) → All (λ (x : A). IfSome (f x) P) xs → All P (filter_map f xs)
all_made P f [] each = All-nil P
all_made {A = A} P f (x ∷ xs) each =
    let Made = λ (y : A). IfSome (f y) P in
    one_more P (f x) (filter_map f xs) (All-head Made x xs each) (all_made P f xs (All-tail Made x xs each))

-- what holds of any item holds of all
every : {A : Type 0} (P : A → Type 0) (xs : List A) → ((x : A) → P x) → All P xs
every P [] holds = All-nil P
every P (x ∷ xs) holds = All-cons P x xs (holds x) (every P xs holds)

-- ---- codes that are among so many

module _ (count : ℕ) where
  abbrev AreBelow : List ℕ → Type 0
  AreBelow numbers = All (λ (n : ℕ). n < count) numbers

  only_below : (code : ℕ) → code < count → AreBelow (code ∷ [])
  only_below code is = All-cons (λ (n : ℕ). n < count) code [] is (All-nil (λ (n : ℕ). n < count))

  given_below : (code : Option ℕ) → IsBelow count code → AreBelow (given_code code)
  given_below None is = All-nil (λ (n : ℕ). n < count)
  given_below (Some code) is = only_below code is

  factor_below : (common : Common) (k : Kind) → IsBelow count common.factor → AreBelow (given_code (factor_of common k))
  factor_below common (kind.FXOUT fxout) is = All-nil (λ (n : ℕ). n < count)
  factor_below common other is = given_below common.factor is

  -- references are to contracts, or to market objects of such codes
  abbrev TargetsAreNamed : List Reference → Type 0
  TargetsAreNamed references = All (λ (r : Reference). TargetIsNamed count r.object) references

  -- the underlying of an option or a future
  market_below : (role : ReferenceRole) (target : Target) → TargetIsNamed count target → is_some (market_by role target) ≡ true → unwrap_or (market_by role target) 0 < count
  market_below UDL (to_market code) named fit = named
  market_below role target named fit = absurd (cc)

  underlying_below : (references : List Reference) → TargetsAreNamed references → is_some (underlying_of references) ≡ true → unwrap_or (underlying_of references) 0 < count
  underlying_below [] named fit = absurd (cc)
  underlying_below (r ∷ []) named fit = market_below r.role r.object (named zero r (omega arith)) fit
  underlying_below (r ∷ s ∷ more) named fit = absurd (cc)

  module _ (listing : Listing) (markets : (c : ℕ) (t : Terms) → terms_at listing c ≡ Some t → IsBelow count t.common.market_object_code) where
    -- the market objects of what is covered
    covered_below : (role : ReferenceRole) (number child : ℕ) (terms : Option Terms) (plan : Option EventPlan) → ((t : Terms) → terms ≡ Some t → IsBelow count t.common.market_object_code)
        → IfSome (covered_where role number child terms plan) (λ (covered : Covered). IsBelow count covered.market)
    covered_below COVE number child (Some terms) (Some plan) known = known terms refl
    covered_below role number child terms plan known = tt

    one_covered_below : (plans : List EventPlan) (one : ℕ × Linked) → IfSome (covered_at listing plans one) (λ (covered : Covered). IsBelow count covered.market)
    one_covered_below plans one = covered_below one.1.0 one.1.1 one.0 (terms_at listing one.1.1) (slice_get plans one.1.1) (markets one.1.1)

    all_covered_below : (plans : List EventPlan) (references : List Reference) → All (λ (covered : Covered). IsBelow count covered.market) (covered_of listing plans references)
    all_covered_below plans references =
        let links = enumerate_from 0 (linked listing references) in
        let Fits = λ (covered : Covered). IsBelow count covered.market in
        all_made Fits (covered_at listing plans) links (every (λ (one : ℕ × Linked). IfSome (covered_at listing plans one) Fits) links (one_covered_below plans))

    markets_below : (plans : List EventPlan) (references : List Reference) (e : GuaranteedExposure) (guarantee : Guarantee) → AreBelow (market_codes_by e (guarantee_over (covered_of listing plans references) guarantee))
    markets_below plans references exposure.MV guarantee =
        all_made (λ (n : ℕ). n < count) (λ (covered : Covered). covered.market) (covered_of listing plans references) (all_covered_below plans references)
    markets_below plans references other guarantee = All-nil (λ (n : ℕ). n < count)

    -- the codes of what covers
    own_market_below : (terms : Option Terms) → ((t : Terms) → terms ≡ Some t → IsBelow count t.common.market_object_code) → IsBelow count (market_of terms)
    own_market_below None known = tt
    own_market_below (Some terms) known = known terms refl

    at_contract_below : (number : Option ℕ) → IsBelow count (market_of (option_and_then (terms_at listing) number))
    at_contract_below None = tt
    at_contract_below (Some c) = own_market_below (terms_at listing c) (markets c)

    referred_below : (target : Target) → TargetIsNamed count target → IsBelow count (market_referred listing target)
    referred_below (to_market code) named = named
    referred_below (to_contract name) named = at_contract_below (contract_of listing (to_contract name))

    covering_below : (role : ReferenceRole) (code : Option ℕ) → IsBelow count code → IsBelow count (covering_by role code)
    covering_below COVI code is = is
    covering_below role code is = tt

    all_covering_below : (references : List Reference) → TargetsAreNamed references → AreBelow (filter_map (covering_of listing) references)
    all_covering_below references named =
        all_made (λ (n : ℕ). n < count) (covering_of listing) references
        (All-weaker (λ (r : Reference). TargetIsNamed count r.object) (λ (r : Reference). IsBelow count (covering_of listing r)) (λ r named. covering_below r.role _ (referred_below r.object named)) references named)

    -- the codes of a kind that is bound
    bound_kind_below : (plans : List EventPlan) (shadow : ℕ) (references : List Reference) (k : Kind) → AreBelow (unbound_codes k) → TargetsAreNamed references → fits_kind listing k references ≡ true
        → AreBelow (kind_codes (bound_kind listing plans shadow references k))
    bound_kind_below plans shadow references (kind.SWAPS swaps) codes named fit = codes
    bound_kind_below plans shadow references (kind.CAPFL capfl) codes named fit = codes
    bound_kind_below plans shadow references (kind.OPTNS optns) codes named fit = only_below _ (underlying_below references named fit)
    bound_kind_below plans shadow references (kind.FUTUR futur) codes named fit = only_below _ (underlying_below references named fit)
    bound_kind_below plans shadow references (kind.CEG ceg) codes named fit = markets_below plans references ceg.guaranteed_exposure ceg
    bound_kind_below plans shadow references (kind.CEC cec) codes named fit =
        All-append (λ (n : ℕ). n < count) _ _ (markets_below plans references cec.guarantee.guaranteed_exposure cec.guarantee) (all_covering_below references named)
    bound_kind_below plans shadow references other codes named fit = codes

-- ---- bound terms

-- binding leaves the other currency of an outright
same_other : (currencies : ℕ) (listing : Listing) (plans : List EventPlan) (shadow : ℕ) (references : List Reference) (k : Kind) → OtherIsNamed currencies k → OtherIsNamed currencies (bound_kind listing plans shadow references k)
same_other currencies listing plans shadow references (kind.FXOUT fxout) named = named
same_other currencies listing plans shadow references other named = tt

-- what terms name is among the names
abbrev pub TermsAreNamed : NameLists → Terms → Type 0
TermsAreNamed names terms = AreNamed (length names.codes) (length names.currencies) terms

-- the terms of a contract, where what the contract names is among the names
abbrev AreOfNamed : NameLists → Terms → Type 0
AreOfNamed names terms = (contract : NamedTerms) × (contract.terms ≡ terms) × IsNamedIn names contract

module _ (names : NameLists) (contracts : List NamedTerms) (all : All (IsNamedIn names) contracts) where
  listed_named : (c : ℕ) (t : Terms) → terms_at (listing_of contracts) c ≡ Some t → AreOfNamed names t
  listed_named c t here =
      let found = made_at (λ (n : NamedTerms). n.terms) contracts c t here in
      (found.0, found.2, all_at (IsNamedIn names) contracts all c found.0 found.1)

  markets_named : (c : ℕ) (t : Terms) → terms_at (listing_of contracts) c ≡ Some t → IsBelow (length names.codes) t.common.market_object_code
  markets_named c t here =
      let of = listed_named c t here in
      subst (λ (t : Terms). IsBelow (length names.codes) t.common.market_object_code) of.1 of.2.market

  module _ (plans : List EventPlan) where
    one_bound : (contract : NamedTerms) (shadow : ℕ) → IsNamedIn names contract → fits_kind (listing_of contracts) contract.terms.kind contract.references ≡ true → TermsAreNamed names (bound (listing_of contracts) plans (contract, shadow))
    one_bound contract shadow named fit =
        let common = contract.terms.common in
        let k = contract.terms.kind in
        let codes = length names.codes in
        record {
          codes_read = All-append (λ (n : ℕ). n < codes) _ _ (factor_below codes common (bound_kind (listing_of contracts) plans shadow contract.references k) named.factor)
              (bound_kind_below codes (listing_of contracts) markets_named plans shadow contract.references k named.codes_read named.references fit);
          currency = named.currency;
          settlement = named.settlement;
          other = same_other (length names.currencies) (listing_of contracts) plans shadow contract.references k named.other;
        }

    each_bound : (some : List NamedTerms) (numbers : List ℕ) → AllFit (listing_of contracts) some → All (IsNamedIn names) some → All (TermsAreNamed names) (map (bound (listing_of contracts) plans) (zip some numbers))
    each_bound [] numbers fit named = All-nil (TermsAreNamed names)
    each_bound (c ∷ some) [] fit named = All-nil (TermsAreNamed names)
    each_bound (c ∷ some) (n ∷ numbers) fit named =
        All-cons (TermsAreNamed names) _ _ (one_bound c n (All-head (IsNamedIn names) c some named) fit.0) (each_bound some numbers fit.1 (All-tail (IsNamedIn names) c some named))

    pub bound_named : (numbers : List ℕ) → AllFit (listing_of contracts) contracts → All (TermsAreNamed names) (map (bound (listing_of contracts) plans) (zip contracts numbers))
    bound_named numbers fit = each_bound contracts numbers fit all

-- ---- shadows

-- the kind of a shadow reads the codes of its underlying's, which references give none of; and it is no outright
within_codes : (capfl : Capfl) (k own : Kind) → kind_within capfl k ≡ Some own → kind_codes own ≡ unbound_codes k
within_codes capfl (kind.PAM pam) own is = ap kind_codes (sym (same_Some _ _ is))
within_codes capfl (kind.LAM lam) own is = ap kind_codes (sym (same_Some _ _ is))
within_codes capfl (kind.NAM nam) own is = ap kind_codes (sym (same_Some _ _ is))
within_codes capfl (kind.ANN ann) own is = ap kind_codes (sym (same_Some _ _ is))
within_codes capfl (kind.SWPPV swppv) own is = ap kind_codes (sym (same_Some _ _ is))
within_codes capfl other own is = absurd (cc)

within_other : (currencies : ℕ) (capfl : Capfl) (k own : Kind) → kind_within capfl k ≡ Some own → OtherIsNamed currencies own
within_other currencies capfl (kind.PAM pam) own is = subst (OtherIsNamed currencies) (same_Some _ _ is) tt
within_other currencies capfl (kind.LAM lam) own is = subst (OtherIsNamed currencies) (same_Some _ _ is) tt
within_other currencies capfl (kind.NAM nam) own is = subst (OtherIsNamed currencies) (same_Some _ _ is) tt
within_other currencies capfl (kind.ANN ann) own is = subst (OtherIsNamed currencies) (same_Some _ _ is) tt
within_other currencies capfl (kind.SWPPV swppv) own is = subst (OtherIsNamed currencies) (same_Some _ _ is) tt
within_other currencies capfl other own is = absurd (cc)

module _ (names : NameLists) where
  with_own : (contract : NamedTerms) (capfl : Capfl) (n underlying : ℕ) (shadow : Terms) → IsNamedIn names contract → (own : Option Kind) → kind_within capfl contract.terms.kind ≡ own
      → option_map (λ (o : Kind). record { common = shadow_common n underlying contract.terms.common; kind = o }) own ≡ Some shadow → TermsAreNamed names shadow
  with_own contract capfl n underlying shadow named None within is = absurd (cc)
  with_own contract capfl n underlying shadow named (Some own) within is =
      let codes = length names.codes in
      let same : kind_codes own ≡ unbound_codes contract.terms.kind = within_codes capfl contract.terms.kind own within in
      subst (TermsAreNamed names) (same_Some _ _ is) (record {
        codes_read = All-append (λ (n : ℕ). n < codes) _ _ (factor_below codes (shadow_common n underlying contract.terms.common) own named.factor) (subst (AreBelow codes) (sym same) named.codes_read);
        currency = named.currency;
        settlement = named.settlement;
        other = within_other (length names.currencies) capfl contract.terms.kind own within;
      })

  of_underlying : (capfl : Capfl) (n underlying : ℕ) (t shadow : Terms) → shadow_with capfl n underlying t ≡ Some shadow → AreOfNamed names t → TermsAreNamed names shadow
  of_underlying capfl n underlying t shadow is of =
      with_own of.0 capfl n underlying shadow of.2 (kind_within capfl of.0.terms.kind) refl (ap (shadow_with capfl n underlying) of.1 ∙ is)

  pub shadows_named : (contracts : List NamedTerms) → All (IsNamedIn names) contracts → (numbered : List Numbered) → All (TermsAreNamed names) (filter_map (shadow_of (listing_of contracts)) numbered)
  shadows_named contracts all numbered = of_shadows (AreOfNamed names) (TermsAreNamed names) of_underlying (listing_of contracts) (listed_named names contracts all) numbered
