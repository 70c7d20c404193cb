-- What contracts refer to, where their references fit: each cap and floor has a shadow, and all children are contracts.
use Rattle.std.proofs.Common.{◌≡◌, ℕ, zero, suc, ◌+◌, ◌<◌, ◌≤◌, ◌⊎◌, Vec, subst, true, List, [], ◌∷◌, ◌++◌, length, map, Option, Some, None, option_and_then, inl, inr, refl, ap, sym, ◌∙◌, append_assoc, arith}
use Rattle.std.proofs.lemmas.List.{length-append, length-map}
use Rattle.std.proofs.lemmas.List.Elements.{All-append, All-cons, All-map, All-nil}
use Rattle.std.proofs.lemmas.List.Quantifiers.{position-Some}
use Rattle.std.proofs.lemmas.List.Sums.{sum_by-cons}
use Rattle.std.proofs.lemmas.Option.{same_Some}
use Rattle.std.proofs.lemmas.Slice.Zip.{length-zip}
use Rattle.std.specs.List.{All, cons_option, filter_map, slice_get, sum_by, zip}
use Rattle.std.specs.Str.{bytes_eq}
use Rattle.act_model.specs.declared.terms.Capfl.{Capfl}
use Rattle.act_model.specs.declared.terms.Kind.{Kind}
use Rattle.act_model.specs.declared.terms.Kind.TheVariants as kind
use Rattle.act_model.specs.declared.terms.Terms.{Terms}
use Rattle.act_terms.specs.Contract.{NamedTerms}
use Rattle.act_terms.specs.Reference.{Reference, Target, to_contract, to_market}
use Rattle.act_terms.specs.declared.reference.ReferenceRole.{ReferenceRole}
use Rattle.act_binding.specs.Binding.{Numbered, behind, children_by, children_of, children_with_shadows, kind_within, numbered, shadow_by, shadow_common, shadow_numbers, shadow_of, shadow_on, shadow_with}
use Rattle.act_binding.specs.Links.{Linked, Listing, capped_of, contract_of, fits_kind, is_capped, linked, linked_by, listing_of, may_be_capped, terms_at}
use Rattle.act_cones.specs.Counts.{counts_as}
use Rattle.act_cones.proofs.Lists.{first_behind}
use Rattle.act_binding.proofs.Shadowed.{as_many_numbers}

-- ---- references that fit

-- those of each contract do
abbrev pub AllFit : Listing → List NamedTerms → Type 0
AllFit listing [] = Unit {0}
AllFit listing (c ∷ contracts) = (fits_kind listing c.terms.kind c.references ≡ true) × AllFit listing contracts

-- those of one that is there do
pub fits_at : (listing : Listing) (contracts : List NamedTerms) → AllFit listing contracts → (c : ℕ) (n : NamedTerms) → slice_get contracts c ≡ Some n → fits_kind listing n.terms.kind n.references ≡ true
fits_at listing [] fit c n here = absurd (cc)
fits_at listing (x ∷ contracts) fit zero n here = let same : x ≡ n = same_Some _ _ here in rw (← same) fit.0
fits_at listing (x ∷ contracts) fit (suc c) n here = fits_at listing contracts fit.1 c n here

-- ---- shadows

-- a contract has no shadow and counts as one, or has one and counts as two
pub record HasNone (listing : Listing) (c : NamedTerms) (n : ℕ) : Type 0 where
  none : shadow_of listing (c, n) ≡ None
  one : counts_as c.terms.kind ≡ 1
  behind : behind c.terms.kind n ≡ n
  children : children_of listing (c, n) ≡ map (λ (l : Linked). l.1) (linked listing c.references)

pub record HasOne (listing : Listing) (c : NamedTerms) (n : ℕ) : Type 0 where
  shadow : Terms
  some : shadow_of listing (c, n) ≡ Some shadow
  two : counts_as c.terms.kind ≡ 2
  behind : behind c.terms.kind n ≡ suc n
  children : children_of listing (c, n) ≡ map (λ (l : Linked). l.1) (linked listing c.references) ++ n ∷ []

pub within : (capfl : Capfl) (k : Kind) → may_be_capped k ≡ true → (own : Kind) × (kind_within capfl k ≡ Some own)
within capfl (kind.PAM pam) may = (_, refl)
within capfl (kind.LAM lam) may = (_, refl)
within capfl (kind.NAM nam) may = (_, refl)
within capfl (kind.ANN ann) may = (_, refl)
within capfl (kind.SWPPV swppv) may = (_, refl)
within capfl (kind.STK stk) may = absurd (cc)
within capfl (kind.FXOUT fxout) may = absurd (cc)
within capfl (kind.SWAPS swaps) may = absurd (cc)
within capfl (kind.CAPFL other) may = absurd (cc)
within capfl (kind.OPTNS optns) may = absurd (cc)
within capfl (kind.FUTUR futur) may = absurd (cc)
within capfl (kind.CEG ceg) may = absurd (cc)
within capfl (kind.CEC cec) may = absurd (cc)

with_terms : (capfl : Capfl) (n underlying : ℕ) (terms : Option Terms) → is_capped terms ≡ true → (shadow : Terms) × (option_and_then (shadow_with capfl n underlying) terms ≡ Some shadow)
with_terms capfl n underlying None may = absurd (cc)
with_terms capfl n underlying (Some terms) may = let own = within capfl terms.kind may in (record { common = shadow_common n underlying terms.common; kind = own.0 }, rw own.1 refl)

with_underlying : (listing : Listing) (capfl : Capfl) (n : ℕ) (underlying : Option ℕ) → is_capped (option_and_then (terms_at listing) underlying) ≡ true → (shadow : Terms) × (shadow_on listing capfl n underlying ≡ Some shadow)
with_underlying listing capfl n None may = absurd (cc)
with_underlying listing capfl n (Some underlying) may = with_terms capfl n underlying (terms_at listing underlying) may

pub has_shadow : (listing : Listing) (c : NamedTerms) (n : ℕ) → fits_kind listing c.terms.kind c.references ≡ true → HasNone listing c n ⊎ HasOne listing c n
has_shadow listing c n fit = by_kind c.terms.kind refl fit
  where
    none_of : (k : Kind) → c.terms.kind ≡ k → shadow_by listing n c.references k ≡ None → counts_as k ≡ 1 → behind k n ≡ n → children_by k n (map (λ (l : Linked). l.1) (linked listing c.references)) ≡ map (λ (l : Linked). l.1) (linked listing c.references)
        → HasNone listing c n
    none_of k is none one next children = record { none = rw is none; one = rw is one; behind = rw is next; children = rw is children }

    by_kind : (k : Kind) → c.terms.kind ≡ k → fits_kind listing k c.references ≡ true → HasNone listing c n ⊎ HasOne listing c n
    by_kind (kind.CAPFL capfl) is fit = let shadow = with_underlying listing capfl n (capped_of listing c.references) fit in
        inr (record { shadow = shadow.0; some = rw is shadow.1; two = rw is refl; behind = rw is refl; children = rw is refl })
    by_kind (kind.PAM pam) is fit = inl (none_of (kind.PAM pam) is refl refl refl refl)
    by_kind (kind.LAM lam) is fit = inl (none_of (kind.LAM lam) is refl refl refl refl)
    by_kind (kind.NAM nam) is fit = inl (none_of (kind.NAM nam) is refl refl refl refl)
    by_kind (kind.ANN ann) is fit = inl (none_of (kind.ANN ann) is refl refl refl refl)
    by_kind (kind.SWPPV swppv) is fit = inl (none_of (kind.SWPPV swppv) is refl refl refl refl)
    by_kind (kind.STK stk) is fit = inl (none_of (kind.STK stk) is refl refl refl refl)
    by_kind (kind.FXOUT fxout) is fit = inl (none_of (kind.FXOUT fxout) is refl refl refl refl)
    by_kind (kind.SWAPS swaps) is fit = inl (none_of (kind.SWAPS swaps) is refl refl refl refl)
    by_kind (kind.OPTNS optns) is fit = inl (none_of (kind.OPTNS optns) is refl refl refl refl)
    by_kind (kind.FUTUR futur) is fit = inl (none_of (kind.FUTUR futur) is refl refl refl refl)
    by_kind (kind.CEG ceg) is fit = inl (none_of (kind.CEG ceg) is refl refl refl refl)
    by_kind (kind.CEC cec) is fit = inl (none_of (kind.CEC cec) is refl refl refl refl)

-- the shadows of contracts from a number on
abbrev pub shadows_from : Listing → ℕ → List NamedTerms → List Terms
shadows_from listing next contracts = filter_map (shadow_of listing) (zip contracts (shadow_numbers next contracts))

first_shadow : (listing : Listing) (next : ℕ) (c : NamedTerms) (more : List NamedTerms) → shadows_from listing next (c ∷ more) ≡ cons_option (shadow_of listing (c, next)) (shadows_from listing (behind c.terms.kind next) more)
unfolding shadow_numbers
first_shadow listing next c more = refl

-- contracts with their shadows are as many as they count
pub as_many : (listing : Listing) (next : ℕ) (contracts : List NamedTerms) → AllFit listing contracts → length contracts + length (shadows_from listing next contracts) ≡ sum_by (λ (c : NamedTerms). counts_as c.terms.kind) contracts
as_many listing next [] fit = refl
as_many listing next (c ∷ contracts) fit =
    let count = sum_by-cons (λ (c : NamedTerms). counts_as c.terms.kind) c contracts in
    elim (has_shadow listing c next fit.0) [
      | inl none ↦
          let same : shadows_from listing next (c ∷ contracts) ≡ shadows_from listing next contracts = first_shadow listing next c contracts ∙ rw (none.none, none.behind) refl in
          let rest = as_many listing next contracts fit.1 in
          omega (arith, count, none.one, rest, ap length same)
      | inr some ↦
          let same : shadows_from listing next (c ∷ contracts) ≡ some.shadow ∷ shadows_from listing (suc next) contracts = first_shadow listing next c contracts ∙ rw (some.some, some.behind) refl in
          let rest = as_many listing (suc next) contracts fit.1 in
          omega (arith, count, some.two, rest, ap length same)
    ]

-- a shadow stands at its number, where so many terms stand before the shadows
pub shadow_at : (listing : Listing) (next : ℕ) (contracts : List NamedTerms) (before : List Terms) → length before ≡ next → AllFit listing contracts → (c : ℕ) (n : Numbered) (s : Terms) → slice_get (zip contracts (shadow_numbers next contracts)) c ≡ Some n
    → shadow_of listing n ≡ Some s → slice_get (before ++ shadows_from listing next contracts) n.1 ≡ Some s
unfolding shadow_numbers
shadow_at listing next [] before many fit c n s here is = absurd (cc)
shadow_at listing next (x ∷ contracts) before many fit zero n s here is =
    let same : (x, next) ≡ n = same_Some _ _ here in
    let more = shadows_from listing (behind x.terms.kind next) contracts in
    let first : shadows_from listing next (x ∷ contracts) ≡ s ∷ more = first_shadow listing next x contracts ∙ ap (λ o. cons_option o more) (ap (shadow_of listing) same ∙ is) in
    ap (λ ts. slice_get (before ++ ts) n.1) first ∙ ap (slice_get (before ++ s ∷ more)) (ap (λ (m : Numbered). m.1) (sym same) ∙ sym many) ∙ first_behind before s more
shadow_at listing next (x ∷ contracts) before many fit (suc c) n s here is =
    elim (has_shadow listing x next fit.0) [
      | inl none ↦
          let same : shadows_from listing next (x ∷ contracts) ≡ shadows_from listing next contracts = first_shadow listing next x contracts ∙ rw (none.none, none.behind) refl in
          ap (λ ts. slice_get (before ++ ts) n.1) same ∙ shadow_at listing next contracts before many fit.1 c n s (ap (λ k. slice_get (zip contracts (shadow_numbers k contracts)) c) (sym none.behind) ∙ here) is
      | inr some ↦
          let more = shadows_from listing (suc next) contracts in
          let same : shadows_from listing next (x ∷ contracts) ≡ some.shadow ∷ more = first_shadow listing next x contracts ∙ rw (some.some, some.behind) refl in
          let longer : length (before ++ some.shadow ∷ []) ≡ suc next = omega (arith, length-append before (some.shadow ∷ []), many) in
          ap (λ ts. slice_get (before ++ ts) n.1) same ∙ (ap (λ ts. slice_get ts n.1) (sym (append_assoc before (some.shadow ∷ []) more))
          ∙ shadow_at listing (suc next) contracts (before ++ some.shadow ∷ []) longer fit.1 c n s (ap (λ k. slice_get (zip contracts (shadow_numbers k contracts)) c) (sym some.behind) ∙ here) is)
    ]

-- ---- children

contract_within : (listing : Listing) (target : Target) (c : ℕ) → contract_of listing target ≡ Some c → c < length listing.ids
contract_within listing (to_contract name) c is = (position-Some (bytes_eq name) listing.ids c [] is).0
contract_within listing (to_market code) c is = absurd (cc)

one_within : (m : ℕ) (role : ReferenceRole) (o : Option ℕ) (others : List Linked) → ((c : ℕ) → o ≡ Some c → c < m) → All (λ (child : ℕ). child < m) (map (λ (l : Linked). l.1) others)
    → All (λ (child : ℕ). child < m) (map (λ (l : Linked). l.1) (cons_option (linked_by role o) others))
one_within m role None others here rest = rest
one_within m role (Some c) others here rest = All-cons (λ (child : ℕ). child < m) c (map (λ (l : Linked). l.1) others) (here c refl) rest

linked_within : (listing : Listing) (m : ℕ) (references : List Reference) → length listing.ids ≤ m → All (λ (child : ℕ). child < m) (map (λ (l : Linked). l.1) (linked listing references))
linked_within listing m [] few = All-nil (λ (child : ℕ). child < m)
linked_within listing m (r ∷ references) few =
    one_within m r.role (contract_of listing r.object) (linked listing references) (λ c is. let lt = contract_within listing r.object c is in omega arith) (linked_within listing m references few)

-- a list of children that are contracts
abbrev pub AreWithin : ℕ → List ℕ → Type 0
AreWithin m children = All (λ (child : ℕ). child < m) children

first_children : (listing : Listing) (next : ℕ) (c : NamedTerms) (more : List NamedTerms) → map (children_of listing) (zip (c ∷ more) (shadow_numbers next (c ∷ more)))
    ≡ children_of listing (c, next) ∷ map (children_of listing) (zip more (shadow_numbers (behind c.terms.kind next) more))
unfolding shadow_numbers
first_children listing next c more = refl

pub children_exist : (listing : Listing) (m next : ℕ) (contracts : List NamedTerms) → AllFit listing contracts → length listing.ids ≤ m → next + length (shadows_from listing next contracts) ≤ m
    → All (AreWithin m) (map (children_of listing) (zip contracts (shadow_numbers next contracts)))
children_exist listing m next [] fit few room = All-nil (AreWithin m)
children_exist listing m next (c ∷ contracts) fit few room =
    let linked = linked_within listing m c.references few in
    elim (has_shadow listing c next fit.0) [
      | inl none ↦
          let same : shadows_from listing next (c ∷ contracts) ≡ shadows_from listing next contracts = first_shadow listing next c contracts ∙ rw (none.none, none.behind) refl in
          let rest = children_exist listing m next contracts fit.1 few (omega (arith, room, ap length same)) in
          rw (first_children listing next c contracts, none.children, none.behind) (All-cons (AreWithin m) _ _ linked rest)
      | inr some ↦
          let same : shadows_from listing next (c ∷ contracts) ≡ some.shadow ∷ shadows_from listing (suc next) contracts = first_shadow listing next c contracts ∙ rw (some.some, some.behind) refl in
          let rest = children_exist listing m (suc next) contracts fit.1 few (omega (arith, room, ap length same)) in
          let last : next < m = omega (arith, room, ap length same) in
          let all = All-append (λ (child : ℕ). child < m) _ (next ∷ []) linked (All-cons (λ (child : ℕ). child < m) next [] last (All-nil (λ (child : ℕ). child < m))) in
          rw (first_children listing next c contracts, some.children, some.behind) (All-cons (AreWithin m) _ _ all rest)
    ]

-- those of all contracts and of their shadows, which have none
pub all_exist : (contracts : List NamedTerms) → AllFit (listing_of contracts) contracts → All (AreWithin (length contracts + length (shadows_from (listing_of contracts) (length contracts) contracts))) (children_with_shadows contracts)
all_exist contracts fit =
    let listing = listing_of contracts in
    let shadows = shadows_from listing (length contracts) contracts in
    let m = length contracts + length shadows in
    All-append (AreWithin m) _ _ (children_exist listing m (length contracts) contracts fit (omega (arith, length-map contracts (λ (c : NamedTerms). c.id))) (omega arith))
    (All-map (AreWithin m) (λ (shadow : Terms). []) shadows (λ k d lt. All-nil (λ (child : ℕ). child < m)))

-- ---- the graph

-- what there is before an order
pub record AreRelated (contracts : List NamedTerms) (behind_terms : List Terms) (lists : List (List ℕ)) : Type 0 where
  pub children : lists ≡ children_with_shadows contracts
  pub exist : All (AreWithin (length lists)) lists
  pub count : length lists ≡ length contracts + length behind_terms
  pub few : length lists ≤ sum_by (λ (c : NamedTerms). counts_as c.terms.kind) contracts

pub related : (contracts : List NamedTerms) (listing : Listing) (numbers numbers₂ numbers₃ : List ℕ) (shadows shadows₂ : List Terms) (lists : List (List ℕ)) → AllFit (listing_of contracts) contracts → listing ≡ listing_of contracts
    → numbers ≡ shadow_numbers (length contracts) contracts → numbers₂ ≡ numbers → numbers₃ ≡ numbers → shadows ≡ filter_map (shadow_of listing) (zip contracts numbers₂) → shadows₂ ≡ shadows
    → lists ≡ map (children_of listing) (zip contracts numbers₃) ++ map (λ (s : Terms). []) shadows₂ → AreRelated contracts shadows lists
related contracts listing numbers numbers₂ numbers₃ shadows shadows₂ lists fit listing_is numbers_are same₂ same₃ shadows_are shadows_same lists_are =
    let shadowed : shadows ≡ shadows_from (listing_of contracts) (length contracts) contracts = shadows_are ∙ rw (listing_is, same₂, numbers_are) refl in
    let all : lists ≡ children_with_shadows contracts = lists_are ∙ rw (shadows_same, shadowed, listing_is, same₃, numbers_are) refl in
    let many = as_many_numbers (length contracts) contracts in
    let first = map (children_of (listing_of contracts)) (numbered contracts) in
    let last = map (λ (s : Terms). []) (shadows_from (listing_of contracts) (length contracts) contracts) in
    let first_many : length first ≡ length contracts = omega (arith, length-map (numbered contracts) (children_of (listing_of contracts)), length-zip contracts (shadow_numbers (length contracts) contracts), many) in
    let last_many : length last ≡ length shadows = length-map (shadows_from (listing_of contracts) (length contracts) contracts) (λ (s : Terms). []) ∙ ap length (sym shadowed) in
    let count : length lists ≡ length contracts + length shadows = ap length all ∙ length-append first last ∙ rw (first_many, last_many) refl in
    record {
      children = all;
      exist = subst (λ (ls : List (List ℕ)). All (AreWithin (length lists)) ls) (sym all) (subst (λ (m : ℕ). All (AreWithin m) (children_with_shadows contracts)) (sym (count ∙ rw shadowed refl)) (all_exist contracts fit));
      count = count;
      few = omega (arith, count, as_many (listing_of contracts) (length contracts) contracts fit, ap length shadowed);
    }

-- the same of lists that are kept
pub of_lists : {A : Type 0} (m : ℕ) (lists : List (Vec ℕ A)) → All (AreWithin m) (map (λ (l : Vec ℕ A). l.items) lists) → All (λ (l : Vec ℕ A). AreWithin m l.items) lists
of_lists m [] all = All-nil (λ l. AreWithin m l.items)
of_lists m (l ∷ lists) all = All-cons (λ l. AreWithin m l.items) l lists (all 0 l.items (omega arith)) (of_lists m lists (λ k d lt. all (suc k) d (omega arith)))
