-- What contracts refer to: which references fit a kind, and which contracts and market objects they are. ACTUS data dictionary; which references fit is
-- this profile's own.
use Rattle.std.specs.Prelude.{ℕ, not, ◌==◌, ◌&&◌, ◌||◌, Bool, true, false, List, [], ◌∷◌, map, is_some, slice_get, if◌then◌else◌, Option, Some, None, option_and_then, option_map}
use Rattle.std.specs.List.{filter_map, list_all, list_any}
use Rattle.act_model.specs.Kind.{loan_of}
use Rattle.act_model.specs.Names.{place_of}
use Rattle.act_model.specs.declared.choice.GuaranteedExposure.{GuaranteedExposure}
use Rattle.act_model.specs.declared.choice.GuaranteedExposure.TheVariants as exposure
use Rattle.act_model.specs.declared.terms.Kind.{Kind}
use Rattle.act_model.specs.declared.terms.Kind.TheVariants as kind
use Rattle.act_model.specs.declared.terms.Terms.{Terms}
use Rattle.act_terms.specs.Contract.{NamedTerms}
use Rattle.act_terms.specs.Reference.{Reference, Target, to_contract, to_market}
use Rattle.act_terms.specs.declared.reference.ReferenceRole.{ReferenceRole}
use Rattle.act_terms.specs.declared.reference.ReferenceRole.TheVariants.{UDL, FIL, SEL, COVE, COVI}
use Rattle.act_binding.specs.declared.links.Legs.{Legs}

-- the contracts of a file by their numbers: their names and their terms, which aren't bound to what they refer to yet
pub record Listing : Type 0 where
  pub ids : List (List ℕ)
  pub terms : List Terms

abbrev pub listing_of : List NamedTerms → Listing
listing_of contracts = record { ids = map (λ (c : NamedTerms). c.id) contracts; terms = map (λ (c : NamedTerms). c.terms) contracts }

-- ---- contracts that are referred to

-- the number of the contract that a reference is to
abbrev pub contract_of : Listing → Target → Option ℕ
contract_of listing (to_contract name) = place_of name listing.ids
contract_of listing (to_market code) = None

-- the terms of a contract by its number
abbrev pub terms_at : Listing → ℕ → Option Terms
terms_at listing c = slice_get listing.terms c

-- the contracts that a contract refers to, in the order of its structure, each with its role
abbrev pub Linked : Type 0
Linked = ReferenceRole × ℕ

abbrev pub linked_by : ReferenceRole → Option ℕ → Option Linked
linked_by role contract = option_map (λ c. (role, c)) contract

abbrev pub linked : Listing → List Reference → List Linked
linked listing references = filter_map (λ (r : Reference). linked_by r.role (contract_of listing r.object)) references

-- the name in a reference that no contract has
abbrev pub unknown_in : Listing → Target → Option (List ℕ)
unknown_in listing (to_contract name) = if is_some (place_of name listing.ids) then None else Some name
unknown_in listing (to_market code) = None

-- the first such name of some references
abbrev pub first_unknown : Listing → List Reference → Option (List ℕ)
first_unknown listing references = slice_get (filter_map (λ (r : Reference). unknown_in listing r.object) references) 0

-- ---- the legs of a swap

-- two contracts as the legs of a swap, and whether SEL stands before FIL
abbrev pub legs : Bool → ℕ → ℕ → Legs
legs swapped first second = record { first = first; second = second; swapped = swapped }

-- the legs of two references: one is FIL and one is SEL, and both are to contracts
abbrev pub legs_by : ReferenceRole → ReferenceRole → Option ℕ → Option ℕ → Option Legs
legs_by FIL SEL (Some a) (Some b) = Some (legs false a b)
legs_by SEL FIL (Some a) (Some b) = Some (legs true b a)
legs_by role other a b = None

abbrev pub legs_of : Listing → List Reference → Option Legs
legs_of listing (a ∷ b ∷ []) = legs_by a.role b.role (contract_of listing a.object) (contract_of listing b.object)
legs_of listing other = None

-- a contract is a loan: PAM, LAM, NAM or ANN
abbrev pub is_loan : Option Terms → Bool
is_loan None = false
is_loan (Some terms) = is_some (loan_of terms.kind)

-- the legs are two different loans
abbrev pub are_legs : Listing → Option Legs → Bool
are_legs listing None = false
are_legs listing (Some two) = is_loan (terms_at listing two.first) && is_loan (terms_at listing two.second) && not (two.first == two.second)

-- ---- underlyings

-- a contract that is an underlying, and a market object that is one
abbrev pub capped_by : ReferenceRole → Option ℕ → Option ℕ
capped_by UDL contract = contract
capped_by other contract = None

abbrev pub market_by : ReferenceRole → Target → Option ℕ
market_by UDL (to_market code) = Some code
market_by role target = None

-- the underlying of a cap and floor: the contract of the one reference that there is
abbrev pub capped_of : Listing → List Reference → Option ℕ
capped_of listing (reference ∷ []) = capped_by reference.role (contract_of listing reference.object)
capped_of listing other = None

-- the underlying of an option or a future: the market object of the one reference that there is
abbrev pub underlying_of : List Reference → Option ℕ
underlying_of (reference ∷ []) = market_by reference.role reference.object
underlying_of other = None

-- a kind may have a cap and floor on it: a loan or a plain swap
abbrev pub may_be_capped : Kind → Bool
may_be_capped (kind.SWPPV swppv) = true
may_be_capped other = is_some (loan_of other)

abbrev pub is_capped : Option Terms → Bool
is_capped None = false
is_capped (Some terms) = may_be_capped terms.kind

-- ---- what is covered, and what covers it

-- a contract's own market object
abbrev pub market_of : Option Terms → Option ℕ
market_of None = None
market_of (Some terms) = terms.common.market_object_code

-- a contract may be covered: by its market value only where it has a market object
abbrev pub may_be_covered : GuaranteedExposure → Option Terms → Bool
may_be_covered exposure.MV terms = is_some (market_of terms)
may_be_covered other terms = is_some terms

-- a reference is to what is covered: a contract
abbrev pub is_covered_by : GuaranteedExposure → ReferenceRole → Option Terms → Bool
is_covered_by exposure COVE terms = may_be_covered exposure terms
is_covered_by exposure role terms = false

-- the terms of the contract that a reference is to
abbrev pub terms_referred : Listing → Target → Option Terms
terms_referred listing target = option_and_then (terms_at listing) (contract_of listing target)

abbrev pub is_covered : GuaranteedExposure → Listing → Reference → Bool
is_covered exposure listing reference = is_covered_by exposure reference.role (terms_referred listing reference.object)

-- the market object of a reference: itself, or that of the contract that it is to
abbrev pub market_referred : Listing → Target → Option ℕ
market_referred listing (to_market code) = Some code
market_referred listing target = market_of (terms_referred listing target)

-- the code of a reference to what covers: a market object, or a contract that has one
abbrev pub covering_by : ReferenceRole → Option ℕ → Option ℕ
covering_by COVI code = code
covering_by role code = None

abbrev pub covering_of : Listing → Reference → Option ℕ
covering_of listing reference = covering_by reference.role (market_referred listing reference.object)

-- the references of a guarantee are to what is covered, at least one
abbrev pub are_covered : GuaranteedExposure → Listing → List Reference → Bool
are_covered exposure listing references =
    list_any (is_covered exposure listing) references && list_all (is_covered exposure listing) references

-- the references of collateral are to what is covered and to what covers it, at least one each
abbrev pub are_secured : GuaranteedExposure → Listing → List Reference → Bool
are_secured exposure listing references =
    list_any (is_covered exposure listing) references && list_any (λ r. is_some (covering_of listing r)) references
    && list_all (λ r. is_covered exposure listing r || is_some (covering_of listing r)) references

-- ---- references that fit

-- references fit a kind
abbrev pub fits_kind : Listing → Kind → List Reference → Bool
fits_kind listing (kind.SWAPS swaps) references = are_legs listing (legs_of listing references)
fits_kind listing (kind.CAPFL capfl) references = is_capped (option_and_then (terms_at listing) (capped_of listing references))
fits_kind listing (kind.OPTNS optns) references = is_some (underlying_of references)
fits_kind listing (kind.FUTUR futur) references = is_some (underlying_of references)
fits_kind listing (kind.CEG ceg) references = are_covered ceg.guaranteed_exposure listing references
fits_kind listing (kind.CEC cec) references = are_secured cec.guarantee.guaranteed_exposure listing references
fits_kind listing other references = true
