-- Terms bound to what contracts refer to, and the shadows of underlyings. ACTUS data dictionary; shadows are this profile's own.
use Rattle.std.specs.Prelude.{ℕ, suc, List, [], ◌∷◌, ◌++◌, length, map, slice_get, Option, Some, None, option_and_then, option_map, unwrap_or, Result}
use Rattle.std.specs.List.{enumerate_from, filter_map, zip}
use Rattle.act_date.specs.declared.day_count.DayCount.{DayCount}
use Rattle.act_model.specs.Kind.{loan_of, type_of}
use Rattle.act_model.specs.Run.{EventPlan}
use Rattle.act_model.specs.Terms.{Guarantee}
use Rattle.act_model.specs.declared.run.Stop.{Stop}
use Rattle.act_model.specs.declared.state.State.{State}
use Rattle.act_model.specs.declared.terms.Capfl.{Capfl}
use Rattle.act_model.specs.declared.terms.Common.{Common}
use Rattle.act_model.specs.declared.terms.Covered.{Covered}
use Rattle.act_model.specs.declared.terms.Kind.{Kind}
use Rattle.act_model.specs.declared.terms.Kind.TheVariants as kind
use Rattle.act_model.specs.declared.terms.Loan.{Loan}
use Rattle.act_model.specs.declared.terms.RateReset.{RateReset}
use Rattle.act_model.specs.declared.terms.Swaps.{Swaps}
use Rattle.act_model.specs.declared.terms.Terms.{Terms}
use Rattle.act_profile.specs.Maturity.{maturity_of}
use Rattle.act_profile.specs.Steps.{start_of}
use Rattle.act_binding.specs.declared.links.Legs.{Legs}
use Rattle.act_terms.specs.Contract.{NamedTerms}
use Rattle.act_terms.specs.Reference.{Reference}
use Rattle.act_terms.specs.declared.reference.ReferenceRole.{ReferenceRole}
use Rattle.act_terms.specs.declared.reference.ReferenceRole.TheVariants.{COVE}
use Rattle.act_binding.specs.declared.binding.Binding.{Binding}
use Rattle.act_binding.specs.declared.binding.Binding.TheVariants as binding
use Rattle.act_binding.specs.Links.{Linked, Listing, capped_of, covering_of, legs_of, linked, listing_of, terms_at, underlying_of}

-- ---- shadows

-- the number that the next shadow has, for each contract: shadows stand behind all contracts of the file, in the order of the caps and floors
abbrev pub behind : Kind → ℕ → ℕ
behind (kind.CAPFL capfl) next = suc next
behind other next = next

unfoldable pub shadow_numbers : ℕ → List NamedTerms → List ℕ
shadow_numbers next [] = []
shadow_numbers next (contract ∷ contracts) = next ∷ shadow_numbers (behind contract.terms.kind next) contracts

-- the contracts of a file, each with the number of its shadow, if it has one
abbrev pub Numbered : Type 0
Numbered = NamedTerms × ℕ

abbrev pub numbered : List NamedTerms → List Numbered
numbered contracts = zip contracts (shadow_numbers (length contracts) contracts)

-- how a rate is reset, with another cap and floor in place of its own
abbrev pub reset_within : Capfl → RateReset → RateReset
reset_within capfl reset = record reset { life_cap = capfl.life_cap; life_floor = capfl.life_floor }

abbrev pub loan_within : Capfl → Loan → Loan
loan_within capfl loan = record loan { rate_reset = reset_within capfl loan.rate_reset }

-- a loan or a plain swap with another cap and floor; nothing of another kind, which has no cap and floor on it
abbrev pub kind_within : Capfl → Kind → Option Kind
kind_within capfl (kind.PAM pam) = Some (kind.PAM (record pam { loan = loan_within capfl pam.loan }))
kind_within capfl (kind.LAM lam) = Some (kind.LAM (record lam { loan = loan_within capfl lam.loan }))
kind_within capfl (kind.NAM nam) = Some (kind.NAM (record nam { loan = loan_within capfl nam.loan }))
kind_within capfl (kind.ANN ann) = Some (kind.ANN (record ann { loan = loan_within capfl ann.loan }))
kind_within capfl (kind.SWPPV swppv) = Some (kind.SWPPV (record swppv { rate_reset = reset_within capfl swppv.rate_reset }))
kind_within capfl other = None

-- the shadow of an underlying: its terms with the cap and floor of the contract on it, under a number of its own and with the underlying's observed events
abbrev pub shadow_common : ℕ → ℕ → Common → Common
shadow_common number underlying common = record common { contract = number; underlying = Some underlying }

abbrev pub shadow_with : Capfl → ℕ → ℕ → Terms → Option Terms
shadow_with capfl number underlying terms =
    option_map (λ own. record { common = shadow_common number underlying terms.common; kind = own }) (kind_within capfl terms.kind)

abbrev pub shadow_on : Listing → Capfl → ℕ → Option ℕ → Option Terms
shadow_on listing capfl number None = None
shadow_on listing capfl number (Some underlying) = option_and_then (shadow_with capfl number underlying) (terms_at listing underlying)

abbrev pub shadow_by : Listing → ℕ → List Reference → Kind → Option Terms
shadow_by listing number references (kind.CAPFL capfl) = shadow_on listing capfl number (capped_of listing references)
shadow_by listing number references other = None

-- the shadow of a contract, if it has one
abbrev pub shadow_of : Listing → Numbered → Option Terms
shadow_of listing contract = shadow_by listing contract.1 contract.0.references contract.0.terms.kind

-- the terms of the contracts of a file, and behind them those of their shadows
abbrev pub with_shadows : List NamedTerms → List Terms
with_shadows contracts = (listing_of contracts).terms ++ filter_map (shadow_of (listing_of contracts)) (numbered contracts)

-- ---- children

-- the contracts that a contract's run goes over: those that it refers to in the order of its structure, and a cap's or floor's shadow behind its underlying
abbrev pub children_by : Kind → ℕ → List ℕ → List ℕ
children_by (kind.CAPFL capfl) shadow children = children ++ shadow ∷ []
children_by other shadow children = children

abbrev pub children_of : Listing → Numbered → List ℕ
children_of listing contract = children_by contract.0.terms.kind contract.1 (map (λ (l : Linked). l.1) (linked listing contract.0.references))

-- the children of the contracts of a file, and behind them those of the shadows, which have none
abbrev pub children_with_shadows : List NamedTerms → List (List ℕ)
children_with_shadows contracts =
    map (children_of (listing_of contracts)) (numbered contracts)
    ++ map (λ (shadow : Terms). []) (filter_map (shadow_of (listing_of contracts)) (numbered contracts))

-- ---- what a guarantee knows of a covered contract

-- the day count of a kind that has one
abbrev pub day_count_of : Option Loan → Kind → Option DayCount
day_count_of (Some loan) kind = Some loan.day_count_convention
day_count_of None (kind.SWPPV swppv) = Some swppv.day_count_convention
day_count_of None other = None

-- a covered contract by its number, its place among the children, and its starting state
abbrev pub covered_with : ℕ → ℕ → Terms → Result State Stop → Covered
covered_with contract child terms start = record {
  contract = contract;
  child = child;
  kind = type_of terms.kind;
  count = day_count_of (loan_of terms.kind) terms.kind;
  calendar = terms.common.calendar;
  maturity = maturity_of terms;
  market = terms.common.market_object_code;
  start = start;
}

abbrev pub covered_where : ReferenceRole → ℕ → ℕ → Option Terms → Option EventPlan → Option Covered
covered_where COVE contract child (Some terms) (Some plan) = Some (covered_with contract child terms (start_of terms plan))
covered_where role contract child terms plan = None

abbrev pub covered_at : Listing → List EventPlan → ℕ × Linked → Option Covered
covered_at listing plans one = covered_where one.1.0 one.1.1 one.0 (terms_at listing one.1.1) (slice_get plans one.1.1)

-- the contracts that references cover, in the order of the structure
abbrev pub covered_of : Listing → List EventPlan → List Reference → List Covered
covered_of listing plans references = filter_map (covered_at listing plans) (enumerate_from 0 (linked listing references))

-- ---- bound terms

-- the terms of a kind bound to what its references are to; these fit
abbrev pub with_legs : Swaps → Option Legs → Swaps
with_legs swaps None = swaps
with_legs swaps (Some two) = record swaps { first = two.first; second = two.second; swapped = two.swapped }

abbrev pub guarantee_over : List Covered → Guarantee → Guarantee
guarantee_over covered guarantee = record guarantee { covered = covered }

abbrev pub bound_kind : Listing → List EventPlan → ℕ → List Reference → Kind → Kind
bound_kind listing plans shadow references (kind.SWAPS swaps) = kind.SWAPS (with_legs swaps (legs_of listing references))
bound_kind listing plans shadow references (kind.CAPFL capfl) = kind.CAPFL (record capfl { underlying = unwrap_or (capped_of listing references) 0; shadow = shadow })
bound_kind listing plans shadow references (kind.OPTNS optns) = kind.OPTNS (record optns { underlying = unwrap_or (underlying_of references) 0 })
bound_kind listing plans shadow references (kind.FUTUR futur) = kind.FUTUR (record futur { underlying = unwrap_or (underlying_of references) 0 })
bound_kind listing plans shadow references (kind.CEG ceg) = kind.CEG (guarantee_over (covered_of listing plans references) ceg)
bound_kind listing plans shadow references (kind.CEC cec) =
    kind.CEC (record { guarantee = guarantee_over (covered_of listing plans references) cec.guarantee; covering = filter_map (covering_of listing) references })
bound_kind listing plans shadow references other = other

-- the terms of a contract bound to what it refers to
abbrev pub bound : Listing → List EventPlan → Numbered → Terms
bound listing plans contract =
    record { common = contract.0.terms.common; kind = bound_kind listing plans contract.1 contract.0.references contract.0.terms.kind }

-- the terms of the contracts of a file, bound, and behind them those of their shadows
abbrev pub bound_terms : List NamedTerms → List EventPlan → List Terms
bound_terms contracts plans =
    map (bound (listing_of contracts) plans) (numbered contracts) ++ filter_map (shadow_of (listing_of contracts)) (numbered contracts)

-- ---- what references bind

-- the terms of a kind with what its references bind, where that is for the kind
abbrev pub bind : Binding → Kind → Kind
bind (binding.Legs two) (kind.SWAPS swaps) = kind.SWAPS (record swaps { first = two.first; second = two.second; swapped = two.swapped })
bind (binding.Capped underlying shadow) (kind.CAPFL capfl) = kind.CAPFL (record capfl { underlying = underlying; shadow = shadow })
bind (binding.Underlying code) (kind.OPTNS optns) = kind.OPTNS (record optns { underlying = code })
bind (binding.Underlying code) (kind.FUTUR futur) = kind.FUTUR (record futur { underlying = code })
bind (binding.Covered covered) (kind.CEG ceg) = kind.CEG (guarantee_over covered.items ceg)
bind (binding.Secured covered covering) (kind.CEC cec) = kind.CEC (record { guarantee = guarantee_over covered.items cec.guarantee; covering = covering.items })
bind other kind = kind
