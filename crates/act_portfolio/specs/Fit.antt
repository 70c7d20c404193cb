-- References that fit, or the first that is refused. Which ones fit is this profile's own.
use Rattle.std.specs.Prelude.{ℕ, Bool, true, false, List, slice_get, Option, Some, None, Result, Ok, Err}
use Rattle.std.specs.List.{enumerate_from, filter_map}
use Rattle.act_terms.specs.Contract.{NamedTerms}
use Rattle.act_binding.specs.Links.{Listing, first_unknown, fits_kind, listing_of}
use Rattle.act_refusal.specs.Refusal.{Refusal, bad_reference, unknown_contract}

-- a contract, by its place from 0, that refers to a contract that isn't there, or whose references don't fit
abbrev pub refused_by : ℕ → Option (List ℕ) → Bool → Option Refusal
refused_by place (Some name) fits = Some (unknown_contract place name)
refused_by place None true = None
refused_by place None false = Some (bad_reference place)

abbrev pub unfit : Listing → ℕ × NamedTerms → Option Refusal
unfit listing contract =
    refused_by contract.0 (first_unknown listing contract.1.references) (fits_kind listing contract.1.terms.kind contract.1.references)

-- the first refusal of references
abbrev pub first_unfit : List NamedTerms → Option Refusal
first_unfit contracts = slice_get (filter_map (unfit (listing_of contracts)) (enumerate_from 0 contracts)) 0

-- the references of all contracts fit
abbrev pub fitting : Option Refusal → List NamedTerms → Result (List NamedTerms) Refusal
fitting None contracts = Ok contracts
fitting (Some refusal) contracts = Err refusal
