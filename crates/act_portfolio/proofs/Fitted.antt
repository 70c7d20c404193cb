-- The references of each contract fit, where none are refused.
use Rattle.std.proofs.Common.{◌≡◌, ℕ, ◌+◌, Bool, true, false, List, [], ◌∷◌, Option, Some, None, refl}
use Rattle.std.specs.List.{cons_option, enumerate_from, filter_map, slice_get}
use Rattle.act_terms.specs.Contract.{NamedTerms}
use Rattle.act_binding.specs.Links.{Listing, first_unknown, fits_kind, listing_of}
use Rattle.act_binding.proofs.Graphed.{AllFit}
use Rattle.act_portfolio.specs.Fit.{first_unfit, refused_by, unfit}

-- nothing is made of some items
none_made : {A : Type 0} (first : Option A) (others : List A) → slice_get (cons_option first others) 0 ≡ None → (first ≡ None) × (slice_get others 0 ≡ None)
none_made None others none = (refl, none)
none_made (Some x) others none = absurd (cc)

fits : (place : ℕ) (name : Option (List ℕ)) (fit : Bool) → refused_by place name fit ≡ None → fit ≡ true
fits place (Some name) fit none = absurd (cc)
fits place None true none = refl
fits place None false none = absurd (cc)

all_fit_from : (listing : Listing) (place : ℕ) (contracts : List NamedTerms) → slice_get (filter_map (unfit listing) (enumerate_from place contracts)) 0 ≡ None → AllFit listing contracts
all_fit_from listing place [] none = tt
all_fit_from listing place (c ∷ contracts) none =
    let parts = none_made (unfit listing (place, c)) (filter_map (unfit listing) (enumerate_from (place + 1) contracts)) none in
    (fits place (first_unknown listing c.references) (fits_kind listing c.terms.kind c.references) parts.0, all_fit_from listing (place + 1) contracts parts.1)

pub all_fit : (contracts : List NamedTerms) → first_unfit contracts ≡ None → AllFit (listing_of contracts) contracts
all_fit contracts none = all_fit_from (listing_of contracts) 0 contracts none
