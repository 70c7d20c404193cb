-- What a contract's evaluation reads, and which entries of a book touch it. This profile's own.
use Rattle.std.specs.Prelude.{ℕ, zero, suc, ◌==◌, ◌||◌, nat_lt, if◌then◌else◌, Bool, ℤ, List, [], ◌∷◌, ◌++◌, map, take, drop, Option, Some, None}
use Rattle.std.specs.List.{filter, filter_map, flat_map, fold, list_any, slice_get}
use Rattle.std.specs.Option.{unwrap_or}
use Rattle.act_model.specs.declared.observed.Obs.{Obs}
use Rattle.act_model.specs.declared.observed.Obs.TheVariants as obs
use Rattle.act_model.specs.declared.terms.Kind.{Kind}
use Rattle.act_model.specs.declared.terms.Kind.TheVariants as kind
use Rattle.act_model.specs.declared.terms.Loan.{Loan}
use Rattle.act_model.specs.declared.terms.Terms.{Terms}
use Rattle.act_profile.specs.Contract.{factor_of, observed_as}
use Rattle.act_profile.specs.Credit.{market_codes}
use Rattle.act_profile.specs.Dates.{least}
use Rattle.act_profile.specs.Lists.{insert_once_by}
use Rattle.act_profile.specs.Run.{Contracts, deepest}

-- ---- the codes that a contract reads by its terms

-- a code, where it is given
abbrev pub given_code : Option ℕ → List ℕ
given_code None = []
given_code (Some code) = code ∷ []

-- of a loan the reset code, and the scaling code where something is scaled
abbrev pub scaling_codes : Loan → List ℕ
scaling_codes loan =
    if loan.scaling.scaling_effect.interest || loan.scaling.scaling_effect.notional then given_code loan.scaling.market_object_code_of_scaling_index else []

abbrev pub loan_codes : Loan → List ℕ
loan_codes loan = given_code loan.rate_reset.market_object_code_of_rate_reset ++ scaling_codes loan

-- the codes of a kind: of a loan or a plain swap those of resets and scaling, of an outright the currencies', of an option or a future the
-- underlying, of a guarantee the market objects of what it covers, and the collateral
abbrev pub kind_codes : Kind → List ℕ
kind_codes (kind.PAM pam) = loan_codes pam.loan
kind_codes (kind.LAM lam) = loan_codes lam.loan
kind_codes (kind.NAM nam) = loan_codes nam.loan
kind_codes (kind.ANN ann) = loan_codes ann.loan
kind_codes (kind.STK stk) = []
kind_codes (kind.FXOUT fxout) = given_code fxout.pair
kind_codes (kind.SWPPV swppv) = given_code swppv.rate_reset.market_object_code_of_rate_reset
kind_codes (kind.SWAPS swaps) = []
kind_codes (kind.CAPFL capfl) = []
kind_codes (kind.OPTNS optns) = optns.underlying ∷ []
kind_codes (kind.FUTUR futur) = futur.underlying ∷ []
kind_codes (kind.CEG ceg) = market_codes ceg
kind_codes (kind.CEC cec) = market_codes cec.guarantee ++ cec.covering

-- the codes of a contract, with that of its settlement factor
abbrev pub codes_of : Terms → List ℕ
codes_of terms = given_code (factor_of terms.common terms.kind) ++ kind_codes terms.kind

-- ---- the cone of a contract

-- a contract and all that it reaches over so many references, each as often as it is reached
unfoldable pub cone_to : ℕ → Contracts → ℕ → List ℕ
cone_to zero contracts c = []
cone_to (suc n) contracts c = c ∷ flat_map (cone_to n contracts) (unwrap_or (slice_get contracts.children c) [])

-- the numbers of a list, ascending, each once
abbrev pub ascending : List ℕ → List ℕ
ascending numbers = fold (insert_once_by nat_lt) [] numbers

-- the cone of a contract: the contract and all that it reaches, ascending
abbrev pub cone_of : Contracts → ℕ → List ℕ
cone_of contracts c = ascending (cone_to deepest contracts c)

-- the terms of the contracts of a cone
abbrev pub cone_terms : Contracts → ℕ → List Terms
cone_terms contracts c = filter_map (slice_get contracts.terms) (cone_of contracts c)

-- ---- which entries touch a cone

-- the codes that a cone's contracts read
abbrev pub codes_read : Contracts → ℕ → List ℕ
codes_read contracts c = ascending (flat_map codes_of (cone_terms contracts c))

-- the contracts whose events are those of a cone's contracts: a shadow has its underlying's
abbrev pub contracts_read : Contracts → ℕ → List ℕ
contracts_read contracts c = ascending (map (λ terms. observed_as terms.common) (cone_terms contracts c))

-- the number is in the list
abbrev pub is_in : List ℕ → ℕ → Bool
is_in numbers n = list_any (λ m. m == n) numbers

-- an entry touches a cone: it is a rate of a code that the cone reads, or an event of a contract of the cone
abbrev pub touches : List ℕ → List ℕ → Obs → Bool
touches codes contracts (obs.Rate code day value) = is_in codes code
touches codes contracts (obs.Event contract kind day value) = is_in contracts contract

-- the day of an entry
abbrev pub day_of_entry : Obs → ℤ
day_of_entry (obs.Rate code day value) = day
day_of_entry (obs.Event contract kind day value) = day

-- the cut: the least day of the entries from place u up to w that touch the cone, or none
unfoldable pub cut_by : List ℕ → List ℕ → List Obs → ℕ → ℕ → Option ℤ
cut_by codes contracts entries u w = least (map day_of_entry (filter (touches codes contracts) (drop u (take w entries))))

abbrev pub cut_of : Contracts → ℕ → List Obs → ℕ → ℕ → Option ℤ
cut_of contracts c entries u w = cut_by (codes_read contracts c) (contracts_read contracts c) entries u w
