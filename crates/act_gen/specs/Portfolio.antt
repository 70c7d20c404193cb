-- The portfolio of a number n: n loans, and a swap for every third of them. The names of the terms are those of the ACTUS data
-- dictionary; which contracts there are is this profile's own.
use Rattle.std.specs.Prelude.{ℕ, zero, suc, ◌+◌, ◌-◌, ◌*◌, ◌%◌, ◌==◌, if◌then◌else◌, List, [], ◌∷◌, ◌++◌, map, filter, codes, decimal}
use Rattle.act_gen.specs.Draws.{draw}
use Rattle.act_gen.specs.Json.{array, object, member, rate_text, text_member}

-- the numbers from 1 to n
abbrev pub numbers : ℕ → List ℕ
numbers zero = []
numbers (suc n) = numbers n ++ suc n ∷ []

-- the name of the ith loan
abbrev pub loan_name : ℕ → List ℕ
loan_name i = codes "C" ++ decimal i

-- the loans are PAM, LAM and ANN in turn
abbrev pub loan_type : ℕ → List ℕ
loan_type i = if i % 3 == 1 then codes "PAM" else (if i % 3 == 2 then codes "LAM" else codes "ANN")

-- LAM is redeemed quarterly and ANN monthly
abbrev pub redemption_cycle : ℕ → List ℕ
redemption_cycle i = if i % 3 == 2 then codes "P3ML1" else codes "P1ML1"

-- PAM has no cycle of redemption
abbrev pub redemption : ℕ → List (List ℕ)
redemption i = if i % 3 == 1 then [] else text_member (codes "cycleOfPrincipalRedemption") (redemption_cycle i) ∷ []

-- the ith loan, with its notional and its rate in units of 10^-4
unfoldable pub loan : ℕ → ℕ → ℕ → List ℕ
loan i notional rate = object (
    text_member (codes "contractID") (loan_name i)
    ∷ text_member (codes "contractType") (loan_type i)
    ∷ text_member (codes "contractRole") (codes "RPA")
    ∷ text_member (codes "statusDate") (codes "2019-12-31")
    ∷ text_member (codes "currency") (codes "EUR")
    ∷ text_member (codes "initialExchangeDate") (codes "2020-01-01")
    ∷ text_member (codes "maturityDate") (codes "2030-01-01")
    ∷ text_member (codes "dayCountConvention") (codes "A365")
    ∷ text_member (codes "cycleOfInterestPayment") (codes "P1ML1")
    ∷ text_member (codes "cycleAnchorDateOfRateReset") (codes "2020-07-01")
    ∷ text_member (codes "cycleOfRateReset") (codes "P6ML1")
    ∷ text_member (codes "marketObjectCodeOfRateReset") (codes "M6")
    ∷ member (codes "notionalPrincipal") (decimal notional)
    ∷ member (codes "nominalInterestRate") (rate_text rate)
    ∷ redemption i)

-- the ith loan as a leg of a swap, in this role
unfoldable pub leg : ℕ → List ℕ → List ℕ
leg i role = object (
    text_member (codes "object") (loan_name i)
    ∷ text_member (codes "referenceType") (codes "CID")
    ∷ text_member (codes "referenceRole") role ∷ [])

-- the legs of the ith swap are the two loans before the ith
abbrev pub legs : ℕ → List ℕ
legs i = array (leg (i - 2) (codes "FIL") ∷ leg (i - 1) (codes "SEL") ∷ [])

-- the terms of the ith swap before its legs
abbrev pub swap_terms : ℕ → List (List ℕ)
swap_terms i =
    text_member (codes "contractID") (codes "S" ++ decimal i)
    ∷ text_member (codes "contractType") (codes "SWAPS")
    ∷ text_member (codes "contractRole") (codes "RFL")
    ∷ text_member (codes "statusDate") (codes "2019-12-31")
    ∷ text_member (codes "currency") (codes "EUR")
    ∷ text_member (codes "deliverySettlement") (codes "S") ∷ []

-- the ith swap
unfoldable pub swap : ℕ → List ℕ
swap i = object (swap_terms i ++ member (codes "contractStructure") (legs i) ∷ [])

-- the ith loan is made of the draws 2i-1 and 2i from the seed n: a notional from 1000 to 9999, and a rate from 0.01 to 0.0599
unfoldable pub drawn_loan : ℕ → ℕ → List ℕ
drawn_loan n i = loan i (1000 + draw n (2 * i - 1) 9000) (100 + draw n (2 * i) 500)

-- the loans 1 to n, and then the ith swap for each i up to n that 3 divides
unfoldable pub portfolio_text : ℕ → List ℕ
portfolio_text n = array (map (drawn_loan n) (numbers n) ++ map swap (filter (λ i. i % 3 == 0) (numbers n)))
