-- Which names of a contract's object are terms of its type. ACTUS data dictionary.
use Rattle.std.specs.Prelude.{ℕ, not, if◌then◌else◌, Bool, List, [], ◌∷◌, ◌++◌, codes}
use Rattle.std.specs.List.{filter, list_any}
use Rattle.std.specs.Str.{bytes_eq}
use Rattle.act_model.specs.declared.choice.ContractType.{ContractType}
use Rattle.act_model.specs.declared.choice.ContractType.TheVariants as type
use Rattle.act_terms.specs.Common.{may_trade}
use Rattle.act_terms.specs.Names.{may_settle}
use Rattle.serde_json.specs.Data.{Data, object, Members, no_members, member}

-- the terms that every contract has, in the order in which they are read
abbrev pub common_terms : List (List ℕ)
common_terms =
    codes "contractID" ∷ codes "contractType" ∷ codes "contractRole" ∷ codes "statusDate" ∷ codes "currency" ∷ codes "calendar" ∷ codes "businessDayConvention" ∷ codes "endOfMonthConvention"
    ∷ codes "marketObjectCode" ∷ []

-- the terms of every loan
abbrev pub loan_terms : List (List ℕ)
loan_terms =
    codes "initialExchangeDate" ∷ codes "maturityDate" ∷ codes "notionalPrincipal" ∷ codes "nominalInterestRate" ∷ codes "accruedInterest" ∷ codes "premiumDiscountAtIED" ∷ codes "dayCountConvention"
    ∷ codes "cycleAnchorDateOfInterestPayment" ∷ codes "cycleOfInterestPayment" ∷ codes "capitalizationEndDate" ∷ codes "cycleAnchorDateOfRateReset" ∷ codes "cycleOfRateReset" ∷ codes "marketObjectCodeOfRateReset"
    ∷ codes "nextResetRate" ∷ codes "rateSpread" ∷ codes "rateMultiplier" ∷ codes "lifeCap" ∷ codes "lifeFloor" ∷ codes "periodCap" ∷ codes "periodFloor" ∷ codes "cycleAnchorDateOfFee" ∷ codes "cycleOfFee" ∷ codes "feeRate"
    ∷ codes "feeBasis" ∷ codes "feeAccrued" ∷ codes "scalingEffect" ∷ codes "cycleAnchorDateOfScalingIndex" ∷ codes "cycleOfScalingIndex" ∷ codes "marketObjectCodeOfScalingIndex" ∷ codes "scalingIndexAtContractDealDate"
    ∷ codes "penaltyType" ∷ codes "penaltyRate" ∷ []

-- the terms of redemption, of a loan whose principal is redeemed
abbrev pub redemption_terms : List (List ℕ)
redemption_terms =
    codes "cycleAnchorDateOfPrincipalRedemption" ∷ codes "cycleOfPrincipalRedemption" ∷ codes "nextPrincipalRedemptionPayment" ∷ codes "interestCalculationBase" ∷ codes "interestCalculationBaseAmount"
    ∷ codes "cycleAnchorDateOfInterestCalculationBase" ∷ codes "cycleOfInterestCalculationBase" ∷ []

-- the terms of an outright
abbrev pub outright_terms : List (List ℕ)
outright_terms = codes "maturityDate" ∷ codes "notionalPrincipal" ∷ codes "currency2" ∷ codes "notionalPrincipal2" ∷ codes "deliverySettlement" ∷ []

-- the terms of an option
abbrev pub option_terms : List (List ℕ)
option_terms =
    codes "maturityDate" ∷ codes "optionType" ∷ codes "optionStrike1" ∷ codes "optionStrike2" ∷ codes "optionExerciseType" ∷ codes "settlementPeriod" ∷ codes "contractStructure" ∷ []

-- the terms of a future
abbrev pub future_terms : List (List ℕ)
future_terms = codes "maturityDate" ∷ codes "futuresPrice" ∷ codes "settlementPeriod" ∷ codes "contractStructure" ∷ []

-- the terms of a plain swap
abbrev pub plain_swap_terms : List (List ℕ)
plain_swap_terms =
    codes "initialExchangeDate" ∷ codes "maturityDate" ∷ codes "notionalPrincipal" ∷ codes "nominalInterestRate" ∷ codes "nominalInterestRate2" ∷ codes "dayCountConvention"
    ∷ codes "cycleAnchorDateOfInterestPayment" ∷ codes "cycleOfInterestPayment" ∷ codes "cycleAnchorDateOfRateReset" ∷ codes "cycleOfRateReset" ∷ codes "marketObjectCodeOfRateReset"
    ∷ codes "nextResetRate" ∷ codes "rateSpread" ∷ codes "rateMultiplier" ∷ codes "lifeCap" ∷ codes "lifeFloor" ∷ codes "periodCap" ∷ codes "periodFloor" ∷ []

-- the terms of a swap of two contracts
abbrev pub swap_terms : List (List ℕ)
swap_terms = codes "deliverySettlement" ∷ codes "contractStructure" ∷ []

-- the terms of a cap and floor
abbrev pub cap_terms : List (List ℕ)
cap_terms = codes "maturityDate" ∷ codes "lifeCap" ∷ codes "lifeFloor" ∷ codes "contractStructure" ∷ []

-- the terms of a guarantee, also by collateral
abbrev pub guarantee_terms : List (List ℕ)
guarantee_terms =
    codes "maturityDate" ∷ codes "coverageOfCreditEnhancement" ∷ codes "guaranteedExposure" ∷ codes "creditEventTypeCovered" ∷ codes "settlementPeriod" ∷ codes "contractStructure" ∷ []

-- a name is one of some names
abbrev pub is_among : List (List ℕ) → List ℕ → Bool
is_among names name = list_any (λ n. bytes_eq n name) names

-- the terms of a type beside those that it shares with others
abbrev pub own_terms : ContractType → List (List ℕ)
own_terms type.PAM = loan_terms
own_terms type.LAM = loan_terms ++ redemption_terms
own_terms type.NAM = loan_terms ++ redemption_terms
own_terms type.ANN = loan_terms ++ redemption_terms
own_terms type.STK = []
own_terms type.FXOUT = outright_terms
own_terms type.SWPPV = plain_swap_terms
own_terms type.SWAPS = swap_terms
own_terms type.CAPFL = cap_terms
own_terms type.OPTNS = option_terms
own_terms type.FUTUR = future_terms
own_terms type.CEG = guarantee_terms
own_terms type.CEC = guarantee_terms

-- settlementCurrency, which is read behind currency, of a type that uses it
abbrev pub settlement_terms : ContractType → List (List ℕ)
settlement_terms type = if may_settle type then codes "settlementCurrency" ∷ [] else []

-- the terms of purchase and termination, of a type that uses them
abbrev pub trade_terms : ContractType → List (List ℕ)
trade_terms type = if may_trade type then codes "purchaseDate" ∷ codes "priceAtPurchaseDate" ∷ codes "terminationDate" ∷ codes "priceAtTerminationDate" ∷ [] else []

-- the terms that a type shares with others
abbrev pub shared_terms : ContractType → List (List ℕ)
shared_terms type = common_terms ++ settlement_terms type ++ trade_terms type

-- the terms of a type
abbrev pub terms_named : ContractType → List (List ℕ)
terms_named type = shared_terms type ++ own_terms type

-- a name is a term of that type
unfoldable pub is_term_of : ContractType → List ℕ → Bool
is_term_of type name = is_among (terms_named type) name

-- the names of an object, which has each once, in byte order
abbrev pub member_names : Members → List (List ℕ)
member_names no_members = []
member_names (member name value members) = name ∷ member_names members

-- the names of a contract's object that aren't terms of that type, in byte order
unfoldable pub unused_names : ContractType → Data → List (List ℕ)
unused_names type (object members) = filter (λ name. not (is_term_of type name)) (member_names members)
unused_names type other = []
