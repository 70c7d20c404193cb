-- What the terms of a contract name is among the names: whatever is read, the names of contracts stay, and codes and currencies have numbers below the
-- counts of those that come with it, which are no fewer than before.
use Rattle.std.proofs.Common.{◌≡◌, ℕ, ℤ, ◌<◌, ◌≤◌, ◌||◌, Bool, true, false, if◌then◌else◌, List, [], ◌∷◌, length, codes, is_some, unwrap_or, Option, Some, None, Result, Ok, Err, IfOk, refl, ◌∙◌, arith}
use Rattle.std.proofs.lemmas.List.Elements.{All-append, All-cons, All-nil}
use Rattle.std.proofs.lemmas.Result.{IfOk-at_ok}
use Rattle.std.specs.List.{All}
use Rattle.std.specs.Str.{bytes_eq}
use Rattle.act_model.proofs.NamePlaces.{no_fewer, number_below}
use Rattle.act_model.specs.Names.{NameLists, with_name}
use Rattle.act_model.specs.declared.choice.ContractType.{ContractType}
use Rattle.act_model.specs.declared.choice.ContractType.TheVariants as type
use Rattle.act_model.specs.declared.choice.DeliverySettlement.{DeliverySettlement}
use Rattle.act_model.specs.declared.choice.DeliverySettlement.TheVariants as delivery
use Rattle.act_model.specs.declared.terms.Common.{Common}
use Rattle.act_model.specs.declared.terms.Kind.{Kind}
use Rattle.act_model.specs.declared.terms.Kind.TheVariants as kind
use Rattle.act_model.specs.declared.terms.Loan.{Loan}
use Rattle.act_model.specs.declared.terms.RateReset.{RateReset}
use Rattle.act_model.specs.declared.terms.Scaling.{Scaling}
use Rattle.act_model.specs.declared.terms.Terms.{Terms}
use Rattle.act_profile.specs.Outcomes.{then_ok}
use Rattle.act_profile.specs.Printable.{IsBelow, OtherIsNamed}
use Rattle.act_profile.specs.Reads.{given_code, loan_codes, scaling_codes}
use Rattle.act_json.specs.Fields.{decimal_field, word_field}
use Rattle.act_terms.specs.Choices.{delivery_named, reference_role_named, reference_type_named, scaling_effect_named}
use Rattle.act_terms.specs.Common.{business_days_of, common_of, position_of, trades_of}
use Rattle.act_terms.specs.Contract.{NamedTerms, contract_type, kind_of, named_terms_of, naming_kind, plain_kind, terms_of}
use Rattle.act_terms.specs.Credit.{cec_of, ceg_of}
use Rattle.act_terms.specs.Exchange.{currency2_of, fxout_of, pair_of, rate_name}
use Rattle.act_terms.specs.Exercise.{futur_of, optns_of}
use Rattle.act_terms.specs.Fields.{choice_field, day_after, needed, needed_day, needed_where, not_negative, optional, optional_cycle, optional_day, optional_decimal, positive}
use Rattle.act_terms.specs.Loan.{fee_of, interest_dates_of, interest_of, loan_of, loan_with, no_effect, pam_of, penalty_of, rate_limits_of, rate_reset_of, reset_code_for, scales, scaling_of}
use Rattle.act_terms.specs.Named.{Grow, IsNamedIn, TargetIsNamed, unbound_codes}
use Rattle.act_terms.specs.Names.{code_where, contract_id, currencies_of, currency_field, numbered, numbered_currencies, pair_name, settlement_of, with_currency}
use Rattle.act_terms.specs.Redemption.{ann_of, calculation_base_of, lam_of, lam_payment_of, nam_of, redemption_dates_of}
use Rattle.act_terms.specs.Structure.{choice_or_refusal, contract_inside, contract_inside_by, contract_named, contract_text, elements_of, has_structure, inner_object, market_named, market_text, name_or_refusal, reference_of, reference_within, references_from, references_of, referred_of, structure_of, with_names}
use Rattle.act_terms.specs.Reference.{Reference, Target, to_contract, to_market}
use Rattle.act_terms.specs.Swap.{capfl_of, plain_interest_of, swaps_of, swppv_of}
use Rattle.act_terms.specs.declared.currencies.Currencies.{Currencies}
use Rattle.act_terms.specs.declared.fault.TermsFault.{TermsFault}
use Rattle.act_terms.specs.declared.reference.ReferenceType.{ReferenceType}
use Rattle.act_terms.specs.declared.reference.ReferenceType.TheVariants.{CNT, CID, MOC}
use Rattle.serde_json.specs.Data.{Data, object}

-- ---- names behind others

-- names with the same contracts as before, and with no fewer codes and currencies
record IsBehind (before after : NameLists) : Type 0 where
  contracts : after.contracts ≡ before.contracts
  grown : Grow before after

same : (names : NameLists) → IsBehind names names
same names = record { contracts = refl; grown = record { codes = omega arith; currencies = omega arith } }

onwards : (before middle after : NameLists) → IsBehind before middle → IsBehind middle after → IsBehind before after
onwards before middle after one two =
    record { contracts = two.contracts ∙ one.contracts; grown = record { codes = omega arith; currencies = omega arith } }

-- what is read comes with such names, and something holds of it among these
abbrev Gives : {A : Type 0} → NameLists → (NameLists → A → Type 0) → Result (A × NameLists) TermsFault → Type 0
Gives before P read = IfOk read (λ r. IsBehind before r.1 × P r.1 r.0)

from_before : {A : Type 0} (P : NameLists → A → Type 0) (before middle : NameLists) (read : Result (A × NameLists) TermsFault) → IsBehind before middle → Gives middle P read → Gives before P read
from_before P before middle (Ok r) behind gives = (onwards before middle r.1 behind gives.0, gives.1)
from_before P before middle (Err fault) behind gives = tt

module _ {B : Type 0} (P : NameLists → B → Type 0) (names : NameLists) where
  -- a term that names nothing, and those behind it
  plain : {A : Type 0} (next : A → Result (B × NameLists) TermsFault) (read : Result A TermsFault) → ((x : A) → Gives names P (next x)) → Gives names P (then_ok next read)
  plain next (Ok x) gives = gives x
  plain next (Err fault) gives = tt

  -- a term that may add names, and those behind it, which go on from these names
  naming : {A : Type 0} (Q : NameLists → A → Type 0) (next : A × NameLists → Result (B × NameLists) TermsFault) (read : Result (A × NameLists) TermsFault) → Gives names Q read
      → ((x : A) (more : NameLists) → Grow names more → Q more x → Gives more P (next (x, more))) → Gives names P (then_ok next read)
  naming Q next (Ok x) here gives = from_before P names x.1 (next x) here.0 (gives x.0 x.1 here.0.grown here.1)
  naming Q next (Err fault) here gives = tt

-- ---- what is named among so many stays so among more

below_more : (few many : ℕ) (number : Option ℕ) → few ≤ many → IsBelow few number → IsBelow many number
below_more few many None more below = tt
below_more few many (Some number) more below = omega arith

abbrev AreBelow : ℕ → List ℕ → Type 0
AreBelow count numbers = All (λ number. number < count) numbers

all_more : (few many : ℕ) (numbers : List ℕ) → few ≤ many → AreBelow few numbers → AreBelow many numbers
all_more few many numbers more below k d within = let here = below k d within in omega arith

other_more : (few many : ℕ) (own : Kind) → few ≤ many → OtherIsNamed few own → OtherIsNamed many own
other_more few many (kind.FXOUT fxout) more below = omega arith
other_more few many other more below = tt

target_more : (few many : ℕ) (target : Target) → few ≤ many → TargetIsNamed few target → TargetIsNamed many target
target_more few many (to_contract name) more below = tt
target_more few many (to_market code) more below = omega arith

-- ---- what is named of each part of the terms

abbrev CodeIsNamed : NameLists → Option ℕ → Type 0
CodeIsNamed names code = IsBelow (length names.codes) code

abbrev CurrencyIsNamed : NameLists → ℕ → Type 0
CurrencyIsNamed names currency = currency < length names.currencies

record MoneyIsNamed (names : NameLists) (money : Currencies) : Type 0 where
  currency : CurrencyIsNamed names money.currency
  settlement : IsBelow (length names.currencies) money.settlement_currency
  factor : CodeIsNamed names money.factor

abbrev ResetIsNamed : NameLists → RateReset → Type 0
ResetIsNamed names reset = CodeIsNamed names reset.market_object_code_of_rate_reset

abbrev ScalingIsNamed : NameLists → Scaling → Type 0
ScalingIsNamed names scaling = CodeIsNamed names scaling.market_object_code_of_scaling_index

abbrev LoanIsNamed : NameLists → Loan → Type 0
LoanIsNamed names loan = AreBelow (length names.codes) (loan_codes loan)

record CommonIsNamed (names : NameLists) (common : Common) : Type 0 where
  money : MoneyIsNamed names (record { currency = common.currency; settlement_currency = common.settlement_currency; factor = common.factor })
  market : CodeIsNamed names common.market_object_code

record KindIsNamed (names : NameLists) (own : Kind) : Type 0 where
  codes_read : AreBelow (length names.codes) (unbound_codes own)
  other : OtherIsNamed (length names.currencies) own

-- terms, as those of a kind
abbrev As : {A : Type 0} → (A → Kind) → NameLists → A → Type 0
As make names terms = KindIsNamed names (make terms)

record TermsAreNamed (names : NameLists) (terms : Terms) : Type 0 where
  common : CommonIsNamed names terms.common
  own : KindIsNamed names terms.kind

abbrev TargetIs : NameLists → Target → Type 0
TargetIs names target = TargetIsNamed (length names.codes) target

abbrev ReferenceIs : NameLists → Reference → Type 0
ReferenceIs names reference = TargetIs names reference.object

abbrev ReferencesAre : NameLists → List Reference → Type 0
ReferencesAre names references = All (ReferenceIs names) references

-- ---- and among names that are no fewer

money_more : (names more : NameLists) (money : Currencies) → Grow names more → MoneyIsNamed names money → MoneyIsNamed more money
money_more names more money grown named = record {
  currency = omega arith;
  settlement = below_more _ _ money.settlement_currency grown.currencies named.settlement;
  factor = below_more _ _ money.factor grown.codes named.factor;
}

common_more : (names more : NameLists) (common : Common) → Grow names more → CommonIsNamed names common → CommonIsNamed more common
common_more names more common grown named = record {
  money = money_more names more _ grown named.money;
  market = below_more _ _ common.market_object_code grown.codes named.market;
}

kind_more : (names more : NameLists) (own : Kind) → Grow names more → KindIsNamed names own → KindIsNamed more own
kind_more names more own grown named = record {
  codes_read = all_more _ _ (unbound_codes own) grown.codes named.codes_read;
  other = other_more _ _ own grown.currencies named.other;
}

references_more : (names more : NameLists) (references : List Reference) → Grow names more → ReferencesAre names references → ReferencesAre more references
references_more names more references grown named k d within = target_more _ _ _ grown.codes (named k d within)

together : (names : NameLists) (contract : NamedTerms) → TermsAreNamed names contract.terms → ReferencesAre names contract.references → IsNamedIn names contract
together names contract terms references = record {
  factor = terms.common.money.factor;
  market = terms.common.market;
  codes_read = terms.own.codes_read;
  currency = terms.common.money.currency;
  settlement = terms.common.money.settlement;
  other = terms.own.other;
  references = references;
}

apart : (names : NameLists) (contract : NamedTerms) → IsNamedIn names contract → TermsAreNamed names contract.terms
apart names contract named = record {
  common = record { money = record { currency = named.currency; settlement = named.settlement; factor = named.factor }; market = named.market };
  own = record { codes_read = named.codes_read; other = named.other };
}

terms_more : (names more : NameLists) (terms : Terms) → Grow names more → TermsAreNamed names terms → TermsAreNamed more terms
terms_more names more terms grown named =
    record { common = common_more names more terms.common grown named.common; own = kind_more names more terms.kind grown named.own }

-- what a contract names among names it names among those that are no fewer
pub named_more : (names more : NameLists) (contract : NamedTerms) → Grow names more → IsNamedIn names contract → IsNamedIn more contract
named_more names more contract grown named =
    together more contract (terms_more names more contract.terms grown (apart names contract named)) (references_more names more contract.references grown named.references)

-- ---- codes and currencies

code_added : (code : List ℕ) (names : NameLists) → IsBehind names (record names { codes = with_name code names.codes })
code_added code names = record { contracts = refl; grown = record { codes = no_fewer code names.codes; currencies = omega arith } }

currency_gives : (currency : List ℕ) (names : NameLists) → Gives names CurrencyIsNamed (Ok (with_currency currency names))
currency_gives currency names =
    (record { contracts = refl; grown = record { codes = omega arith; currencies = no_fewer currency names.currencies } }, number_below currency names.currencies)

numbered_gives : (code : Option (List ℕ)) (names : NameLists) → Gives names CodeIsNamed (Ok (numbered code names))
numbered_gives None names = (same names, tt)
numbered_gives (Some code) names = (code_added code names, number_below code names.codes)

factor_gives : (alike : Bool) (pair : List ℕ) (names : NameLists) → Gives names CodeIsNamed (Ok (if alike then (None, names) else numbered (Some pair) names))
factor_gives true pair names = (same names, tt)
factor_gives false pair names = numbered_gives (Some pair) names

both_give : (currency : List ℕ) (settlement : Option (List ℕ)) (names : NameLists) → Gives names MoneyIsNamed (Ok (numbered_currencies currency settlement names))
both_give currency None names =
    let first = currency_gives currency names in
    (first.0, record { currency = first.1; settlement = tt; factor = tt })
both_give currency (Some settlement) names =
    let first = currency_gives currency names in
    let middle = (with_currency currency names).1 in
    let second = currency_gives settlement middle in
    let after = (with_currency settlement middle).1 in
    let factor = factor_gives (bytes_eq currency settlement) (pair_name currency settlement) after in
    (onwards names after _ (onwards names middle after first.0 second.0) factor.0, record { currency = omega arith; settlement = omega arith; factor = factor.1 })

module _ (names : NameLists) (contract : Data) where
  code_gives : (wanted : Bool) (term : List ℕ) → Gives names CodeIsNamed (code_where wanted term names contract)
  unfolding code_where
  code_gives wanted term = plain CodeIsNamed names _ (needed_where wanted term (word_field term contract)) (λ code. numbered_gives code names)

  currencies_give : (type : ContractType) → Gives names MoneyIsNamed (currencies_of type names contract)
  unfolding currencies_of
  currencies_give type =
      plain MoneyIsNamed names _ (needed (codes "currency") (currency_field (codes "currency") contract)) (λ currency.
      plain MoneyIsNamed names _ (settlement_of type contract) (λ settlement.
      both_give currency settlement names))

  reset_gives : Gives names ResetIsNamed (rate_reset_of names contract)
  unfolding rate_reset_of
  reset_gives =
      plain ResetIsNamed names _ (optional_day (codes "cycleAnchorDateOfRateReset") contract) (λ anchor.
      plain ResetIsNamed names _ (optional_cycle (codes "cycleOfRateReset") contract) (λ cycle.
      naming ResetIsNamed names CodeIsNamed _ (code_where (is_some anchor || is_some cycle) (codes "marketObjectCodeOfRateReset") names contract) (code_gives _ _) (λ code more grown named.
      plain ResetIsNamed more _ (optional_decimal (codes "nextResetRate") contract) (λ next.
      plain ResetIsNamed more _ (optional_decimal (codes "rateSpread") contract) (λ spread.
      plain ResetIsNamed more _ (optional_decimal (codes "rateMultiplier") contract) (λ multiplier.
      plain ResetIsNamed more _ (rate_limits_of contract) (λ limits. (same more, named))))))))

  scaling_gives : Gives names ScalingIsNamed (scaling_of names contract)
  unfolding scaling_of
  scaling_gives =
      plain ScalingIsNamed names _ (optional (codes "scalingEffect") (choice_field scaling_effect_named (codes "scalingEffect") contract)) (λ given.
      plain ScalingIsNamed names _ (optional_day (codes "cycleAnchorDateOfScalingIndex") contract) (λ anchor.
      plain ScalingIsNamed names _ (optional_cycle (codes "cycleOfScalingIndex") contract) (λ cycle.
      naming ScalingIsNamed names CodeIsNamed _ (code_where (scales (unwrap_or given no_effect)) (codes "marketObjectCodeOfScalingIndex") names contract) (code_gives _ _) (λ code more grown named.
      plain ScalingIsNamed more _ (needed_where (scales (unwrap_or given no_effect)) (codes "scalingIndexAtContractDealDate") (positive (codes "scalingIndexAtContractDealDate") contract)) (λ index. (same more, named))))))

-- ---- the codes of kinds

no_codes : (count : ℕ) → AreBelow count []
no_codes count = All-nil (λ (number : ℕ). number < count)

given_below : (count : ℕ) (code : Option ℕ) → IsBelow count code → AreBelow count (given_code code)
given_below count None below = no_codes count
given_below count (Some code) below = All-cons (λ (number : ℕ). number < count) code [] below (no_codes count)

where_scaled : (count : ℕ) (scaled : Bool) (code : Option ℕ) → IsBelow count code → AreBelow count (if scaled then given_code code else [])
where_scaled count true code below = given_below count code below
where_scaled count false code below = no_codes count

loan_below : (count : ℕ) (loan : Loan) → IsBelow count loan.rate_reset.market_object_code_of_rate_reset → IsBelow count loan.scaling.market_object_code_of_scaling_index → AreBelow count (loan_codes loan)
loan_below count loan reset scaling =
    All-append (λ (number : ℕ). number < count) (given_code loan.rate_reset.market_object_code_of_rate_reset) (scaling_codes loan)
    (given_below count loan.rate_reset.market_object_code_of_rate_reset reset)
    (where_scaled count (loan.scaling.scaling_effect.interest || loan.scaling.scaling_effect.notional) loan.scaling.market_object_code_of_scaling_index scaling)

module _ (names : NameLists) (contract : Data) where
  common_gives : (type : ContractType) (number : ℕ) → Gives names CommonIsNamed (common_of type number names contract)
  unfolding common_of
  common_gives type number =
      plain CommonIsNamed names _ (position_of contract) (λ position.
      naming CommonIsNamed names MoneyIsNamed _ (currencies_of type names contract) (currencies_give names contract type) (λ money after _ money_named.
      plain CommonIsNamed after _ (business_days_of contract) (λ days.
      naming CommonIsNamed after CodeIsNamed _ (code_where false (codes "marketObjectCode") after contract) (code_gives after contract _ _) (λ market more grown market_named.
      plain CommonIsNamed more _ (trades_of type contract) (λ trades.
      (same more, record { money = money_more after more money grown money_named; market = market_named }))))))

  loan_gives : (exchange : ℤ) → Gives names LoanIsNamed (loan_of exchange names contract)
  unfolding loan_of
  loan_gives exchange =
      plain LoanIsNamed names _ (needed (codes "notionalPrincipal") (not_negative (codes "notionalPrincipal") contract)) (λ notional.
      plain LoanIsNamed names _ (interest_of contract) (λ interest.
      plain LoanIsNamed names _ (interest_dates_of contract) (λ dates.
      naming LoanIsNamed names ResetIsNamed _ (rate_reset_of names contract) (reset_gives names contract) (λ reset after _ reset_named.
      plain LoanIsNamed after _ (fee_of contract) (λ fee.
      naming LoanIsNamed after ScalingIsNamed _ (scaling_of after contract) (scaling_gives after contract) (λ scaling more grown scaling_named.
      plain LoanIsNamed more _ (penalty_of contract) (λ penalty.
      plain LoanIsNamed more _ (reset_code_for penalty.penalty_type reset.market_object_code_of_rate_reset) (λ code. (
        same more,
        loan_below (length more.codes) (loan_with exchange notional interest dates reset fee scaling penalty)
            (below_more _ _ reset.market_object_code_of_rate_reset grown.codes reset_named) scaling_named,
      )))))))))

  pam_gives : Gives names (As kind.PAM) (pam_of names contract)
  unfolding pam_of
  pam_gives =
      plain (As kind.PAM) names _ (needed_day (codes "initialExchangeDate") contract) (λ exchange.
      plain (As kind.PAM) names _ (needed (codes "maturityDate") (day_after exchange (codes "maturityDate") contract)) (λ maturity.
      naming (As kind.PAM) names LoanIsNamed _ (loan_of exchange names contract) (loan_gives exchange) (λ loan more _ named.
      (same more, record { codes_read = named; other = tt }))))

module _ (names : NameLists) (contract : Data) where
  lam_gives : Gives names (As kind.LAM) (lam_of names contract)
  unfolding lam_of
  lam_gives =
      plain (As kind.LAM) names _ (needed_day (codes "initialExchangeDate") contract) (λ exchange.
      plain (As kind.LAM) names _ (optional (codes "maturityDate") (day_after exchange (codes "maturityDate") contract)) (λ maturity.
      naming (As kind.LAM) names LoanIsNamed _ (loan_of exchange names contract) (loan_gives names contract exchange) (λ loan more _ named.
      plain (As kind.LAM) more _ (redemption_dates_of (is_some maturity) contract) (λ dates.
      plain (As kind.LAM) more _ (lam_payment_of maturity contract) (λ payment.
      plain (As kind.LAM) more _ (calculation_base_of contract) (λ base.
      (same more, record { codes_read = named; other = tt })))))))

  nam_gives : Gives names (As kind.NAM) (nam_of names contract)
  unfolding nam_of
  nam_gives =
      naming (As kind.NAM) names (As kind.PAM) _ (pam_of names contract) (pam_gives names contract) (λ pam more _ named.
      plain (As kind.NAM) more _ (redemption_dates_of true contract) (λ dates.
      plain (As kind.NAM) more _ (needed (codes "nextPrincipalRedemptionPayment") (decimal_field (codes "nextPrincipalRedemptionPayment") contract)) (λ payment.
      plain (As kind.NAM) more _ (calculation_base_of contract) (λ base.
      (same more, record { codes_read = named.codes_read; other = tt })))))

  ann_gives : Gives names (As kind.ANN) (ann_of names contract)
  unfolding ann_of
  ann_gives =
      naming (As kind.ANN) names (As kind.PAM) _ (pam_of names contract) (pam_gives names contract) (λ pam more _ named.
      plain (As kind.ANN) more _ (redemption_dates_of true contract) (λ dates.
      plain (As kind.ANN) more _ (optional_decimal (codes "nextPrincipalRedemptionPayment") contract) (λ payment.
      plain (As kind.ANN) more _ (calculation_base_of contract) (λ base.
      (same more, record { codes_read = named.codes_read; other = tt })))))

module _ (names : NameLists) (contract : Data) where
  currency2_gives : Gives names CurrencyIsNamed (currency2_of names contract)
  unfolding currency2_of
  currency2_gives =
      plain CurrencyIsNamed names _ (needed (codes "currency2") (currency_field (codes "currency2") contract)) (λ currency2. currency_gives currency2 names)

  pair_gives : (delivery : DeliverySettlement) → Gives names CodeIsNamed (pair_of delivery names contract)
  unfolding pair_of
  pair_gives delivery.D = (same names, tt)
  pair_gives delivery.S = plain CodeIsNamed names _ (rate_name contract) (λ pair. numbered_gives (Some pair) names)

module _ (names : NameLists) (contract : Data) where
  fxout_gives : Gives names (As kind.FXOUT) (fxout_of names contract)
  unfolding fxout_of
  fxout_gives =
      plain (As kind.FXOUT) names _ (needed_day (codes "maturityDate") contract) (λ maturity.
      plain (As kind.FXOUT) names _ (needed (codes "notionalPrincipal") (not_negative (codes "notionalPrincipal") contract)) (λ notional.
      naming (As kind.FXOUT) names CurrencyIsNamed _ (currency2_of names contract) (currency2_gives names contract) (λ currency2 after _ currency2_named.
      plain (As kind.FXOUT) after _ (needed (codes "notionalPrincipal2") (not_negative (codes "notionalPrincipal2") contract)) (λ notional2.
      plain (As kind.FXOUT) after _ (optional (codes "deliverySettlement") (choice_field delivery_named (codes "deliverySettlement") contract)) (λ given.
      naming (As kind.FXOUT) after CodeIsNamed _ (pair_of (unwrap_or given delivery.D) after contract) (pair_gives after contract _) (λ pair more grown pair_named.
      (same more, record { codes_read = given_below (length more.codes) pair pair_named; other = omega arith })))))))

  swppv_gives : Gives names (As kind.SWPPV) (swppv_of names contract)
  unfolding swppv_of
  swppv_gives =
      plain (As kind.SWPPV) names _ (needed_day (codes "initialExchangeDate") contract) (λ exchange.
      plain (As kind.SWPPV) names _ (needed (codes "maturityDate") (day_after exchange (codes "maturityDate") contract)) (λ maturity.
      plain (As kind.SWPPV) names _ (needed (codes "notionalPrincipal") (not_negative (codes "notionalPrincipal") contract)) (λ notional.
      plain (As kind.SWPPV) names _ (plain_interest_of contract) (λ interest.
      naming (As kind.SWPPV) names ResetIsNamed _ (rate_reset_of names contract) (reset_gives names contract) (λ reset more _ named.
      (same more, record { codes_read = given_below (length more.codes) reset.market_object_code_of_rate_reset named; other = tt }))))))

  -- terms that name things, and terms that name none, as those of a kind
  as_named : {A : Type 0} (make : A → Kind) (read : Result (A × NameLists) TermsFault) → Gives names (As make) read → Gives names KindIsNamed (naming_kind make read)
  as_named make read here = naming KindIsNamed names (As make) _ read here (λ terms more _ named. (same more, named))

  as_plain : {A : Type 0} (make : A → Kind) (read : Result A TermsFault) → ((terms : A) → As make names terms) → Gives names KindIsNamed (plain_kind make names read)
  as_plain make read named = plain KindIsNamed names _ read (λ terms. (same names, named terms))

  kind_gives : (type : ContractType) → Gives names KindIsNamed (kind_of type names contract)
  unfolding kind_of
  kind_gives type.PAM = as_named kind.PAM (pam_of names contract) (pam_gives names contract)
  kind_gives type.LAM = as_named kind.LAM (lam_of names contract) (lam_gives names contract)
  kind_gives type.NAM = as_named kind.NAM (nam_of names contract) (nam_gives names contract)
  kind_gives type.ANN = as_named kind.ANN (ann_of names contract) (ann_gives names contract)
  kind_gives type.STK = (same names, record { codes_read = no_codes _; other = tt })
  kind_gives type.FXOUT = as_named kind.FXOUT (fxout_of names contract) fxout_gives
  kind_gives type.SWPPV = as_named kind.SWPPV (swppv_of names contract) swppv_gives
  kind_gives type.SWAPS = as_plain kind.SWAPS (swaps_of contract) (λ terms. record { codes_read = no_codes _; other = tt })
  kind_gives type.CAPFL = as_plain kind.CAPFL (capfl_of contract) (λ terms. record { codes_read = no_codes _; other = tt })
  kind_gives type.OPTNS = as_plain kind.OPTNS (optns_of contract) (λ terms. record { codes_read = no_codes _; other = tt })
  kind_gives type.FUTUR = as_plain kind.FUTUR (futur_of contract) (λ terms. record { codes_read = no_codes _; other = tt })
  kind_gives type.CEG = as_plain kind.CEG (ceg_of contract) (λ terms. record { codes_read = no_codes _; other = tt })
  kind_gives type.CEC = as_plain kind.CEC (cec_of contract) (λ terms. record { codes_read = no_codes _; other = tt })

-- ---- references

-- a contract isn't numbered yet
inside_by : (count : ℕ) (inner : Option Data) → IfOk (contract_inside_by inner) (TargetIsNamed count)
inside_by count (Some inner) = tt
inside_by count None = tt

named_by : (count : ℕ) (read : Result (List ℕ) TermsFault) → IfOk (then_ok (λ name. Ok (to_contract name)) read) (TargetIsNamed count)
named_by count (Ok name) = tt
named_by count (Err fault) = tt

module _ (count : ℕ) (element : Data) where
  inside_named : IfOk (contract_inside element) (TargetIsNamed count)
  unfolding contract_inside
  inside_named = inside_by count (inner_object element)

  contract_is_named : IfOk (contract_named element) (TargetIsNamed count)
  unfolding contract_named
  contract_is_named = named_by count (name_or_refusal (contract_text element))

with_names_gives : (names : NameLists) (read : Result Target TermsFault) → IfOk read (TargetIs names) → Gives names TargetIs (with_names names read)
with_names_gives names (Ok target) named = (same names, named)
with_names_gives names (Err fault) named = tt

module _ (names : NameLists) (element : Data) where
  referred_gives : (reference_type : ReferenceType) → Gives names TargetIs (referred_of reference_type names element)
  unfolding referred_of market_named
  referred_gives CNT = with_names_gives names (contract_inside element) (inside_named (length names.codes) element)
  referred_gives CID = with_names_gives names (contract_named element) (contract_is_named (length names.codes) element)
  referred_gives MOC = plain TargetIs names _ (name_or_refusal (market_text element)) (λ code. (code_added code names, number_below code names.codes))

  within_gives : Gives names ReferenceIs (reference_within names element)
  unfolding reference_within
  within_gives =
      plain ReferenceIs names _ (choice_or_refusal (choice_field reference_type_named (codes "referenceType") element)) (λ reference_type.
      plain ReferenceIs names _ (choice_or_refusal (choice_field reference_role_named (codes "referenceRole") element)) (λ role.
      naming ReferenceIs names TargetIs _ (referred_of reference_type names element) (referred_gives reference_type) (λ referred more _ named. (same more, named))))

reference_gives : (element : Data) (names : NameLists) → Gives names ReferenceIs (reference_of names element)
unfolding reference_of
reference_gives (object members) names = within_gives names (object members)
reference_gives other names = tt

references_give : (elements : List Data) (names : NameLists) → Gives names ReferencesAre (references_from names elements)
unfolding references_from
references_give [] names = (same names, All-nil (ReferenceIs names))
references_give (element ∷ elements) names =
    naming ReferencesAre names ReferenceIs _ (reference_of names element) (reference_gives element names) (λ first after _ first_named.
    naming ReferencesAre after ReferencesAre _ (references_from after elements) (references_give elements after) (λ rest more grown rest_named.
    (same more, All-cons (ReferenceIs more) first rest (target_more _ _ first.object grown.codes first_named) rest_named)))

module _ (names : NameLists) (contract : Data) where
  structure_gives : Gives names ReferencesAre (structure_of names contract)
  unfolding structure_of
  structure_gives = plain ReferencesAre names _ (elements_of contract) (λ elements. references_give elements names)

  structure_where : (has : Bool) → Gives names ReferencesAre (if has then structure_of names contract else Ok ([], names))
  structure_where true = structure_gives
  structure_where false = (same names, All-nil (ReferenceIs names))

  type_gives : (type : ContractType) → Gives names ReferencesAre (references_of type names contract)
  unfolding references_of
  type_gives type = structure_where (has_structure type)

-- ---- a contract

terms_give : (type : ContractType) (number : ℕ) (names : NameLists) (contract : Data) → Gives names TermsAreNamed (terms_of type number names contract)
unfolding terms_of
terms_give type number names contract =
    naming TermsAreNamed names CommonIsNamed _ (common_of type number names contract) (common_gives names contract type number) (λ common after _ common_named.
    naming TermsAreNamed after KindIsNamed _ (kind_of type after contract) (kind_gives after contract type) (λ own more grown own_named.
    (same more, record { common = common_more after more common grown common_named; own = own_named })))

named_give : (number : ℕ) (names : NameLists) (contract : Data) → Gives names IsNamedIn (named_terms_of number names contract)
unfolding named_terms_of
named_give number names contract =
    plain IsNamedIn names _ (contract_id contract) (λ id.
    plain IsNamedIn names _ (contract_type contract) (λ type.
    naming IsNamedIn names TermsAreNamed _ (terms_of type number names contract) (terms_give type number names contract) (λ terms after _ terms_named.
    naming IsNamedIn after ReferencesAre _ (references_of type after contract) (type_gives after contract type) (λ references more grown references_named.
    (same more, together more (record { id = id; terms = terms; references = references }) (terms_more after more terms grown terms_named) references_named)))))

-- a contract that is read leaves the names of contracts as they were
pub contracts_kept : (number : ℕ) (names after : NameLists) (contract : Data) (named : NamedTerms) → named_terms_of number names contract ≡ Ok (named, after) → after.contracts ≡ names.contracts
contracts_kept number names after contract named is = (IfOk-at_ok (λ r. IsBehind names r.1 × IsNamedIn r.1 r.0) is (named_give number names contract)).0.contracts

-- and what it names is among those that it leaves, which are no fewer
pub terms_named : (number : ℕ) (names after : NameLists) (contract : Data) (named : NamedTerms) → named_terms_of number names contract ≡ Ok (named, after) → Grow names after × IsNamedIn after named
terms_named number names after contract named is =
    let here = IfOk-at_ok (λ r. IsBehind names r.1 × IsNamedIn r.1 r.0) is (named_give number names contract) in
    (here.0.grown, here.1)
