-- What books that agree before a day say of days before it.
use Rattle.std.proofs.Common.{◌≡◌, ◌==◌, ◌+◌, ℕ, true, false, ℤ, int_lt, int_le, List, [], ◌∷◌, ◌++◌, map, Option, Some, None, inl, inr, refl, sym, ◌∙◌, ap, arith}
use Rattle.std.specs.List.{enumerate_from, filter, filter_map, flat_map, reduce}
use Rattle.std.proofs.lemmas.Bool.{cases_Bool}
use Rattle.std.proofs.lemmas.Bool.Decides.{nat_tests}
use Rattle.std.proofs.lemmas.Int.{ints}
use Rattle.std.proofs.lemmas.List.{map-append}
use Rattle.std.proofs.lemmas.List.Elements.{filter-append}
use Rattle.std.specs.Int.{int_max}
use Rattle.std.specs.Prelude.{option_and_then}
use Rattle.act_model.specs.Observed.{is_event_of, last_of_day, observation, observed_events, rate_until, rates_until}
use Rattle.act_model.specs.declared.choice.PenaltyType.{PenaltyType}
use Rattle.act_model.specs.declared.choice.PenaltyType.TheVariants as penalty
use Rattle.act_model.specs.declared.event.Event.{Event}
use Rattle.act_model.specs.declared.observed.Obs.{Obs}
use Rattle.act_model.specs.declared.observed.Obs.TheVariants as obs
use Rattle.act_model.specs.declared.observed.ObsKind.{ObsKind}
use Rattle.act_model.specs.declared.observed.ObsKind.TheVariants as observed
use Rattle.act_model.specs.declared.terms.Kind.{Kind}
use Rattle.act_model.specs.declared.terms.Kind.TheVariants as kind
use Rattle.act_model.specs.declared.terms.Loan.{Loan}
use Rattle.act_model.specs.declared.terms.Terms.{Terms}
use Rattle.act_model.specs.Kind.{loan_of}
use Rattle.act_profile.specs.Contract.{observed_as}
use Rattle.act_profile.specs.Events.{events_by, events_observed, events_of_entry, loan_prepayment, prepayment_events, stock_dividend}
use Rattle.act_profile.specs.Reads.{is_in, touches}
use Rattle.act_causality.specs.Causality.{AgreeBefore, events_before, is_entry_before, is_event_before, touching_before, unplaced}
use Rattle.act_causality.proofs.Lists.{filter-swap, filter-within, filter_map-within}

-- ---- rates

same_code : (codes : List ℕ) (c code : ℕ) → (c == code) ≡ true → is_in codes code ≡ true → is_in codes c ≡ true
same_code codes c code is within =
    let same : c ≡ code = grind (arith, nat_tests) in
    rw same within

pub untouched : (day t : ℤ) (codes contracts : List ℕ) (code : ℕ) → is_in codes code ≡ true → (entry : Obs) → touches codes contracts entry ≡ false → rate_until code t entry ≡ None
untouched day t codes contracts code within (obs.Rate c d value) none =
    elim (cases_Bool (c == code)) [
      | inl is ↦ absurd (let yes = same_code codes c code is within in cc)
      | inr other ↦ rw other refl
    ]
untouched day t codes contracts code within (obs.Event c kind d value) none = refl

not_yet : (day t d : ℤ) → int_lt t day ≡ true → int_lt d day ≡ false → int_le d t ≡ false
not_yet day t d before late = grind (arith, ints)

later_rate : (day t : ℤ) (code : ℕ) → int_lt t day ≡ true → (entry : Obs) → is_entry_before day entry ≡ false → rate_until code t entry ≡ None
later_rate day t code before (obs.Rate c d value) late =
    elim (cases_Bool (c == code)) [
      | inl is ↦ rw is (rw (not_yet day t d before late) refl)
      | inr other ↦ rw other refl
    ]
later_rate day t code before (obs.Event c kind d value) late = refl

rates-touching : (day t : ℤ) (codes contracts : List ℕ) (code : ℕ) → is_in codes code ≡ true → int_lt t day ≡ true → (entries : List Obs) →
    rates_until entries code t ≡ filter_map (rate_until code t) (touching_before day codes contracts entries)
rates-touching day t codes contracts code within before entries =
    sym (filter_map-within (rate_until code t) (is_entry_before day) (later_rate day t code before) (filter (touches codes contracts) entries)
    ∙ filter_map-within (rate_until code t) (touches codes contracts) (untouched day t codes contracts code within) entries)

-- the same value of a code that is read, on a day before
pub same_observation : (day t : ℤ) (codes contracts : List ℕ) (code : ℕ) → is_in codes code ≡ true → int_lt t day ≡ true → (one other : List Obs) → AgreeBefore day codes contracts one other →
    observation one code t ≡ observation other code t
unfolding observation
same_observation day t codes contracts code within before one other agree =
    let rates : rates_until one code t ≡ rates_until other code t =
    rates-touching day t codes contracts code within before one ∙ ap (filter_map (rate_until code t)) agree.entries
    ∙ sym (rates-touching day t codes contracts code within before other) in
    ap (λ (rates : List (ℤ × ℤ)). option_and_then (last_of_day rates) (reduce int_max (map (λ rate. rate.0) rates))) rates

-- ---- events

pub is_touching : (codes contracts : List ℕ) (contract : ℕ) → is_in contracts contract ≡ true → (entry : Obs) → is_event_of contract entry ≡ true → touches codes contracts entry ≡ true
is_touching codes contracts contract within (obs.Rate c d value) is = absurd (cc)
is_touching codes contracts contract within (obs.Event c kind d value) is = same_code contracts c contract is within

events-touching : (day : ℤ) (codes contracts : List ℕ) (contract : ℕ) → is_in contracts contract ≡ true → (entries : List Obs) →
    filter (is_entry_before day) (observed_events entries contract) ≡ filter (is_event_of contract) (touching_before day codes contracts entries)
events-touching day codes contracts contract within entries =
    ap (filter (is_entry_before day)) (sym (filter-within (is_event_of contract) (touches codes contracts) (is_touching codes contracts contract within) entries))
    ∙ filter-swap (is_entry_before day) (is_event_of contract) (filter (touches codes contracts) entries)

-- the same event entries of a contract whose events are read, of those dated before
pub same_observed : (day : ℤ) (codes contracts : List ℕ) (contract : ℕ) → is_in contracts contract ≡ true → (one other : List Obs) → AgreeBefore day codes contracts one other →
    filter (is_entry_before day) (observed_events one contract) ≡ filter (is_entry_before day) (observed_events other contract)
same_observed day codes contracts contract within one other agree =
    events-touching day codes contracts contract within one ∙ ap (filter (is_event_of contract)) agree.entries ∙ sym (events-touching day codes contracts contract within other)

-- ---- observed events of a contract

pub events_before-append : (day : ℤ) (xs ys : List Event) → events_before day (xs ++ ys) ≡ events_before day xs ++ events_before day ys
events_before-append day xs ys = ap (map unplaced) (filter-append (is_event_before day) xs ys) ∙ map-append unplaced (filter (is_event_before day) xs) (filter (is_event_before day) ys)

early-prepayment : (day : ℤ) (place : ℕ) (d value : ℤ) (penalty : PenaltyType) → int_lt d day ≡ true → events_before day (prepayment_events place d value penalty) ≡ map unplaced (prepayment_events 0 d value penalty)
early-prepayment day place d value penalty.O early = rw early refl
early-prepayment day place d value other early = rw early refl

late-prepayment : (day : ℤ) (place : ℕ) (d value : ℤ) (penalty : PenaltyType) → int_lt d day ≡ false → events_before day (prepayment_events place d value penalty) ≡ []
late-prepayment day place d value penalty.O late = rw late refl
late-prepayment day place d value other late = rw late refl

early-loan : (day : ℤ) (place : ℕ) (d value : ℤ) (loan : Option Loan) → int_lt d day ≡ true → events_before day (loan_prepayment place d value loan) ≡ map unplaced (loan_prepayment 0 d value loan)
early-loan day place d value None early = refl
early-loan day place d value (Some loan) early = early-prepayment day place d value loan.penalty_type early

late-loan : (day : ℤ) (place : ℕ) (d value : ℤ) (loan : Option Loan) → int_lt d day ≡ false → events_before day (loan_prepayment place d value loan) ≡ []
late-loan day place d value None late = refl
late-loan day place d value (Some loan) late = late-prepayment day place d value loan.penalty_type late

early-dividend : (day : ℤ) (place : ℕ) (d value : ℤ) (terms : Kind) → int_lt d day ≡ true → events_before day (stock_dividend place d value terms) ≡ map unplaced (stock_dividend 0 d value terms)
early-dividend day place d value (kind.STK stk) early = rw early refl
early-dividend day place d value other early = refl

late-dividend : (day : ℤ) (place : ℕ) (d value : ℤ) (terms : Kind) → int_lt d day ≡ false → events_before day (stock_dividend place d value terms) ≡ []
late-dividend day place d value (kind.STK stk) late = rw late refl
late-dividend day place d value other late = refl

early-events : (day : ℤ) (terms : Kind) (place : ℕ) (what : ObsKind) (d value : ℤ) → int_lt d day ≡ true → events_before day (events_by terms place what d value) ≡ map unplaced (events_by terms 0 what d value)
early-events day terms place observed.PP d value early = early-loan day place d value (loan_of terms) early
early-events day terms place observed.DV d value early = early-dividend day place d value terms early
early-events day terms place observed.XD d value early = refl
early-events day terms place credit d value early = rw early refl

late-events : (day : ℤ) (terms : Kind) (place : ℕ) (what : ObsKind) (d value : ℤ) → int_lt d day ≡ false → events_before day (events_by terms place what d value) ≡ []
late-events day terms place observed.PP d value late = late-loan day place d value (loan_of terms) late
late-events day terms place observed.DV d value late = late-dividend day place d value terms late
late-events day terms place observed.XD d value late = refl
late-events day terms place credit d value late = rw late refl

early-entry : (day : ℤ) (terms : Kind) (place : ℕ) (entry : Obs) → is_entry_before day entry ≡ true → events_before day (events_of_entry terms (place, entry)) ≡ map unplaced (events_of_entry terms (0, entry))
early-entry day terms place (obs.Rate code d value) early = refl
early-entry day terms place (obs.Event contract what d value) early = early-events day terms place what d value early

late-entry : (day : ℤ) (terms : Kind) (place : ℕ) (entry : Obs) → is_entry_before day entry ≡ false → events_before day (events_of_entry terms (place, entry)) ≡ []
late-entry day terms place (obs.Rate code d value) late = refl
late-entry day terms place (obs.Event contract what d value) late = late-events day terms place what d value late

-- the events that an entry makes, but for its place
abbrev unplaced_events : Kind → Obs → List Event
unplaced_events terms entry = map unplaced (events_of_entry terms (0, entry))

observed-before : (day : ℤ) (terms : Kind) (place : ℕ) (entries : List Obs) →
    events_before day (flat_map (events_of_entry terms) (enumerate_from place entries)) ≡ flat_map (unplaced_events terms) (filter (is_entry_before day) entries)
observed-before day terms place [] = refl
observed-before day terms place (entry ∷ entries) =
    events_before-append day (events_of_entry terms (place, entry)) (flat_map (events_of_entry terms) (enumerate_from (place + 1) entries))
    ∙ ap (λ zs. events_before day (events_of_entry terms (place, entry)) ++ zs) (observed-before day terms (place + 1) entries)
    ∙ (elim (cases_Bool (is_entry_before day entry)) [
      | inl early ↦ rw (early-entry day terms place entry early) (rw early refl)
      | inr late ↦ rw (late-entry day terms place entry late) (rw late refl)
    ])

-- the same observed events of a contract, of those dated before
pub same_events_observed : (day : ℤ) (codes contracts : List ℕ) (terms : Terms) → is_in contracts (observed_as terms.common) ≡ true → (one other : List Obs) → AgreeBefore day codes contracts one other →
    events_before day (events_observed terms one) ≡ events_before day (events_observed terms other)
unfolding events_observed
same_events_observed day codes contracts terms within one other agree =
    observed-before day terms.kind 0 (observed_events one (observed_as terms.common))
    ∙ ap (flat_map (unplaced_events terms.kind)) (same_observed day codes contracts (observed_as terms.common) within one other agree)
    ∙ sym (observed-before day terms.kind 0 (observed_events other (observed_as terms.common)))
