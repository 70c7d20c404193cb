-- The amounts of the other kinds are in range: the lines of their events, the states of plain swaps, and the steps of credit events.
use Rattle.std.proofs.Common.{◌==◌, ℕ, zero, int_lt, Bool, true, false, ℤ, pos, List, [], ◌∷◌, map, Option, Some, None, Result}
use Rattle.std.specs.Option.{IfSome, unwrap_or}
use Rattle.std.specs.Result.{IfOk}
use Rattle.act_model.specs.Bounds.{OutrightIsBounded, PlainSwapIsBounded}
use Rattle.act_model.specs.Observed.{observation}
use Rattle.act_model.specs.Run.{Stream}
use Rattle.act_model.specs.Terms.{Collateral, Guarantee}
use Rattle.act_model.specs.declared.choice.OptionType.{OptionType}
use Rattle.act_model.specs.declared.choice.OptionType.TheVariants as option
use Rattle.act_model.specs.declared.event.Event.{Event}
use Rattle.act_model.specs.declared.event.EventType.{EventType}
use Rattle.act_model.specs.declared.event.EventType.TheVariants as type
use Rattle.act_model.specs.declared.event.Source.{Source}
use Rattle.act_model.specs.declared.event.Source.TheVariants.{Leg, Net, Scheduled}
use Rattle.act_model.specs.declared.observed.Obs.{Obs}
use Rattle.act_model.specs.declared.run.Row.{Row}
use Rattle.act_model.specs.declared.run.Stop.{Stop}
use Rattle.act_model.specs.declared.run.Stop.TheVariants.{Overflow}
use Rattle.act_model.specs.declared.state.State.{State}
use Rattle.act_model.specs.declared.terms.Common.{Common}
use Rattle.act_model.specs.declared.terms.Futur.{Futur}
use Rattle.act_model.specs.declared.terms.Fxout.{Fxout}
use Rattle.act_model.specs.declared.terms.Optns.{Optns}
use Rattle.act_model.specs.declared.terms.Swaps.{Swaps}
use Rattle.act_model.specs.declared.terms.Swppv.{Swppv}
use Rattle.act_num.specs.Number.{InRange, mul_of}
use Rattle.act_profile.specs.Credit.{after_credit_event, collateral_step, covered_part, credit_line, guarantee_step, market_codes, reading_all, sum_of_magnitudes, total_exposure}
use Rattle.act_profile.specs.Dates.{latest_until}
use Rattle.act_profile.specs.Equity.{exchanged_amount, outright_line, settled_difference, stock_line}
use Rattle.act_profile.specs.Exercise.{excess, exercised, future_line, option_amount_by, option_line, settlement_line}
use Rattle.act_profile.specs.Formula.{interest_on, lesser, magnitude, minus, opposite, signed}
use Rattle.act_profile.specs.Legs.{capfl_amount, capfl_line, first_leg, leg_amount, paid, row_at, second_leg, signed_paid, swaps_amount, swaps_line}
use Rattle.act_profile.specs.States.{first_state}
use Rattle.act_profile.specs.Step.{StepLine, changed}
use Rattle.act_profile.specs.Steps.{own_or_row_line}
use Rattle.act_profile.specs.Swap.{plain_swap_accrued, plain_swap_before_event, plain_swap_begun, plain_swap_interest_dates, plain_swap_line, plain_swap_part, plain_swap_started, plain_swap_state}
use Rattle.act_profile.specs.Trade.{passed, trade_line}
use Rattle.act_bounds.proofs.LoanAmounts.{PricesHold, given-change, reset-holds}
use Rattle.act_bounds.proofs.Operations.{AmountHolds, and_then-holds, int_max-holds, interest-holds, lesser-holds, magnitude-holds, map-holds, minus-holds, zero-in_range, opposite-holds, plus-holds, signed-holds, sub-holds, sum-holds, times-holds, whatever-holds}
use Rattle.act_bounds.proofs.States.{LineHolds, NextHolds, PayoffHolds, StateHolds, TakenHolds, either-holds, first_state-holds, ok_or-holds, value-holds}

-- ---- purchase and termination, and how time passes

pub passed-holds : (what : EventType) (calc : ℤ) (s : State) → StateHolds s → NextHolds (passed what calc s)
passed-holds type.CE calc s state = state
passed-holds other calc s state = assumption

trade-holds : (common : Common) (what : EventType) → PricesHold common → LineHolds (trade_line common what)
trade-holds common type.PRD prices = record { payoff = λ s state. opposite-holds common.contract_role common.price_at_purchase_date prices.purchase; change = tt }
trade-holds common type.TD prices = record { payoff = λ s state. signed-holds common.contract_role common.price_at_termination_date prices.termination; change = tt }
trade-holds common other prices = record { payoff = tt; change = tt }

-- ---- stocks and outrights

pub stock-holds : (common : Common) (e : Event) (what : EventType) → PricesHold common → InRange e.value → LineHolds (stock_line common e what)
stock-holds common e type.DV prices value = record { payoff = λ s state. signed-holds common.contract_role e.value value; change = tt }
stock-holds common e what prices value = trade-holds common what prices

exchanged-holds : (common : Common) (fxout : Fxout) (source : Source) → OutrightIsBounded fxout → InRange (exchanged_amount common fxout source)
exchanged-holds common fxout (Scheduled zero) bounded = signed-holds common.contract_role fxout.notional_principal bounded.notional
exchanged-holds common fxout other bounded = opposite-holds common.contract_role fxout.notional_principal2 bounded.notional2

difference-holds : (common : Common) (fxout : Fxout) (pair : Option ℕ) → PayoffHolds (settled_difference common fxout pair)
difference-holds common fxout None = λ s state. tt
difference-holds common fxout (Some pair) = λ rate s state.
    map-holds InRange InRange (signed common.contract_role) _ (minus-holds (Some fxout.notional_principal) (mul_of rate fxout.notional_principal2))
    (signed-holds common.contract_role)

pub outright-holds : (common : Common) (fxout : Fxout) (e : Event) (what : EventType) → PricesHold common → OutrightIsBounded fxout → LineHolds (outright_line common fxout e what)
outright-holds common fxout e type.MD prices bounded = record { payoff = λ s state. exchanged-holds common fxout e.source bounded; change = tt }
outright-holds common fxout e type.STD prices bounded = record { payoff = difference-holds common fxout fxout.pair; change = tt }
outright-holds common fxout e what prices bounded = trade-holds common what prices

-- ---- plain swaps

swap_accrued-holds : (common : Common) (swap : Swppv) (calc : ℤ) (s : State) → StateHolds s → NextHolds (plain_swap_accrued common swap calc s)
swap_accrued-holds common swap calc s state =
    let part = plain_swap_part common swap (unwrap_or s.sd calc) calc in
    and_then-holds InRange StateHolds _ _ (plus-holds (Some s.ipac) (interest_on s.nt s.ipnr part)) (λ first one.
    map-holds InRange StateHolds _ _ (plus-holds (Some s.ipac2) (interest_on s.nt s.ipnr2 part)) (λ second other. assumption))

pub swap_before-holds : (common : Common) (swap : Swppv) (what : EventType) (calc : ℤ) (s : State) → StateHolds s → NextHolds (plain_swap_before_event common swap what calc s)
swap_before-holds common swap type.IED calc s state = state
swap_before-holds common swap type.CE calc s state = state
swap_before-holds common swap other calc s state = swap_accrued-holds common swap calc s state

begun-holds : (common : Common) (swap : Swppv) (s : State) → PlainSwapIsBounded swap → StateHolds s → StateHolds (plain_swap_begun common swap s)
begun-holds common swap s bounded state =
    let notional = signed-holds common.contract_role swap.notional_principal bounded.notional in
    assumption

started-holds : (common : Common) (swap : Swppv) (s : State) → StateHolds s → NextHolds (plain_swap_started common swap s)
started-holds common swap s state =
    whatever-holds StateHolds _ (plain_swap_interest_dates common swap) (λ dates.
    let part = plain_swap_part common swap (latest_until common.status_date swap.initial_exchange_date dates) common.status_date in
    and_then-holds InRange StateHolds _ _ (interest-holds s.nt s.ipnr part) (λ first one.
    map-holds InRange StateHolds _ _ (interest-holds s.nt s.ipnr2 part) (λ second other. assumption)))

pub swap_state-holds : (common : Common) (swap : Swppv) → PlainSwapIsBounded swap → NextHolds (plain_swap_state common swap)
swap_state-holds common swap bounded =
    let first = first_state-holds common.status_date in
    either-holds (int_lt common.status_date swap.initial_exchange_date) _ _ first (started-holds common swap _ (begun-holds common swap (first_state common.status_date) bounded first))

pub swap-holds : (common : Common) (swap : Swppv) (e : Event) (what : EventType) → PricesHold common → PlainSwapIsBounded swap → LineHolds (plain_swap_line common swap e what)
swap-holds common swap e type.IED prices bounded = record {
  payoff = tt;
  change = λ s state. let begun = begun-holds common swap s bounded state in assumption;
}
swap-holds common swap e type.TD prices bounded = record {
  payoff = λ s state. signed-holds common.contract_role common.price_at_termination_date prices.termination;
  change = λ s state. assumption zero-in_range;
}
swap-holds common swap e type.IP prices bounded = record { payoff = λ s state. sub-holds s.ipac s.ipac2; change = λ s state. assumption zero-in_range }
swap-holds common swap e type.RRF prices bounded = record {
  payoff = tt;
  change = λ s state. map-holds InRange StateHolds _ swap.rate_reset.next_reset_rate bounded.reset.next (λ rate r. assumption);
}
swap-holds common swap e type.RR prices bounded = record {
  payoff = tt;
  change = given-change swap.rate_reset.market_object_code_of_rate_reset _ (λ o s state.
      map-holds InRange StateHolds _ _ (reset-holds swap.rate_reset o s.ipnr2 bounded.reset) (λ rate r. assumption));
}
swap-holds common swap e type.MD prices bounded = record { payoff = tt; change = λ s state. assumption zero-in_range }
swap-holds common swap e what prices bounded = trade-holds common what prices

-- ---- rows of children

-- what the rows of children pay is in range
abbrev pub PaidHolds : List Stream → Type 0
PaidHolds children = (leg row : ℕ) → AmountHolds (paid (row_at children leg row))

leg-holds : (common : Common) (first : Bool) (row : Option Row) → AmountHolds (paid row) → AmountHolds (leg_amount common first row)
leg-holds common true row holds = map-holds InRange InRange (signed common.contract_role) (paid row) holds (signed-holds common.contract_role)
leg-holds common false row holds = map-holds InRange InRange (opposite common.contract_role) (paid row) holds (opposite-holds common.contract_role)

swaps_amount-holds : (common : Common) (swaps : Swaps) (children : List Stream) (source : Source) → PaidHolds children → AmountHolds (swaps_amount common swaps children source)
swaps_amount-holds common swaps children (Leg leg row) holds = leg-holds common (leg == first_leg swaps) (row_at children leg row) (holds leg row)
swaps_amount-holds common swaps children (Net first second) holds =
    minus-holds (signed_paid common (row_at children (first_leg swaps) first)) (signed_paid common (row_at children (second_leg swaps) second))
swaps_amount-holds common swaps children other holds = tt

capfl_amount-holds : (common : Common) (children : List Stream) (source : Source) → AmountHolds (capfl_amount common children source)
capfl_amount-holds common children (Net underlying shadow) =
    let changed = minus (paid (row_at children 0 underlying)) (paid (row_at children 1 shadow)) in
    map-holds InRange InRange (signed common.contract_role) _ (magnitude-holds changed (minus-holds (paid (row_at children 0 underlying)) (paid (row_at children 1 shadow))))
    (signed-holds common.contract_role)
capfl_amount-holds common children other = tt

own_or_row-holds : (own : Bool) (common : Common) (what : EventType) (row : StepLine) → PricesHold common → LineHolds row → LineHolds (own_or_row_line own (trade_line common what) row)
own_or_row-holds true common what row prices holds = trade-holds common what prices
own_or_row-holds false common what row prices holds = holds

pub swaps-holds : (own : Bool) (common : Common) (swaps : Swaps) (children : List Stream) (e : Event) → PricesHold common → PaidHolds children →
    LineHolds (own_or_row_line own (trade_line common e.kind) (swaps_line common swaps children e))
swaps-holds own common swaps children e prices holds =
    own_or_row-holds own common e.kind (swaps_line common swaps children e) prices (record { payoff = λ s state. swaps_amount-holds common swaps children e.source holds; change = tt })

pub capfl-holds : (own : Bool) (common : Common) (children : List Stream) (e : Event) → PricesHold common → LineHolds (own_or_row_line own (trade_line common e.kind) (capfl_line common children e))
capfl-holds own common children e prices =
    own_or_row-holds own common e.kind (capfl_line common children e) prices (record { payoff = λ s state. capfl_amount-holds common children e.source; change = tt })

-- ---- options and futures

settlement-holds : (common : Common) → LineHolds (settlement_line common)
settlement-holds common = record { payoff = λ s state. signed-holds common.contract_role s.xa state.xa; change = λ s state. assumption zero-in_range }

exercised-holds : (day : ℤ) (amount : Option ℤ) (s : State) → AmountHolds amount → StateHolds s → NextHolds (changed (exercised day) amount s)
exercised-holds day amount s holds state = map-holds InRange StateHolds _ amount holds (λ xa x. assumption)

excess-holds : (a b : ℤ) → AmountHolds (excess a b)
excess-holds a b = map-holds InRange InRange _ _ (sub-holds a b) (λ d holds. int_max-holds d (pos 0) holds zero-in_range)

option_amount-holds : (optns : Optns) (what : OptionType) (strike2 : Option ℤ) (value : ℤ) → AmountHolds (option_amount_by optns what strike2 value)
option_amount-holds optns option.C strike2 value = excess-holds value optns.option_strike1
option_amount-holds optns option.P strike2 value = excess-holds optns.option_strike1 value
option_amount-holds optns option.CP None value = tt
option_amount-holds optns option.CP (Some strike2) value = plus-holds (excess value optns.option_strike1) (excess strike2 value)

pub option-holds : (common : Common) (optns : Optns) (e : Event) (what : EventType) → PricesHold common → LineHolds (option_line common optns e what)
option-holds common optns e type.XD prices = record {
  payoff = tt;
  change = λ value s state. exercised-holds e.day _ s (option_amount-holds optns optns.option_type optns.option_strike2 value) state;
}
option-holds common optns e type.STD prices = settlement-holds common
option-holds common optns e what prices = trade-holds common what prices

pub future-holds : (common : Common) (futur : Futur) (e : Event) (what : EventType) → PricesHold common → LineHolds (future_line common futur e what)
future-holds common futur e type.XD prices = record { payoff = tt; change = λ value s state. exercised-holds e.day _ s (sub-holds value futur.futures_price) state }
future-holds common futur e type.STD prices = settlement-holds common
future-holds common futur e what prices = trade-holds common what prices

-- ---- guarantees and collateral

pub credit-holds : (common : Common) (what : EventType) → LineHolds (credit_line common what)
credit-holds common type.STD = settlement-holds common
credit-holds common other = record { payoff = tt; change = tt }

after_credit-holds : (day : ℤ) (amount : Option ℤ) (s : State) → AmountHolds amount → StateHolds s → IfSome (after_credit_event day amount s) TakenHolds
after_credit-holds day amount s holds state = and_then-holds InRange TakenHolds _ amount holds (λ xa x. assumption zero-in_range)

reading_all-holds : {A : Type 0} (P : A → Type 0) (entries : List Obs) (day : ℤ) (codes : List ℕ) (follows : List ℤ → Result A Stop) → ((xs : List ℤ) → IfOk (follows xs) P) → IfOk (reading_all entries day codes follows) P
unfolding reading_all
reading_all-holds P entries day [] follows holds = holds []
reading_all-holds P entries day (code ∷ codes) follows holds =
    value-holds P code day (observation entries code day) (λ x. reading_all entries day codes (λ xs. follows (x ∷ xs))) (λ x.
    reading_all-holds P entries day codes (λ xs. follows (x ∷ xs)) (λ xs. holds (x ∷ xs)))

covered-holds : (guarantee : Guarantee) (children : List Stream) (day : ℤ) (values : List ℤ) → AmountHolds (covered_part guarantee children day values)
covered-holds guarantee children day values = times-holds (Some guarantee.coverage_of_credit_enhancement) (total_exposure guarantee.guaranteed_exposure guarantee children day values)

pub guarantee-holds : (entries : List Obs) (guarantee : Guarantee) (children : List Stream) (day : ℤ) (s : State) → StateHolds s → IfOk (guarantee_step entries guarantee children day s) TakenHolds
guarantee-holds entries guarantee children day s state =
    reading_all-holds TakenHolds entries day (market_codes guarantee) _ (λ values.
    ok_or-holds TakenHolds _ (Overflow day type.XD) (after_credit-holds day (covered_part guarantee children day values) s (covered-holds guarantee children day values) state))

pub collateral-holds : (entries : List Obs) (collateral : Collateral) (children : List Stream) (day : ℤ) (s : State) → StateHolds s → IfOk (collateral_step entries collateral children day s) TakenHolds
collateral-holds entries collateral children day s state =
    reading_all-holds TakenHolds entries day (market_codes collateral.guarantee) _ (λ values.
    reading_all-holds TakenHolds entries day collateral.covering _ (λ worth.
    let covered = covered-holds collateral.guarantee children day values in
    let worths = sum-holds (Some (pos 0)) (map (λ v. magnitude (Some v)) worth) zero-in_range in
    ok_or-holds TakenHolds _ (Overflow day type.XD)
    (after_credit-holds day (lesser (covered_part collateral.guarantee children day values) (sum_of_magnitudes worth)) s
    (lesser-holds (covered_part collateral.guarantee children day values) (sum_of_magnitudes worth) covered worths) state)))
