-- Stocks and foreign exchange outrights: STK and FXOUT. The names are those of ACTUS; the rules and formulas are this profile's.
use Rattle.std.specs.Prelude.{ℕ, zero, ℤ, List, [], ◌∷◌, Option, Some, None, option_map, Result}
use Rattle.act_num.specs.Number.{mul_of}
use Rattle.act_model.specs.Run.{EventPlan}
use Rattle.act_model.specs.declared.choice.DeliverySettlement.{DeliverySettlement}
use Rattle.act_model.specs.declared.choice.DeliverySettlement.TheVariants as delivery
use Rattle.act_model.specs.declared.event.Event.{Event}
use Rattle.act_model.specs.declared.event.EventType.{EventType}
use Rattle.act_model.specs.declared.event.EventType.TheVariants.{PRD, TD, DV, MD, STD}
use Rattle.act_model.specs.declared.event.Source.{Source}
use Rattle.act_model.specs.declared.event.Source.TheVariants.{Scheduled}
use Rattle.act_model.specs.declared.run.PlanFault.{PlanFault}
use Rattle.act_model.specs.declared.terms.Common.{Common}
use Rattle.act_model.specs.declared.terms.Fxout.{Fxout}
use Rattle.act_profile.specs.Formula.{minus, opposite, signed}
use Rattle.act_profile.specs.Order.{in_order}
use Rattle.act_profile.specs.Outcomes.{map_ok}
use Rattle.act_profile.specs.Planning.{Planned, events_by_type, shifting, unshifted_where_given}
use Rattle.act_profile.specs.Step.{StepLine, Payoff, keeps, pays, pays_by}
use Rattle.act_profile.specs.Trade.{plain_plan, trade_line}

-- ---- stocks

-- the line of an event: a dividend is paid as it was observed
abbrev pub stock_line : Common → Event → EventType → StepLine
stock_line common e DV = record { payoff = pays (λ s. Some (signed common.contract_role e.value)); change = keeps }
stock_line common e other = trade_line common other

-- ---- foreign exchange outrights

-- with D both amounts are exchanged at maturity, with S the difference is settled
abbrev pub exchange_dates : ℤ → DeliverySettlement → List Planned
exchange_dates maturity delivery.D = shifting MD (maturity ∷ maturity ∷ [])
exchange_dates maturity delivery.S = shifting STD (maturity ∷ [])

-- the plan of an outright
unfoldable pub outright_plan : Common → Fxout → Result EventPlan PlanFault
outright_plan common fxout =
    map_ok (λ events. plain_plan (in_order events)) (events_by_type common 0
    (Some (unshifted_where_given PRD common.purchase_date) ∷ Some (unshifted_where_given TD common.termination_date)
    ∷ Some (exchange_dates fxout.maturity_date fxout.delivery_settlement) ∷ []))

-- the first MD pays the amount in the contract's currency, the second takes the amount in the other
abbrev pub exchanged_amount : Common → Fxout → Source → ℤ
exchanged_amount common fxout (Scheduled zero) = signed common.contract_role fxout.notional_principal
exchanged_amount common fxout other = opposite common.contract_role fxout.notional_principal2

-- the difference by the rate of the currencies
abbrev pub difference : Common → Fxout → ℤ → Option ℤ
difference common fxout rate =
    option_map (signed common.contract_role) (minus (Some fxout.notional_principal) (mul_of rate fxout.notional_principal2))

-- STD pays it, by the code of the two currencies, which is given where the difference is settled
abbrev pub settled_difference : Common → Fxout → Option ℕ → Payoff
settled_difference common fxout None = pays (λ s. None)
settled_difference common fxout (Some pair) = pays_by pair (λ rate s. difference common fxout rate)

-- the line of an event
abbrev pub outright_line : Common → Fxout → Event → EventType → StepLine
outright_line common fxout e MD = record { payoff = pays (λ s. Some (exchanged_amount common fxout e.source)); change = keeps }
outright_line common fxout e STD = record { payoff = settled_difference common fxout fxout.pair; change = keeps }
outright_line common fxout e other = trade_line common other

-- the currency of an MD: that of the second is the other one
abbrev pub exchanged_currency : Common → Fxout → Source → ℕ
exchanged_currency common fxout (Scheduled zero) = common.currency
exchanged_currency common fxout other = fxout.currency2

-- the currency of an event's payoff
abbrev pub outright_currency : Common → Fxout → Event → EventType → ℕ
outright_currency common fxout e MD = exchanged_currency common fxout e.source
outright_currency common fxout e other = common.currency
