-- The terms that every contract has. ACTUS data dictionary; what is required and the defaults are this profile's own.
use Rattle.std.specs.Prelude.{ℕ, pos, if◌then◌else◌, Bool, true, false, codes, unwrap_or, Option, None, Result, Ok}
use Rattle.act_date.specs.declared.calendar.Calendar.TheVariants.{Nc}
use Rattle.act_date.specs.declared.calendar.Convention.TheVariants.{Nos}
use Rattle.act_date.specs.declared.cycle.MonthRule.TheVariants.{Sd}
use Rattle.act_model.specs.Names.{NameLists}
use Rattle.act_model.specs.declared.choice.ContractType.{ContractType}
use Rattle.act_model.specs.declared.choice.ContractType.TheVariants as type
use Rattle.act_model.specs.declared.terms.Common.{Common}
use Rattle.act_terms.specs.Choices.{calendar_named, convention_named, month_rule_named, role_named}
use Rattle.act_terms.specs.Fault.{◌>>=◌}
use Rattle.act_terms.specs.Fields.{choice_field, needed, needed_day, optional, optional_day, optional_decimal}
use Rattle.act_terms.specs.Names.{code_where, currencies_of}
use Rattle.act_terms.specs.declared.common.BusinessDays.{BusinessDays}
use Rattle.act_terms.specs.declared.common.Position.{Position}
use Rattle.act_terms.specs.declared.common.Trades.{Trades}
use Rattle.act_terms.specs.declared.currencies.Currencies.{Currencies}
use Rattle.act_terms.specs.declared.fault.TermsFault.{TermsFault}
use Rattle.serde_json.specs.Data.{Data}

-- the role, and the day as of which the terms are given
unfoldable pub position_of : Data → Result Position TermsFault
position_of contract = do
  role ← needed (codes "contractRole") (choice_field role_named (codes "contractRole") contract)
  status ← needed_day (codes "statusDate") contract
  Ok (record { contract_role = role; status_date = status })

-- the calendar and the conventions
unfoldable pub business_days_of : Data → Result BusinessDays TermsFault
business_days_of contract = do
  calendar ← optional (codes "calendar") (choice_field calendar_named (codes "calendar") contract)
  convention ← optional (codes "businessDayConvention") (choice_field convention_named (codes "businessDayConvention") contract)
  month_rule ← optional (codes "endOfMonthConvention") (choice_field month_rule_named (codes "endOfMonthConvention") contract)
  Ok (record { calendar = unwrap_or calendar Nc; business_day_convention = unwrap_or convention Nos; end_of_month_convention = unwrap_or month_rule Sd })

-- contracts of a type may be bought and sold; guarantees aren't, and don't use the terms of it
abbrev pub may_trade : ContractType → Bool
may_trade type.CEG = false
may_trade type.CEC = false
may_trade other = true

-- no purchase and no termination
abbrev pub no_trades : Trades
no_trades = record { purchase_date = None; price_at_purchase_date = pos 0; termination_date = None; price_at_termination_date = pos 0 }

-- purchase and termination
unfoldable pub given_trades_of : Data → Result Trades TermsFault
given_trades_of contract = do
  purchase ← optional_day (codes "purchaseDate") contract
  purchase_price ← optional_decimal (codes "priceAtPurchaseDate") contract
  termination ← optional_day (codes "terminationDate") contract
  termination_price ← optional_decimal (codes "priceAtTerminationDate") contract
  Ok (record { purchase_date = purchase; price_at_purchase_date = unwrap_or purchase_price (pos 0); termination_date = termination; price_at_termination_date = unwrap_or termination_price (pos 0) })

unfoldable pub trades_of : ContractType → Data → Result Trades TermsFault
trades_of type contract = if may_trade type then given_trades_of contract else Ok no_trades

-- the terms of the contract of that number together
abbrev pub common_with : ℕ → Position → Currencies → BusinessDays → Option ℕ → Trades → Common
common_with number position money days market trades =
    record {
      contract = number;
      underlying = None;
      factor = money.factor;
      contract_role = position.contract_role;
      status_date = position.status_date;
      currency = money.currency;
      settlement_currency = money.settlement_currency;
      calendar = days.calendar;
      business_day_convention = days.business_day_convention;
      end_of_month_convention = days.end_of_month_convention;
      market_object_code = market;
      purchase_date = trades.purchase_date;
      price_at_purchase_date = trades.price_at_purchase_date;
      termination_date = trades.termination_date;
      price_at_termination_date = trades.price_at_termination_date;
    }

-- the common terms of the contract of that type and number, and the names with those that they give
unfoldable pub common_of : ContractType → ℕ → NameLists → Data → Result (Common × NameLists) TermsFault
common_of type number names contract = do
  position ← position_of contract
  money ← currencies_of type names contract
  days ← business_days_of contract
  market ← code_where false (codes "marketObjectCode") money.1 contract
  trades ← trades_of type contract
  Ok (common_with number position money.0 days market.0 trades, market.1)
