-- The terms of foreign exchange outrights: FXOUT. ACTUS data dictionary; what is required, the default, the bounds and the code of the rate are this
-- profile's own.
use Rattle.std.specs.Prelude.{ℕ, List, codes, unwrap_or, Option, Some, None, Result, Ok}
use Rattle.act_model.specs.Names.{NameLists}
use Rattle.act_model.specs.declared.choice.DeliverySettlement.{DeliverySettlement}
use Rattle.act_model.specs.declared.choice.DeliverySettlement.TheVariants.{D, S}
use Rattle.act_model.specs.declared.terms.Fxout.{Fxout}
use Rattle.act_terms.specs.Choices.{delivery_named}
use Rattle.act_terms.specs.Fault.{◌>>=◌}
use Rattle.act_terms.specs.Fields.{choice_field, needed, needed_day, not_negative, optional}
use Rattle.act_terms.specs.Names.{currency_field, numbered, pair_name, with_currency}
use Rattle.act_terms.specs.declared.fault.TermsFault.{TermsFault}
use Rattle.serde_json.specs.Data.{Data}

-- the number of the other currency, and the names with it
unfoldable pub currency2_of : NameLists → Data → Result (ℕ × NameLists) TermsFault
currency2_of names contract = do
  currency2 ← needed (codes "currency2") (currency_field (codes "currency2") contract)
  Ok (with_currency currency2 names)

-- the name of the rate of the other currency in the contract's, as `USD/EUR`
unfoldable pub rate_name : Data → Result (List ℕ) TermsFault
rate_name contract = do
  currency2 ← needed (codes "currency2") (currency_field (codes "currency2") contract)
  currency ← needed (codes "currency") (currency_field (codes "currency") contract)
  Ok (pair_name currency2 currency)

-- the number of that rate's code where the difference is settled, and the names with it; where both amounts are exchanged there is none
unfoldable pub pair_of : DeliverySettlement → NameLists → Data → Result (Option ℕ × NameLists) TermsFault
pair_of D names contract = Ok (None, names)
pair_of S names contract = do
  pair ← rate_name contract
  Ok (numbered (Some pair) names)

-- the terms of a FXOUT, and the names with those that they give
unfoldable pub fxout_of : NameLists → Data → Result (Fxout × NameLists) TermsFault
fxout_of names contract = do
  maturity ← needed_day (codes "maturityDate") contract
  notional ← needed (codes "notionalPrincipal") (not_negative (codes "notionalPrincipal") contract)
  currency2 ← currency2_of names contract
  notional2 ← needed (codes "notionalPrincipal2") (not_negative (codes "notionalPrincipal2") contract)
  delivery ← optional (codes "deliverySettlement") (choice_field delivery_named (codes "deliverySettlement") contract)
  pair ← pair_of (unwrap_or delivery D) currency2.1 contract
  Ok (
    record {
      maturity_date = maturity;
      notional_principal = notional;
      currency2 = currency2.0;
      notional_principal2 = notional2;
      delivery_settlement = unwrap_or delivery D;
      pair = pair.0;
    },
    pair.1,
  )
