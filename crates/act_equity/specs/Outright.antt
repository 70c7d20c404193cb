-- What clauses on a foreign exchange outright say.
use Rattle.std.specs.Prelude.{List, [], ◌∷◌, Option, Some}
use Rattle.act_model.specs.declared.event.EventType.TheVariants.{PRD, TD}
use Rattle.act_model.specs.declared.terms.Common.{Common}
use Rattle.act_model.specs.declared.terms.Fxout.{Fxout}
use Rattle.act_profile.specs.Equity.{exchange_dates}
use Rattle.act_profile.specs.Planning.{Planned, unshifted_where_given}

-- the terms of an outright: those that every contract has, and its own
pub record OutrightTerms : Type 0 where
  pub common : Common
  pub fxout : Fxout

-- the dates of each type of event, in the order in which types have faults
abbrev pub outright_dates : Common → Fxout → List (Option (List Planned))
outright_dates common fxout =
    Some (unshifted_where_given PRD common.purchase_date) ∷ Some (unshifted_where_given TD common.termination_date)
    ∷ Some (exchange_dates fxout.maturity_date fxout.delivery_settlement) ∷ []
