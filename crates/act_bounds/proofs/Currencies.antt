-- The currency of each payoff is one of so many.
use Rattle.std.proofs.Common.{◌<◌, ℕ, zero, List, Option, Some, None, IfSome}
use Rattle.std.specs.Option.{unwrap_or}
use Rattle.act_model.specs.Run.{Stream}
use Rattle.act_model.specs.declared.event.Event.{Event}
use Rattle.act_model.specs.declared.event.EventType.{EventType}
use Rattle.act_model.specs.declared.event.EventType.TheVariants as type
use Rattle.act_model.specs.declared.event.Source.{Source}
use Rattle.act_model.specs.declared.event.Source.TheVariants.{Scheduled, Leg, Net}
use Rattle.act_model.specs.declared.run.Row.{Row}
use Rattle.act_model.specs.declared.terms.Common.{Common}
use Rattle.act_model.specs.declared.terms.Fxout.{Fxout}
use Rattle.act_model.specs.declared.terms.Kind.{Kind}
use Rattle.act_model.specs.declared.terms.Kind.TheVariants as kind
use Rattle.act_model.specs.declared.terms.Swaps.{Swaps}
use Rattle.act_model.specs.declared.terms.Terms.{Terms}
use Rattle.act_profile.specs.Equity.{exchanged_currency, outright_currency}
use Rattle.act_profile.specs.Legs.{capfl_row, first_leg, swaps_row}
use Rattle.act_profile.specs.Printable.{AreNamed, IsBelow, OtherIsNamed}
use Rattle.act_profile.specs.Steps.{currency_by, currency_of, currency_of_row, own_currency}
use Rattle.act_bounds.proofs.Children.{ChildrenHold, row_at-holds}
use Rattle.act_bounds.specs.Bounds.{RowHolds}

module _ (codes currencies : ℕ) (children : List Stream) (hold : ChildrenHold codes currencies children) where
  given-below : (given : Option ℕ) (other : ℕ) → IsBelow currencies given → other < currencies → unwrap_or given other < currencies
  given-below None other given-is is = is
  given-below (Some given) other given-is is = given-is

  row-below : (common : Common) (row : Option Row) → own_currency common < currencies → IfSome row (RowHolds currencies) → currency_of_row common row < currencies
  row-below common None own holds = own
  row-below common (Some row) own holds = holds.currency

  swaps-holds : (swaps : Swaps) (source : Source) → IfSome (swaps_row swaps children source) (RowHolds currencies)
  swaps-holds swaps (Leg leg n) = row_at-holds codes currencies children leg n hold
  swaps-holds swaps (Net first second) = row_at-holds codes currencies children (first_leg swaps) first hold
  swaps-holds swaps other = tt

  capfl-holds : (source : Source) → IfSome (capfl_row children source) (RowHolds currencies)
  capfl-holds (Net first second) = row_at-holds codes currencies children 0 first hold
  capfl-holds other = tt

  exchanged-below : (common : Common) (fxout : Fxout) (source : Source) → common.currency < currencies → fxout.currency2 < currencies → exchanged_currency common fxout source < currencies
  exchanged-below common fxout (Scheduled zero) own other = own
  exchanged-below common fxout source own other = other

  outright-below : (common : Common) (fxout : Fxout) (e : Event) (what : EventType) → common.currency < currencies → fxout.currency2 < currencies → outright_currency common fxout e what < currencies
  outright-below common fxout e type.MD own other = exchanged-below common fxout e.source own other
  outright-below common fxout e what own other = own

  kind-below : (common : Common) (contract : Kind) (e : Event) → common.currency < currencies → own_currency common < currencies → OtherIsNamed currencies contract → currency_by contract common children e < currencies
  kind-below common (kind.FXOUT fxout) e is own other = outright-below common fxout e e.kind is other
  kind-below common (kind.SWAPS swaps) e is own other = row-below common (swaps_row swaps children e.source) own (swaps-holds swaps e.source)
  kind-below common (kind.CAPFL capfl) e is own other = row-below common (capfl_row children e.source) own (capfl-holds e.source)
  kind-below common contract e is own other = own

  pub currency-below : (terms : Terms) → AreNamed codes currencies terms → (e : Event) → currency_of terms children e < currencies
  currency-below terms named e =
      kind-below terms.common terms.kind e named.currency (given-below terms.common.settlement_currency terms.common.currency named.settlement named.currency) named.other
