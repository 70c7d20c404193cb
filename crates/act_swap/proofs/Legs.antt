-- The events of a swap's legs, put together.
use Rattle.std.proofs.Common.{◌≡◌, ℕ, ℤ, List, [], ◌∷◌, ◌++◌, map, slice_get, Option, Some, None, option_map, refl, ◌∙◌, ap, arith, append_assoc}
use Rattle.std.proofs.lemmas.List.Concat.{flat_map_single}
use Rattle.std.proofs.lemmas.Option.{get_or_from_slice_get, slice_get_within}
use Rattle.std.specs.List.{flat_map}
use Rattle.std.specs.Option.{unwrap_or}
use Rattle.act_model.specs.Run.{Stream}
use Rattle.act_model.specs.declared.choice.DeliverySettlement.TheVariants as delivery
use Rattle.act_model.specs.declared.event.Event.{Event}
use Rattle.act_model.specs.declared.terms.Common.{Common}
use Rattle.act_model.specs.declared.terms.Swaps.{Swaps}
use Rattle.act_profile.specs.Legs.{PlacedRow, child, first_leg, netted_or_alone, no_rows, partner, second_leg, swaps_events, taken_rows, unless_netted}
use Rattle.act_profile.specs.DayOrder.{AreInDayOrder, RunsAreInDayOrder}
use Rattle.act_swap.specs.Netting.{events_beside, netted_events, row_events}
use Rattle.act_swap.specs.declared.netting.Side.TheVariants.{First, Second}

none_in_order : AreInDayOrder []
none_in_order = record { ascending = λ i j d lt within. absurd (omega arith) }

order_by : (run : Option Stream) (n : ℕ) (runs : List Stream) → slice_get runs n ≡ run → RunsAreInDayOrder runs → AreInDayOrder (unwrap_or run no_rows).rows
order_by None n runs is order = none_in_order
order_by (Some run) n runs is order =
    let within = slice_get_within runs n run is in
    let here = get_or_from_slice_get runs n run run is in
    rw here at (order n run within)

-- the rows of each child are in order, where those of all are; a child that isn't there has none
pub order_of : (runs : List Stream) (n : ℕ) → RunsAreInDayOrder runs → AreInDayOrder (child runs n).rows
order_of runs n order = order_by (slice_get runs n) n runs refl order

same_events : (f g : PlacedRow → List Event) → ((row : PlacedRow) → f row ≡ g row) → (rows : List PlacedRow) → flat_map f rows ≡ flat_map g rows
same_events f g same [] = refl
same_events f g same (row ∷ rows) = ap (λ events. events ++ flat_map f rows) (same row) ∙ ap (λ later. g row ++ later) (same_events f g same rows)

of_first : (leg : ℕ) (row : PlacedRow) (found : Option PlacedRow) → row_events First leg row (option_map (λ r. r.0) found) ≡ netted_or_alone leg row found ∷ []
of_first leg row None = refl
of_first leg row (Some other) = refl

of_second : (leg : ℕ) (row : PlacedRow) (found : Option PlacedRow) → row_events Second leg row (option_map (λ r. r.0) found) ≡ unless_netted leg row found
of_second leg row None = refl
of_second leg row (Some other) = refl

netted_first : (leg : ℕ) (status : ℤ) (run other : Stream) →
    netted_events First leg status run other ≡ map (λ row. netted_or_alone leg row (partner (taken_rows status run) (taken_rows status other) row)) (taken_rows status run)
netted_first leg status run other =
    let rows = taken_rows status run in
    let found = partner rows (taken_rows status other) in
    same_events (events_beside First leg status run other) (λ row. netted_or_alone leg row (found row) ∷ []) (λ row. of_first leg row (found row)) rows
    ∙ flat_map_single (λ row. netted_or_alone leg row (found row)) rows

netted_second : (leg : ℕ) (status : ℤ) (run other : Stream) →
    netted_events Second leg status run other ≡ flat_map (λ row. unless_netted leg row (partner (taken_rows status run) (taken_rows status other) row)) (taken_rows status run)
netted_second leg status run other =
    let rows = taken_rows status run in
    let found = partner rows (taken_rows status other) in
    same_events (events_beside Second leg status run other) (λ row. unless_netted leg row (found row)) (λ row. of_second leg row (found row)) rows

module _ (common : Common) (swaps : Swaps) (children : List Stream) (events firsts both : List Event) where
  pub all_netted : swaps.delivery_settlement ≡ delivery.S →
      firsts ≡ events ++ netted_events First (first_leg swaps) common.status_date (child children (first_leg swaps)) (child children (second_leg swaps)) →
      both ≡ firsts ++ netted_events Second (second_leg swaps) common.status_date (child children (second_leg swaps)) (child children (first_leg swaps)) →
      both ≡ events ++ swaps_events common swaps children
  all_netted net first second =
      let status = common.status_date in
      let one = child children (first_leg swaps) in
      let two = child children (second_leg swaps) in
      rw net
      (second ∙ ap (λ (earlier : List Event). earlier ++ netted_events Second (second_leg swaps) status two one) first
      ∙ append_assoc events (netted_events First (first_leg swaps) status one two) (netted_events Second (second_leg swaps) status two one)
      ∙ ap (λ (later : List Event). events ++ (later ++ netted_events Second (second_leg swaps) status two one)) (netted_first (first_leg swaps) status one two)
      ∙ ap (λ (later : List Event). events ++ (map (λ row. netted_or_alone (first_leg swaps) row (partner (taken_rows status one) (taken_rows status two) row)) (taken_rows status one) ++ later)) (netted_second (second_leg swaps) status two one))
