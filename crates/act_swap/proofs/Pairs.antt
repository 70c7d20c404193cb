-- The rows of a cap and floor's children within the limits, one by one.
use Rattle.std.proofs.Common.{◌≡◌, ℕ, ◌+◌, ◌<◌, true, false, ℤ, List, [], ◌∷◌, ◌++◌, length, map, drop, slice_get, Option, Some, None, IsSomeAnd, refl, sym, ◌∙◌, ap, append_assoc, append-nil}
use Rattle.std.proofs.lemmas.Option.{slice_get_within}
use Rattle.std.specs.List.{enumerate_from, filter, zip}
use Rattle.act_model.specs.Run.{Stream}
use Rattle.act_model.specs.declared.event.Event.{Event}
use Rattle.act_model.specs.declared.run.Row.{Row}
use Rattle.act_profile.specs.Legs.{PlacedRow, net_event}
use Rattle.act_swap.proofs.Walks.{next_at}
use Rattle.act_swap.specs.Limits.{is_limited, limited_from}

module _ (status : ℤ) (last : Option ℤ) (run : Stream) (place : ℕ) (row : Row) (here : slice_get run.rows place ≡ Some row) where
  next_row : limited_from status last place run ≡ filter (λ r. is_limited status last r.1) ((place, row) ∷ enumerate_from (place + 1) (drop (place + 1) run.rows))
  next_row = ap (λ left. filter (λ r. is_limited status last r.1) (enumerate_from place left)) (next_at run.rows place row here)

  pub limited_past : is_limited status last row ≡ false → limited_from status last place run ≡ limited_from status last (place + 1) run
  limited_past fails = rw fails at next_row

  pub limited_here : is_limited status last row ≡ true → limited_from status last place run ≡ (place, row) ∷ limited_from status last (place + 1) run
  limited_here holds = rw holds at next_row

-- a place with a row that passes a test is one of those there are
found_by : (P : Row → Type 0) (rows : List Row) (place : ℕ) (found : Option Row) → slice_get rows place ≡ found → IsSomeAnd found P → place < length rows
found_by P rows place None is holds = absurd holds
found_by P rows place (Some row) is holds = slice_get_within rows place row is

pub found_within : (P : Row → Type 0) (rows : List Row) (place : ℕ) → IsSomeAnd (slice_get rows place) P → place < length rows
found_within P rows place holds = found_by P rows place (slice_get rows place) refl holds

-- the events of rows of both, the k-th with the k-th
abbrev pub paired : List PlacedRow → List PlacedRow → List Event
paired rows others = map (λ both. net_event both.0 both.1) (zip rows others)

paired_none : (rows : List PlacedRow) → paired rows [] ≡ []
paired_none [] = refl
paired_none (row ∷ rows) = refl

-- the rows before a place of both have brought the earlier events to these
pub record HasPaired (status : ℤ) (last : Option ℤ) (underlying shadow : Stream) (earlier events : List Event) (place from : ℕ) : Type 0 where
  pub is : earlier ++ paired (limited_from status last 0 underlying) (limited_from status last 0 shadow) ≡ events ++ paired (limited_from status last place underlying) (limited_from status last from shadow)

module _ (status : ℤ) (last : Option ℤ) (underlying shadow : Stream) (earlier events : List Event) (place from : ℕ) where
  pub paired_past : (row : Row) → HasPaired status last underlying shadow earlier events place from → slice_get underlying.rows place ≡ Some row → is_limited status last row ≡ false →
      HasPaired status last underlying shadow earlier events (place + 1) from
  paired_past row so_far here fails = record {
    is = so_far.is ∙ ap (λ rows. events ++ paired rows (limited_from status last from shadow)) (limited_past status last underlying place row here fails);
  }

  paired_with : (row : Row) (found : ℕ) (other : Option Row) → slice_get shadow.rows found ≡ other → HasPaired status last underlying shadow earlier events place from → slice_get underlying.rows place ≡ Some row →
      is_limited status last row ≡ true → limited_from status last from shadow ≡ limited_from status last found shadow → IsSomeAnd other (λ r. is_limited status last r ≡ true) →
      HasPaired status last underlying shadow earlier (events ++ net_event (place, row) (found, row) ∷ []) (place + 1) (found + 1)
  paired_with row found (Some other) there so_far here holds same limited =
      let rows = limited_here status last underlying place row here holds in
      let others = same ∙ limited_here status last shadow found other there limited in
      let left = paired (limited_from status last (place + 1) underlying) (limited_from status last (found + 1) shadow) in
      record { is = so_far.is ∙ rw (rows, others) (sym (append_assoc events (net_event (place, row) (found, row) ∷ []) left)) }
  paired_with row found None there so_far here holds same limited = absurd limited

  pub paired_one : (row : Row) (found : ℕ) → HasPaired status last underlying shadow earlier events place from → slice_get underlying.rows place ≡ Some row → is_limited status last row ≡ true →
      limited_from status last from shadow ≡ limited_from status last found shadow → IsSomeAnd (slice_get shadow.rows found) (λ r. is_limited status last r ≡ true) →
      HasPaired status last underlying shadow earlier (events ++ net_event (place, row) (found, row) ∷ []) (place + 1) (found + 1)
  paired_one row found so_far here holds same limited = paired_with row found (slice_get shadow.rows found) refl so_far here holds same limited

  pub paired_out : HasPaired status last underlying shadow earlier events place from → limited_from status last from shadow ≡ [] →
      events ≡ earlier ++ paired (limited_from status last 0 underlying) (limited_from status last 0 shadow)
  paired_out so_far none =
      sym (so_far.is ∙ ap (λ others. events ++ paired (limited_from status last place underlying) others) none
      ∙ ap (λ later. events ++ later) (paired_none (limited_from status last place underlying)) ∙ append-nil events)
