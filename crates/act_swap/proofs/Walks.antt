-- The events of rows that are gone through one by one.
use Rattle.std.proofs.Common.{◌≡◌, ℕ, ◌+◌, ◌≤◌, Bool, true, false, if◌then◌else◌, List, [], ◌∷◌, ◌++◌, length, map, drop, slice_get, Some, inl, inr, refl, sym, ◌∙◌, ap, append_assoc, append-nil}
use Rattle.std.proofs.lemmas.Bool.{cases_Bool}
use Rattle.std.proofs.lemmas.List.{drop_all}
use Rattle.std.proofs.lemmas.List.Concat.{flat_map_single}
use Rattle.std.proofs.lemmas.Option.{get_or_from_slice_get, slice_get_within}
use Rattle.std.specs.List.{enumerate_from, filter, flat_map}
use Rattle.act_model.specs.declared.event.Event.{Event}
use Rattle.act_model.specs.declared.run.Row.{Row}
use Rattle.act_model.proofs.Lists.{next_of}
use Rattle.act_profile.specs.Legs.{PlacedRow, leg_event}

-- what is left from a place on begins with what stands there
pub next_at : {X : Type 0} (xs : List X) (i : ℕ) (x : X) → slice_get xs i ≡ Some x → drop i xs ≡ x ∷ drop (i + 1) xs
next_at xs i x is = next_of xs i x (slice_get_within xs i x is) (sym (get_or_from_slice_get xs i x x is))

-- the event of a row by itself
abbrev pub alone : ℕ → PlacedRow → List Event
alone leg row = leg_event leg row ∷ []

pub all_alone : (leg : ℕ) (rows : List PlacedRow) → flat_map (alone leg) rows ≡ map (leg_event leg) rows
all_alone leg rows = flat_map_single (leg_event leg) rows

-- the events of a row that passes a test
abbrev pub kept : (Row → Bool) → (PlacedRow → List Event) → PlacedRow → List Event
kept test events row = if test row.1 then events row else []

-- those of all rows are those of the rows that pass
of_kept : (test : Row → Bool) (events : PlacedRow → List Event) (rows : List PlacedRow) → flat_map (kept test events) rows ≡ flat_map events (filter (λ row. test row.1) rows)
of_kept test events [] = refl
of_kept test events (row ∷ rows) =
    elim (cases_Bool (test row.1)) [
      | inl passes ↦ rw passes (ap (λ later. events row ++ later) (of_kept test events rows))
      | inr fails ↦ rw fails (of_kept test events rows)
    ]

-- the first k rows, as far as they pass, have brought the earlier events to these
pub record HasAdded (test : Row → Bool) (events : PlacedRow → List Event) (rows : List Row) (earlier added : List Event) (k : ℕ) : Type 0 where
  pub is : earlier ++ flat_map (kept test events) (enumerate_from 0 rows) ≡ added ++ flat_map (kept test events) (enumerate_from k (drop k rows))

module _ (test : Row → Bool) (events : PlacedRow → List Event) (rows : List Row) (earlier added : List Event) (k : ℕ) where
  next_row : (row : Row) → slice_get rows k ≡ Some row →
      flat_map (kept test events) (enumerate_from k (drop k rows)) ≡ kept test events (k, row) ++ flat_map (kept test events) (enumerate_from (k + 1) (drop (k + 1) rows))
  next_row row here = ap (λ left. flat_map (kept test events) (enumerate_from k left)) (next_at rows k row here)

  pub passed_one : (row : Row) → HasAdded test events rows earlier added k → slice_get rows k ≡ Some row → test row ≡ false → HasAdded test events rows earlier added (k + 1)
  passed_one row so_far here fails =
      let next = rw fails at (next_row row here) in
      record { is = so_far.is ∙ ap (λ later. added ++ later) next }

  pub added_one : (row : Row) → HasAdded test events rows earlier added k → slice_get rows k ≡ Some row → test row ≡ true → HasAdded test events rows earlier (added ++ events (k, row)) (k + 1)
  added_one row so_far here passes =
      let next = rw passes at (next_row row here) in
      record { is = so_far.is ∙ ap (λ later. added ++ later) next ∙ sym (append_assoc added (events (k, row)) (flat_map (kept test events) (enumerate_from (k + 1) (drop (k + 1) rows)))) }

  pub added_all : HasAdded test events rows earlier added k → length rows ≤ k → added ≡ earlier ++ flat_map events (filter (λ row. test row.1) (enumerate_from 0 rows))
  added_all so_far le =
      sym (so_far.is ∙ ap (λ left. added ++ flat_map (kept test events) (enumerate_from k left)) (drop_all k rows le) ∙ append-nil added)
      ∙ ap (λ all. earlier ++ all) (of_kept test events (enumerate_from 0 rows))
