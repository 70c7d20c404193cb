-- Events that stand by their days, and the rows that they make.
use Rattle.std.proofs.Common.{◌≡◌, ℕ, zero, suc, Bool, true, false, ℤ, ◌≤ℤ◌, List, [], ◌∷◌, ◌++◌, take, inl, inr, Ok, Err, Result, arith}
use Rattle.std.specs.List.{All, AllPairs, filter, list_any}
use Rattle.std.proofs.lemmas.Bool.{cases_Bool}
use Rattle.std.proofs.lemmas.Int.{ints}
use Rattle.std.proofs.lemmas.List.Elements.{All-cons, All-nil}
use Rattle.std.proofs.lemmas.List.Kept.{AllPairs-cons}
use Rattle.act_kind.proofs.InOrder.{in_order-sorted}
use Rattle.act_model.specs.Run.{EventPlan, Stream}
use Rattle.act_model.specs.declared.event.Event.{Event}
use Rattle.act_model.specs.declared.event.EventType.TheVariants.{XD}
use Rattle.act_model.specs.declared.observed.Obs.{Obs}
use Rattle.act_model.specs.declared.run.Row.{Row}
use Rattle.act_model.specs.declared.run.Stop.{Stop}
use Rattle.act_model.specs.declared.state.State.{State}
use Rattle.act_model.specs.declared.terms.Kind.{Kind}
use Rattle.act_model.specs.declared.terms.Kind.TheVariants as kind
use Rattle.act_model.specs.declared.terms.Terms.{Terms}
use Rattle.act_profile.specs.Events.{events_of, events_of_children, events_observed, events_scheduled, with_exercise}
use Rattle.act_profile.specs.Exercise.{with_settlement}
use Rattle.act_profile.specs.Order.{counts, ends, in_order, is_type, precedes, up_to_end}
use Rattle.act_profile.specs.Run.{rows_from}
use Rattle.act_profile.specs.DayOrder.{AreInDayOrder}
use Rattle.act_run.proofs.TakenRows.{Step, taken_rows}

-- each event is on that day or later
abbrev pub AreFrom : ℤ → List Event → Type 0
AreFrom day [] = Unit {0}
AreFrom day (event ∷ events) = (day ≤ℤ event.day) × AreFrom day events

-- no event stands behind one of a later day
abbrev pub Ascend : List Event → Type 0
Ascend [] = Unit {0}
Ascend (event ∷ events) = AreFrom event.day events × Ascend events

-- ---- events in order

not_before : (later event : Event) → precedes later event ≡ false → event.day ≤ℤ later.day
not_before later event is = grind (arith, ints)

from_pairs : (event : Event) (events : List Event) → All (λ later. precedes later event ≡ false) events → AreFrom event.day events
from_pairs event [] pairs = tt
from_pairs event (later ∷ events) pairs =
    (not_before later event (pairs zero later (omega arith)), from_pairs event events (λ k d within. pairs (suc k) d (omega arith)))

ascend_by_pairs : (events : List Event) → AllPairs (λ earlier later. precedes later earlier ≡ false) events → Ascend events
ascend_by_pairs [] pairs = tt
ascend_by_pairs (event ∷ events) pairs =
    (from_pairs event events (λ k d within. pairs zero (suc k) d (omega arith) (omega arith)), ascend_by_pairs events (λ i j d less within. pairs (suc i) (suc j) d (omega arith) (omega arith)))

-- ---- fewer events

from-filter : (test : Event → Bool) (day : ℤ) (events : List Event) → AreFrom day events → AreFrom day (filter test events)
from-filter test day [] from = tt
from-filter test day (event ∷ events) from =
    elim (cases_Bool (test event)) [
      | inl passes ↦ rw passes (from.0, from-filter test day events from.1)
      | inr fails ↦ rw fails (from-filter test day events from.1)
    ]

ascend-filter : (test : Event → Bool) (events : List Event) → Ascend events → Ascend (filter test events)
ascend-filter test [] up = tt
ascend-filter test (event ∷ events) up =
    elim (cases_Bool (test event)) [
      | inl passes ↦ rw passes (from-filter test event.day events up.0, ascend-filter test events up.1)
      | inr fails ↦ rw fails (ascend-filter test events up.1)
    ]

from-up_to_end : (contract : Kind) (day : ℤ) (events : List Event) → AreFrom day events → AreFrom day (up_to_end contract events)
unfolding up_to_end
from-up_to_end contract day [] from = tt
from-up_to_end contract day (event ∷ events) from =
    elim (cases_Bool (ends contract event)) [
      | inl is ↦ rw is (from.0, tt)
      | inr goes_on ↦ rw goes_on (from.0, from-up_to_end contract day events from.1)
    ]

ascend-up_to_end : (contract : Kind) (events : List Event) → Ascend events → Ascend (up_to_end contract events)
unfolding up_to_end
ascend-up_to_end contract [] up = tt
ascend-up_to_end contract (event ∷ events) up =
    elim (cases_Bool (ends contract event)) [
      | inl is ↦ rw is (tt, tt)
      | inr goes_on ↦ rw goes_on (from-up_to_end contract event.day events up.0, ascend-up_to_end contract events up.1)
    ]

ascend-settlement : (exercised : Bool) (events : List Event) → Ascend events → Ascend (with_settlement exercised events)
ascend-settlement true events up = up
ascend-settlement false events up = ascend-filter _ events up

ascend-exercise : (contract : Kind) (events : List Event) → Ascend events → Ascend (with_exercise contract events)
ascend-exercise (kind.OPTNS optns) events up = ascend-settlement (list_any (λ e. is_type e.kind XD) events) events up
ascend-exercise (kind.FUTUR futur) events up = ascend-settlement (list_any (λ e. is_type e.kind XD) events) events up
ascend-exercise other events up = up

-- the events of a contract
pub events_ascend : (terms : Terms) (plan : EventPlan) (entries : List Obs) (children : List Stream) → Ascend (events_of terms plan entries children)
unfolding events_of
events_ascend terms plan entries children =
    let all = events_scheduled terms.common terms.kind plan entries ++ events_observed terms entries ++ events_of_children terms.common terms.kind children in
    ascend-exercise terms.kind _ (ascend-filter (λ e. counts terms.common.status_date terms.kind e.day) _ (ascend-up_to_end terms.kind _ (ascend_by_pairs (in_order all) (in_order-sorted all))))

from-take : (n : ℕ) (day : ℤ) (events : List Event) → AreFrom day events → AreFrom day (take n events)
from-take zero day events from = tt
from-take (suc n) day [] from = tt
from-take (suc n) day (event ∷ events) from = (from.0, from-take n day events from.1)

pub ascend-take : (n : ℕ) (events : List Event) → Ascend events → Ascend (take n events)
ascend-take zero events up = tt
ascend-take (suc n) [] up = tt
ascend-take (suc n) (event ∷ events) up = (from-take n event.day events up.0, ascend-take n events up.1)

-- ---- rows

abbrev pub RowsFrom : ℤ → List Row → Type 0
RowsFrom day [] = Unit {0}
RowsFrom day (row ∷ rows) = (day ≤ℤ row.day) × RowsFrom day rows

abbrev pub RowsAscend : List Row → Type 0
RowsAscend [] = Unit {0}
RowsAscend (row ∷ rows) = RowsFrom row.day rows × RowsAscend rows

taken-from : (day : ℤ) (event : Event) (currency : ℕ) (rest : State → Stream) (taken : Result (ℤ × State) Stop) → day ≤ℤ event.day → ((s : State) → RowsFrom day (rest s).rows)
    → RowsFrom day (taken_rows event currency rest taken).rows
taken-from day event currency rest (Ok taken) here from = (here, from taken.1)
taken-from day event currency rest (Err stop) here from = tt

pub rows_are_from : (step : Step) (currency : Event → ℕ) (day : ℤ) (s : State) (events : List Event) → AreFrom day events → RowsFrom day (rows_from step currency s events).rows
unfolding rows_from
rows_are_from step currency day s [] from = tt
rows_are_from step currency day s (event ∷ events) from =
    taken-from day event (currency event) (λ next. rows_from step currency next events) (step s event) from.0 (λ next. rows_are_from step currency day next events from.1)

taken-ascend : (event : Event) (currency : ℕ) (rest : State → Stream) (taken : Result (ℤ × State) Stop) → ((s : State) → RowsFrom event.day (rest s).rows) → ((s : State) → RowsAscend (rest s).rows)
    → RowsAscend (taken_rows event currency rest taken).rows
taken-ascend event currency rest (Ok taken) from up = (from taken.1, up taken.1)
taken-ascend event currency rest (Err stop) from up = tt

rows_ascend : (step : Step) (currency : Event → ℕ) (s : State) (events : List Event) → Ascend events → RowsAscend (rows_from step currency s events).rows
unfolding rows_from
rows_ascend step currency s [] up = tt
rows_ascend step currency s (event ∷ events) up =
    taken-ascend event (currency event) (λ next. rows_from step currency next events) (step s event) (λ next. rows_are_from step currency event.day next events up.0) (λ next. rows_ascend step currency next events up.1)

all_from : (day : ℤ) (rows : List Row) → RowsFrom day rows → All (λ (row : Row). day ≤ℤ row.day) rows
all_from day [] from = All-nil (λ row. day ≤ℤ row.day)
all_from day (row ∷ rows) from = All-cons (λ r. day ≤ℤ r.day) row rows from.0 (all_from day rows from.1)

all_pairs : (rows : List Row) → RowsAscend rows → AllPairs (λ (earlier later : Row). earlier.day ≤ℤ later.day) rows
all_pairs [] up = λ i j d less within. absurd (omega arith)
all_pairs (row ∷ rows) up = AllPairs-cons (λ earlier later. earlier.day ≤ℤ later.day) row rows (all_from row.day rows up.0) (all_pairs rows up.1)

-- the rows of events that stand by their days do so too
pub in_day_order : (step : Step) (currency : Event → ℕ) (s : State) (events : List Event) → Ascend events → AreInDayOrder (rows_from step currency s events).rows
in_day_order step currency s events up = record { ascending = all_pairs (rows_from step currency s events).rows (rows_ascend step currency s events up) }

pub none_in_day_order : AreInDayOrder []
none_in_day_order = record { ascending = all_pairs [] tt }
