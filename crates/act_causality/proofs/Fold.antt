-- The rows of events that agree before a day, by steps that do.
use Rattle.std.proofs.Common.{◌≡◌, ℕ, true, false, ℤ, List, [], ◌∷◌, map, Some, Result, Ok, Err, inl, inr, refl, ap}
use Rattle.std.specs.List.{AllByRecursion}
use Rattle.std.proofs.lemmas.Bool.{cases_Bool}
use Rattle.act_model.specs.Run.{Stream}
use Rattle.act_model.specs.declared.event.Event.{Event}
use Rattle.act_model.specs.declared.run.Stop.{Stop}
use Rattle.act_model.specs.declared.state.State.{State}
use Rattle.act_profile.specs.Run.{close_of, row_of, rows_from, run_from, stopped_at_once, with_row}
use Rattle.act_profile.specs.Stops.{stop_day}
use Rattle.act_causality.specs.Causality.{RunsAgreeBefore, StopsOnTheDay, events_before, is_event_before, unplaced}
use Rattle.act_causality.proofs.Lists.{IsCut, Late, late-none}
use Rattle.act_causality.proofs.Runs.{IsLateRun, late-agree, row-agree, runs-same}

abbrev pub Step : Type 0
Step = State → Event → Result (ℤ × State) Stop

-- the row that a step makes, before the rows of the rest; or its stop
abbrev pub taken_rows : Event → ℕ → (State → Stream) → Result (ℤ × State) Stop → Stream
taken_rows event currency rest (Ok taken) = with_row (row_of event currency taken) (rest taken.1)
taken_rows event currency rest (Err stop) = stopped_at_once stop

-- ---- late events

late-taken : (day : ℤ) (event : Event) (currency : ℕ) (rest : State → Stream) (taken : Result (ℤ × State) Stop) → is_event_before day event ≡ false →
    ((stop : Stop) → taken ≡ Err stop → stop_day (close_of stop) ≡ Some event.day) → ((s : State) → IsLateRun day (rest s)) → IsLateRun day (taken_rows event currency rest taken)
late-taken day event currency rest (Ok taken) late on later = record { rows = rw late (later taken.1).rows; close = (later taken.1).close }
late-taken day event currency rest (Err stop) late on later = record { rows = refl; close = rw (on stop refl) late }

late-rows : (day : ℤ) (step : Step) (currency : Event → ℕ) → StopsOnTheDay step → (s : State) (events : List Event) → Late (is_event_before day) events → IsLateRun day (rows_from step currency s events)
unfolding rows_from
late-rows day step currency on s [] late = record { rows = refl; close = refl }
late-rows day step currency on s (event ∷ events) late =
    late-taken day event (currency event) (λ next. rows_from step currency next events) (step s event) late.0 (λ stop is. on.day s event stop is) (λ next. late-rows day step currency on next events late.1)

-- ---- events before the day

same_row : (event same : Event) (currency other : ℕ) (taken : ℤ × State) → unplaced event ≡ unplaced same → currency ≡ other → row_of event currency taken ≡ row_of same other taken
same_row event same currency other taken events currencies =
    let days : event.day ≡ same.day = ap (λ (e : Event). e.day) events in
    let kinds : event.kind ≡ same.kind = ap (λ (e : Event). e.kind) events in
    rw days (rw kinds (rw currencies refl))

same_taken : (day : ℤ) (event same : Event) (currency other : ℕ) (rest rest2 : State → Stream) (taken : Result (ℤ × State) Stop) → unplaced event ≡ unplaced same → currency ≡ other →
    ((s : State) → RunsAgreeBefore day (rest s) (rest2 s)) → RunsAgreeBefore day (taken_rows event currency rest taken) (taken_rows same other rest2 taken)
same_taken day event same currency other rest rest2 (Ok taken) events currencies agree =
    row-agree day (row_of event currency taken) (row_of same other taken) (rest taken.1) (rest2 taken.1) (same_row event same currency other taken events currencies) (agree taken.1)
same_taken day event same currency other rest rest2 (Err stop) events currencies agree = runs-same day (stopped_at_once stop)

same_steps : (day : ℤ) (event same : Event) (currency other : ℕ) (rest rest2 : State → Stream) (taken taken2 : Result (ℤ × State) Stop) → taken ≡ taken2 → unplaced event ≡ unplaced same → currency ≡ other →
    ((s : State) → RunsAgreeBefore day (rest s) (rest2 s)) → RunsAgreeBefore day (taken_rows event currency rest taken) (taken_rows same other rest2 taken2)
same_steps day event same currency other rest rest2 taken taken2 steps events currencies agree = rw steps (same_taken day event same currency other rest rest2 taken2 events currencies agree)

-- two steps and two currencies that agree at events dated before a day of which something more is known
pub record AgreeAt (day : ℤ) (one other : Step) (currency currency2 : Event → ℕ) (P Q : Event → Type 0) : Type 0 where
  pub step : (s : State) (event same : Event) → is_event_before day event ≡ true → unplaced event ≡ unplaced same → P event → Q same → one s event ≡ other s same
  pub paid_in : (event same : Event) → is_event_before day event ≡ true → unplaced event ≡ unplaced same → P event → Q same → currency event ≡ currency2 same
  pub stops : StopsOnTheDay one
  pub stops2 : StopsOnTheDay other

none-before : (day : ℤ) (event : Event) (events : List Event) → IsCut (is_event_before day) (event ∷ events) → is_event_before day event ≡ false → events_before day (event ∷ events) ≡ []
none-before day event events cut late = rw late (ap (map unplaced) (late-none (is_event_before day) events (cut.0 late)))

module _ (day : ℤ) (one other : Step) (currency currency2 : Event → ℕ) (P Q : Event → Type 0) (at : AgreeAt day one other currency currency2 P Q) where
  pub rows-agree : (s : State) (events sames : List Event) → events_before day events ≡ events_before day sames → IsCut (is_event_before day) events → IsCut (is_event_before day) sames →
      AllByRecursion P events → AllByRecursion Q sames → RunsAgreeBefore day (rows_from one currency s events) (rows_from other currency2 s sames)
  unfolding rows_from
  rows-agree s [] [] agree cut cut2 all all2 = runs-same day (rows_from one currency s [])
  rows-agree s [] (same ∷ sames) agree cut cut2 all all2 =
      elim (cases_Bool (is_event_before day same)) [
        | inl early ↦ let is : events_before day [] ≡ unplaced same ∷ events_before day sames = rw early at agree in absurd (cc)
        | inr late ↦ late-agree day _ _ (late-rows day one currency at.stops s [] tt) (late-rows day other currency2 at.stops2 s (same ∷ sames) (late, cut2.0 late))
      ]
  rows-agree s (event ∷ events) [] agree cut cut2 all all2 =
      elim (cases_Bool (is_event_before day event)) [
        | inl early ↦ let is : unplaced event ∷ events_before day events ≡ [] = rw early at agree in absurd (cc)
        | inr late ↦ late-agree day _ _ (late-rows day one currency at.stops s (event ∷ events) (late, cut.0 late)) (late-rows day other currency2 at.stops2 s [] tt)
      ]
  rows-agree s (event ∷ events) (same ∷ sames) agree cut cut2 all all2 =
      elim (cases_Bool (is_event_before day event)) [
        | inl early ↦ elim (cases_Bool (is_event_before day same)) [
          | inl early2 ↦
              let is : unplaced event ∷ events_before day events ≡ unplaced same ∷ events_before day sames = rw early2 at (rw early at agree) in
              let heads : unplaced event ≡ unplaced same = cc in
              let tails : events_before day events ≡ events_before day sames = cc in
              let steps : one s event ≡ other s same = at.step s event same early heads all.0 all2.0 in
              same_steps day event same (currency event) (currency2 same) (λ next. rows_from one currency next events) (λ next. rows_from other currency2 next sames) (one s event) (other s same) steps
              heads (at.paid_in event same early heads all.0 all2.0) (λ next. rows-agree next events sames tails cut.1 cut2.1 all.1 all2.1)
          | inr late2 ↦
              let is : unplaced event ∷ events_before day events ≡ events_before day (same ∷ sames) = rw early at agree in
              let none = none-before day same sames cut2 late2 in
              absurd (cc)
        ]
        | inr late ↦ elim (cases_Bool (is_event_before day same)) [
          | inl early2 ↦
              let is : events_before day (event ∷ events) ≡ unplaced same ∷ events_before day sames = rw early2 at agree in
              let none = none-before day event events cut late in
              absurd (cc)
          | inr late2 ↦ late-agree day _ _ (late-rows day one currency at.stops s (event ∷ events) (late, cut.0 late)) (late-rows day other currency2 at.stops2 s (same ∷ sames) (late2, cut2.0 late2))
        ]
      ]

  -- from one starting state on, or from none
  pub run_from-agree : (start : Result State Stop) (events sames : List Event) → events_before day events ≡ events_before day sames → IsCut (is_event_before day) events → IsCut (is_event_before day) sames →
      AllByRecursion P events → AllByRecursion Q sames → RunsAgreeBefore day (run_from (rows_from one currency) events start) (run_from (rows_from other currency2) sames start)
  run_from-agree (Ok s) events sames agree cut cut2 all all2 = rows-agree s events sames agree cut cut2 all all2
  run_from-agree (Err stop) events sames agree cut cut2 all all2 = runs-same day (stopped_at_once stop)
