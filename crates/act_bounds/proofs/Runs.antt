-- The runs of a portfolio that can be printed can be printed.
use Rattle.std.proofs.Common.{◌≡◌, ◌<◌, ◌∙◌, ℕ, zero, suc, ℤ, List, [], ◌∷◌, map, Option, Some, None, Result, Ok, Err, IfOk, refl, sym, ap}
use Rattle.std.specs.List.{AllByRecursion, slice_get}
use Rattle.std.specs.Option.{ok_or}
use Rattle.std.specs.Prelude.{option_map}
use Rattle.std.proofs.lemmas.List.Elements.{recursion_from_All}
use Rattle.std.proofs.lemmas.Option.{slice_get-map}
use Rattle.act_date.specs.Civil.{IsDay}
use Rattle.act_model.specs.Bounds.{AreBounded, EntryIsBounded, IsDated}
use Rattle.act_model.specs.Run.{EventPlan, Stream}
use Rattle.act_model.specs.declared.event.Event.{Event}
use Rattle.act_model.specs.declared.event.EventType.TheVariants.{IED}
use Rattle.act_model.specs.declared.observed.Obs.{Obs}
use Rattle.act_model.specs.declared.run.PlanFault.{PlanFault}
use Rattle.act_model.specs.declared.run.Stop.{Stop}
use Rattle.act_model.specs.declared.run.Stop.TheVariants.{Overflow}
use Rattle.act_model.specs.declared.state.State.{State}
use Rattle.act_model.specs.declared.terms.Terms.{Terms}
use Rattle.act_num.specs.Number.{InRange}
use Rattle.act_profile.specs.Events.{events_of}
use Rattle.act_profile.specs.Plan.{plan_by, plan_of}
use Rattle.act_profile.specs.Printable.{AreNamed, ArePrintable}
use Rattle.act_profile.specs.Run.{Contracts, deepest, own_run, rows_from, run_from, run_over, run_to, run_where_given}
use Rattle.act_profile.specs.Steps.{currency_of, start_of, state_by, step_of}
use Rattle.act_profile.specs.Stops.{chosen_close}
use Rattle.act_bounds.proofs.Amounts.{StateHolds, start-holds, step-holds}
use Rattle.act_bounds.proofs.Children.{ChildrenHold, none-holds, paid-holds}
use Rattle.act_bounds.proofs.Codes.{StopHolds, codes-below, step-stops}
use Rattle.act_causality.proofs.KindRuns.{events-scale}
use Rattle.act_bounds.proofs.Currencies.{currency-below}
use Rattle.act_bounds.proofs.Days.{EventHolds, events-hold}
use Rattle.act_bounds.proofs.Stopped.{chosen-holds, under_stop-holds}
use Rattle.act_bounds.specs.Bounds.{RunHolds, RunsHold}
use Rattle.act_causality.proofs.Fold.{Step, taken_rows}
use Rattle.act_causality.proofs.LegRows.{all-get}
use Rattle.act_causality.proofs.Plans.{ScalesWhereScaled}
use Rattle.act_causality.specs.Causality.{children_at}

module _ (codes currencies : ℕ) where
  -- a step that goes on pays a number of the range and leaves such a state, and one that stops can be printed
  pub record StepHolds (taken : Result (ℤ × State) Stop) : Type 0 where
    pub goes_on : IfOk taken (λ t. InRange t.0 × StateHolds t.1)
    pub stops : StopHolds codes taken

  -- ---- the rows of events

  taken-holds : (event : Event) (currency : ℕ) (rest : State → Stream) (taken : Result (ℤ × State) Stop) → IsDay event.day → currency < currencies → StepHolds taken →
      ((s : State) → StateHolds s → RunHolds codes currencies (rest s)) → RunHolds codes currencies (taken_rows event currency rest taken)
  taken-holds event currency rest (Ok taken) is below step later =
      let state = step.goes_on.1 in
      let rests = later taken.1 state in
      record {
        rows = (record { day = is; currency = below; payoff = step.goes_on.0; nt = state.nt; ipnr = state.ipnr; ipac = state.ipac }, rests.rows);
        close = rests.close;
      }
  taken-holds event currency rest (Err stop) is below step later = record { rows = tt; close = step.stops }

  -- of an event the day is a day, and its step and its currency are as they have to be
  record IsTaken (step : Step) (currency : Event → ℕ) (event : Event) : Type 0 where
    pub day : IsDay event.day
    pub paid_in : currency event < currencies
    pub taken : (s : State) → StateHolds s → StepHolds (step s event)

  rows-hold : (step : Step) (currency : Event → ℕ) (s : State) (events : List Event) → StateHolds s → AllByRecursion (IsTaken step currency) events → RunHolds codes currencies (rows_from step currency s events)
  unfolding rows_from
  rows-hold step currency s [] state all = none-holds codes currencies
  rows-hold step currency s (event ∷ events) state all =
      taken-holds event (currency event) (λ next. rows_from step currency next events) (step s event) all.0.day all.0.paid_in (all.0.taken s state)
      (λ next holds. rows-hold step currency next events holds all.1)

  start-stops : (terms : Terms) (plan : EventPlan) → AreBounded terms → StopHolds codes (start_of terms plan)
  unfolding start_of
  start-stops terms plan bounded = first (state_by terms.common terms.kind plan) where
    first : (state : Option State) → StopHolds codes (ok_or state (Overflow terms.common.status_date IED))
    first None = bounded.status
    first (Some s) = tt

  from-holds : (step : Step) (currency : Event → ℕ) (events : List Event) (start : Result State Stop) → IfOk start StateHolds → StopHolds codes start → AllByRecursion (IsTaken step currency) events →
      RunHolds codes currencies (run_from (rows_from step currency) events start)
  from-holds step currency events (Ok s) state stops all = rows-hold step currency s events state all
  from-holds step currency events (Err stop) state stops all = record { rows = tt; close = stops }

  -- ---- the run of a contract over its children's runs

  module _ (terms : Terms) (plan : EventPlan) (entries : List Obs) (children : List Stream) (planned : plan_by terms.common terms.kind ≡ Ok plan) (dated : IsDated plan) (bounded : AreBounded terms)
      (named : AreNamed codes currencies terms) (entered : AllByRecursion EntryIsBounded entries) (hold : ChildrenHold codes currencies children) where
    event-taken : (event : Event) → EventHolds event → ScalesWhereScaled terms.kind event → IsTaken (step_of terms plan entries children) (currency_of terms children) event
    event-taken event holds scales = record {
      day = holds.day;
      paid_in = currency-below codes currencies children hold terms named event;
      taken = λ s state. record {
        goes_on = step-holds terms plan entries children s event bounded holds.value (paid-holds codes currencies children hold) state;
        stops = step-stops codes terms (codes-below codes currencies terms named) plan entries children s event holds.day scales;
      };
    }

    all-taken : (events : List Event) → AllByRecursion EventHolds events → AllByRecursion (ScalesWhereScaled terms.kind) events → AllByRecursion (IsTaken (step_of terms plan entries children) (currency_of terms children)) events
    all-taken [] holds scale = tt
    all-taken (event ∷ events) holds scale = (event-taken event holds.0 scale.0, all-taken events holds.1 scale.1)

    own_run-holds : RunHolds codes currencies (own_run terms plan entries children)
    unfolding own_run
    own_run-holds =
        from-holds (step_of terms plan entries children) (currency_of terms children) (events_of terms plan entries children) (start_of terms plan)
        (start-holds terms plan bounded) (start-stops terms plan bounded)
        (all-taken (events_of terms plan entries children) (events-hold codes currencies children hold terms plan entries bounded planned dated entered) (events-scale terms plan entries children planned))

    run_over-holds : RunHolds codes currencies (run_over terms plan entries children)
    unfolding run_over
    run_over-holds =
        under_stop-holds codes currencies terms.common terms.kind entries (chosen_close children) (own_run terms plan entries children) entered (chosen-holds codes currencies children hold) own_run-holds

  -- ---- the runs of a portfolio

  module _ (contracts : Contracts) (printable : ArePrintable codes currencies contracts) (entries : List Obs) (entered : AllByRecursion EntryIsBounded entries) where
    planned-at : (c : ℕ) (terms : Terms) (plan : EventPlan) → slice_get contracts.terms c ≡ Some terms → slice_get contracts.plans c ≡ Some plan → plan_of terms ≡ Ok plan
    planned-at c terms plan here there =
        let ours : Some (plan_of terms) ≡ slice_get (map plan_of contracts.terms) c = ap (option_map plan_of) (sym here) ∙ sym (slice_get-map plan_of contracts.terms c) in
        let theirs : slice_get (map Ok contracts.plans) c ≡ Some (Ok plan) = slice_get-map Ok contracts.plans c ∙ ap (option_map Ok) there in
        let both : Some (plan_of terms) ≡ Some (Ok plan) = ours ∙ ap (λ (plans : List (Result EventPlan PlanFault)). slice_get plans c) printable.planned ∙ theirs in
        cc

    given-holds : (c : ℕ) (terms : Option Terms) (plan : Option EventPlan) (children : List Stream) → slice_get contracts.terms c ≡ terms → slice_get contracts.plans c ≡ plan → ChildrenHold codes currencies children →
        RunHolds codes currencies (run_where_given terms plan entries children)
    given-holds c (Some terms) (Some plan) children here there hold =
        run_over-holds terms plan entries children (planned-at c terms plan here there)
        (all-get IsDated contracts.plans c plan (recursion_from_All IsDated contracts.plans printable.dated) there)
        (all-get AreBounded contracts.terms c terms (recursion_from_All AreBounded contracts.terms printable.bounded) here)
        (all-get (AreNamed codes currencies) contracts.terms c terms (recursion_from_All (AreNamed codes currencies) contracts.terms printable.named) here) entered hold
    given-holds c terms plan children here there hold = none-holds codes currencies

    map-holds : (n : ℕ) (children : List ℕ) → ((c : ℕ) → RunHolds codes currencies (run_to n contracts entries c)) → ChildrenHold codes currencies (map (run_to n contracts entries) children)
    map-holds n [] each = tt
    map-holds n (c ∷ children) each = (each c, map-holds n children each)

    -- the runs hold, over any number of references
    run_to-holds : (n c : ℕ) → RunHolds codes currencies (run_to n contracts entries c)
    unfolding run_to
    run_to-holds zero c = none-holds codes currencies
    run_to-holds (suc n) c =
        given-holds c (slice_get contracts.terms c) (slice_get contracts.plans c) (map (run_to n contracts entries) (children_at contracts c)) refl refl (map-holds n (children_at contracts c) (run_to-holds n))

pub runs_hold : RunsHold
runs_hold codes currencies contracts entries c printable entered = run_to-holds codes currencies contracts printable entries entered deepest c
