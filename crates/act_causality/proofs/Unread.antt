-- What isn't read doesn't matter: books with the same entries that touch a cone.
use Rattle.std.proofs.Common.{◌≡◌, ℕ, zero, suc, Bool, true, false, ℤ, List, [], ◌∷◌, ◌++◌, map, Option, Some, Result, Ok, Err, refl, sym, ◌∙◌, ap}
use Rattle.std.specs.Int.{int_max}
use Rattle.std.specs.List.{AllByRecursion, enumerate_from, filter, filter_map, flat_map, reduce, slice_get}
use Rattle.std.specs.Option.{unwrap_or}
use Rattle.std.specs.Prelude.{option_and_then}
use Rattle.act_model.specs.Observed.{is_event_of, last_of_day, observation, observed_events, rate_until, rates_until}
use Rattle.act_model.specs.Run.{EventPlan, Stream}
use Rattle.act_model.specs.Terms.{Guarantee}
use Rattle.act_model.specs.declared.event.Event.{Event}
use Rattle.act_model.specs.declared.observed.Obs.{Obs}
use Rattle.act_model.specs.declared.observed.ObsKind.{ObsKind}
use Rattle.act_model.specs.declared.run.Close.{Close}
use Rattle.act_model.specs.declared.run.Stop.{Stop}
use Rattle.act_model.specs.declared.state.State.{State}
use Rattle.act_model.specs.declared.terms.Common.{Common}
use Rattle.act_model.specs.declared.terms.Covered.{Covered}
use Rattle.act_model.specs.declared.terms.Kind.{Kind}
use Rattle.act_model.specs.declared.terms.Kind.TheVariants as kind
use Rattle.act_model.specs.declared.terms.Terms.{Terms}
use Rattle.act_profile.specs.Contract.{observed_as}
use Rattle.act_profile.specs.Credit.{credit_day, credit_event_day, guarantee_events_by}
use Rattle.act_profile.specs.Dates.{is_within, least}
use Rattle.act_profile.specs.Events.{events_of, events_of_children, events_of_entry, events_observed, events_scheduled, with_exercise}
use Rattle.act_profile.specs.Exercise.{events_exercised_on, exercise_day_by, exercise_of, may_be_early}
use Rattle.act_profile.specs.Order.{counting, in_order}
use Rattle.act_profile.specs.Plan.{plan_by}
use Rattle.act_profile.specs.Reads.{codes_of, is_in, touches}
use Rattle.act_causality.proofs.Settled.{all-weaker}
use Rattle.act_profile.specs.Run.{Contracts, row_of, with_row, own_run, rows_from, run_from, run_over, run_to, run_where_given}
use Rattle.act_profile.specs.Steps.{currency_of, start_of, step_of}
use Rattle.act_profile.specs.Stops.{chosen_close, stop_day, stopped_at_credit, under_stop}
use Rattle.act_causality.specs.Causality.{ArePaired, CoveredIn, HasCodes, HaveSameValues, IsLinked, children_at}
use Rattle.act_causality.proofs.Fold.{Step, taken_rows}
use Rattle.act_causality.proofs.KindRuns.{IsKnown, events-known}
use Rattle.act_causality.proofs.Lists.{filter-within, filter_map-within}
use Rattle.act_causality.proofs.Observations.{is_touching, untouched}
use Rattle.act_causality.proofs.OwnDay.{own-day}
use Rattle.act_causality.proofs.References.{Reads, kind-covered}

rest-same : (event : Event) (currency : ℕ) (rest rest2 : State → Stream) (taken : Result (ℤ × State) Stop) → ((s : State) → rest s ≡ rest2 s) → taken_rows event currency rest taken ≡ taken_rows event currency rest2 taken
rest-same event currency rest rest2 (Ok taken) same = ap (with_row (row_of event currency taken)) (same taken.1)
rest-same event currency rest rest2 (Err stop) same = refl

-- the same rows from steps that are the same at each event
rows-same : (one other : Step) (currency : Event → ℕ) (s : State) (events : List Event) → AllByRecursion (λ (e : Event). (t : State) → one t e ≡ other t e) events → rows_from one currency s events ≡ rows_from other currency s events
unfolding rows_from
rows-same one other currency s [] all = refl
rows-same one other currency s (event ∷ events) all =
    ap (taken_rows event (currency event) (λ next. rows_from one currency next events)) (all.0 s)
    ∙ rest-same event (currency event) (λ next. rows_from one currency next events) (λ next. rows_from other currency next events) (other s event) (λ next. rows-same one other currency next events all.1)

from-same : (one other : Step) (currency : Event → ℕ) (events : List Event) (start : Result State Stop) → AllByRecursion (λ (e : Event). (t : State) → one t e ≡ other t e) events →
    run_from (rows_from one currency) events start ≡ run_from (rows_from other currency) events start
from-same one other currency events (Ok s) all = rows-same one other currency s events all
from-same one other currency events (Err stop) all = refl

module _ (codes reads : List ℕ) (one other : List Obs) (touching : filter (touches codes reads) one ≡ filter (touches codes reads) other) where
  same_values : (t : ℤ) → HaveSameValues t codes one other
  unfolding observation
  same_values t code within =
      let rates : rates_until one code t ≡ rates_until other code t =
      sym (filter_map-within (rate_until code t) (touches codes reads) (untouched t t codes reads code within) one) ∙ ap (filter_map (rate_until code t)) touching
      ∙ filter_map-within (rate_until code t) (touches codes reads) (untouched t t codes reads code within) other in
      ap (λ (some : List (ℤ × ℤ)). option_and_then (last_of_day some) (reduce int_max (map (λ rate. rate.0) some))) rates

  same_entries : (contract : ℕ) → is_in reads contract ≡ true → observed_events one contract ≡ observed_events other contract
  same_entries contract within =
      sym (filter-within (is_event_of contract) (touches codes reads) (is_touching codes reads contract within) one) ∙ ap (filter (is_event_of contract)) touching
      ∙ filter-within (is_event_of contract) (touches codes reads) (is_touching codes reads contract within) other

  same_exercise : (early : Bool) (common : Common) (maturity : ℤ) → is_in reads (observed_as common) ≡ true → exercise_day_by early one common maturity ≡ exercise_day_by early other common maturity
  same_exercise false common maturity within = refl
  same_exercise true common maturity within =
      ap (λ (entries : List Obs). unwrap_or (least (filter (is_within common.status_date (Some maturity)) (filter_map exercise_of entries))) maturity) (same_entries (observed_as common) within)

  same_credit_days : (types : List ObsKind) (covered : List Covered) → AllByRecursion (λ (c : Covered). is_in reads c.contract ≡ true) covered →
      flat_map (λ c. filter_map (credit_event_day types) (observed_events one c.contract)) covered ≡ flat_map (λ c. filter_map (credit_event_day types) (observed_events other c.contract)) covered
  same_credit_days types [] within = refl
  same_credit_days types (c ∷ covered) within =
      ap (λ (entries : List Obs). filter_map (credit_event_day types) entries ++ flat_map (λ (d : Covered). filter_map (credit_event_day types) (observed_events one d.contract)) covered) (same_entries c.contract within.0)
      ∙ ap (λ (days : List ℤ). filter_map (credit_event_day types) (observed_events other c.contract) ++ days) (same_credit_days types covered within.1)

  same_credit_day : (common : Common) (guarantee : Guarantee) → AllByRecursion (λ (c : Covered). is_in reads c.contract ≡ true) guarantee.covered → credit_day one common guarantee ≡ credit_day other common guarantee
  unfolding credit_day
  same_credit_day common guarantee within =
      ap (λ (days : List ℤ). least (filter (is_within common.status_date guarantee.maturity_date) days)) (same_credit_days guarantee.credit_event_type_covered guarantee.covered within)

  same_scheduled : (common : Common) (contract : Kind) (plan : EventPlan) → is_in reads (observed_as common) ≡ true → CoveredIn reads contract → events_scheduled common contract plan one ≡ events_scheduled common contract plan other
  same_scheduled common (kind.OPTNS optns) plan within covered = ap (λ (d : ℤ). events_exercised_on common optns.settlement_period d) (same_exercise (may_be_early optns.option_exercise_type) common optns.maturity_date within)
  same_scheduled common (kind.CEG ceg) plan within covered = ap (λ (d : Option ℤ). guarantee_events_by common ceg plan d) (same_credit_day common ceg covered)
  same_scheduled common (kind.CEC cec) plan within covered = ap (λ (d : Option ℤ). guarantee_events_by common cec.guarantee plan d) (same_credit_day common cec.guarantee covered)
  same_scheduled common other plan within covered = refl

  same_observed_events : (terms : Terms) → is_in reads (observed_as terms.common) ≡ true → events_observed terms one ≡ events_observed terms other
  unfolding events_observed
  same_observed_events terms within = ap (λ (entries : List Obs). flat_map (events_of_entry terms.kind) (enumerate_from 0 entries)) (same_entries (observed_as terms.common) within)

  same_stopped : (common : Common) (contract : Kind) (stop : Close) (run : Stream) → CoveredIn reads contract → under_stop common contract one stop run ≡ under_stop common contract other stop run
  same_stopped common (kind.CEG ceg) stop run covered = ap (λ (d : Option ℤ). stopped_at_credit d stop (stop_day stop) run) (same_credit_day common ceg covered)
  same_stopped common (kind.CEC cec) stop run covered = ap (λ (d : Option ℤ). stopped_at_credit d stop (stop_day stop) run) (same_credit_day common cec.guarantee covered)
  same_stopped common other stop run covered = refl

  module _ (terms : Terms) (plan : EventPlan) (children : List Stream) (planned : plan_by terms.common terms.kind ≡ Ok plan) (has : HasCodes codes (codes_of terms))
      (within : is_in reads (observed_as terms.common) ≡ true) (covered : CoveredIn reads terms.kind) (pairs : ArePaired terms.common terms.kind children) where
    same_events : events_of terms plan one children ≡ events_of terms plan other children
    unfolding events_of
    same_events =
        ap (λ (events : List Event). with_exercise terms.kind (counting terms.common.status_date terms.kind (in_order (events ++ events_observed terms one ++ events_of_children terms.common terms.kind children)))) (same_scheduled terms.common terms.kind plan within covered)
        ∙ ap (λ (events : List Event). with_exercise terms.kind (counting terms.common.status_date terms.kind (in_order (events_scheduled terms.common terms.kind plan other ++ events ++ events_of_children terms.common terms.kind children)))) (same_observed_events terms within)

    same_step_at : (event : Event) → IsKnown terms.kind children event → (s : State) → step_of terms plan one children s event ≡ step_of terms plan other children s event
    same_step_at event known s = own-day terms plan event known.scales one other children (λ code within. same_values event.day code (has code within)) s

    same_own : own_run terms plan one children ≡ own_run terms plan other children
    unfolding own_run
    same_own =
        ap (λ (events : List Event). run_from (rows_from (step_of terms plan one children) (currency_of terms children)) events (start_of terms plan)) same_events
        ∙ from-same (step_of terms plan one children) (step_of terms plan other children) (currency_of terms children) (events_of terms plan other children) (start_of terms plan)
        (all-weaker (IsKnown terms.kind children) (λ (e : Event). (t : State) → step_of terms plan one children t e ≡ step_of terms plan other children t e) same_step_at (events_of terms plan other children) (events-known terms plan other children planned pairs))

    pub same_run_over : run_over terms plan one children ≡ run_over terms plan other children
    unfolding run_over
    same_run_over =
        ap (under_stop terms.common terms.kind one (chosen_close children)) same_own ∙ same_stopped terms.common terms.kind (chosen_close children) (own_run terms plan other children) covered

  module _ (contracts : Contracts) (linked : IsLinked contracts)
      (paired : (n : ℕ) (entries : List Obs) (c : ℕ) (terms : Terms) → slice_get contracts.terms c ≡ Some terms → ArePaired terms.common terms.kind (map (run_to n contracts entries) (children_at contracts c))) where
    map-same : (n : ℕ) (children : List ℕ) → ((c : ℕ) → Reads contracts codes reads n c → run_to n contracts one c ≡ run_to n contracts other c) → AllByRecursion (Reads contracts codes reads n) children →
        map (run_to n contracts one) children ≡ map (run_to n contracts other) children
    map-same n [] each all = refl
    map-same n (c ∷ children) each all = ap (λ (run : Stream). run ∷ map (run_to n contracts one) children) (each c all.0) ∙ ap (λ (runs : List Stream). run_to n contracts other c ∷ runs) (map-same n children each all.1)

    given-same : (n c : ℕ) (terms : Option Terms) (plan : Option EventPlan) → slice_get contracts.terms c ≡ terms → slice_get contracts.plans c ≡ plan → Reads contracts codes reads (suc n) c →
        run_where_given terms plan one (map (run_to n contracts other) (children_at contracts c)) ≡ run_where_given terms plan other (map (run_to n contracts other) (children_at contracts c))
    given-same n c (Some terms) (Some plan) here there has =
        same_run_over terms plan (map (run_to n contracts other) (children_at contracts c)) (linked.plans c terms plan here there) (has.0.own_codes terms here) (has.0.own_events terms here)
        (kind-covered contracts codes reads n (children_at contracts c) terms.kind has.1 (linked.children c terms here)) (paired n other c terms here)
    given-same n c terms plan here there has = refl

    -- the runs are the same, over any number of references
    pub same_run_to : (n c : ℕ) → Reads contracts codes reads n c → run_to n contracts one c ≡ run_to n contracts other c
    unfolding run_to
    same_run_to zero c has = absurd has
    same_run_to (suc n) c has =
        ap (run_where_given (slice_get contracts.terms c) (slice_get contracts.plans c) one) (map-same n (children_at contracts c) (same_run_to n) has.1)
        ∙ given-same n c (slice_get contracts.terms c) (slice_get contracts.plans c) refl refl has
