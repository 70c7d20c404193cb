-- The run of any contract over books and children's runs that agree before a day.
use Rattle.std.proofs.Common.{◌≡◌, ℕ, true, false, ℤ, int_lt, int_le, List, [], ◌∷◌, Option, Some, None, Result, Ok, Err, inl, inr, ◌∙◌}
use Rattle.std.specs.List.{AllByRecursion}
use Rattle.std.proofs.lemmas.Bool.{cases_Bool}
use Rattle.act_date.specs.Civil.{last_day}
use Rattle.act_model.specs.Run.{EventPlan, Stream}
use Rattle.act_model.specs.declared.event.Event.{Event}
use Rattle.act_model.specs.declared.observed.Obs.{Obs}
use Rattle.act_model.specs.declared.run.Close.{Close}
use Rattle.act_model.specs.declared.run.Row.{Row}
use Rattle.act_model.specs.declared.run.Stop.{Stop}
use Rattle.act_model.specs.declared.state.State.{State}
use Rattle.act_model.specs.declared.terms.Common.{Common}
use Rattle.act_model.specs.declared.terms.Kind.{Kind}
use Rattle.act_model.specs.declared.terms.Kind.TheVariants as kind
use Rattle.act_model.specs.declared.terms.Terms.{Terms}
use Rattle.act_profile.specs.Contract.{observed_as}
use Rattle.act_profile.specs.Credit.{credit_day}
use Rattle.act_profile.specs.Events.{events_of, events_of_children, events_observed, events_scheduled}
use Rattle.act_profile.specs.Order.{in_order}
use Rattle.act_profile.specs.Plan.{plan_by, trade_plan}
use Rattle.act_profile.specs.Reads.{codes_of, is_in}
use Rattle.act_profile.specs.Run.{own_run, rows_from, run_from, run_over}
use Rattle.act_profile.specs.Steps.{currency_of, start_of, step_of}
use Rattle.act_profile.specs.Stops.{chosen_close, comes_before, is_until, last_reading_day, stop_at_credit, stop_day, stopped_at_credit, stopped_by, stopped_on, under_stop}
use Rattle.act_profile.specs.Trade.{plain_plan, trade_events}
use Rattle.act_causality.specs.Causality.{AgreeBefore, RunsAgreeBefore, is_event_before}
use Rattle.act_causality.proofs.Children.{ChildAgrees, ChildrenAgree, is_row_before}
use Rattle.act_causality.proofs.EventFacts.{all-events, all-in_order, all-true}
use Rattle.act_causality.proofs.Fold.{AgreeAt, Step, run_from-agree, taken_rows}
use Rattle.act_causality.proofs.KindEvents.{events-agree, events-cut}
use Rattle.act_causality.proofs.KindSteps.{HasCodes, stops_on_the_day}
use Rattle.act_causality.proofs.LegRows.{ArePaired, HasRows, currencies-agree, own-rows, row_events-have}
use Rattle.act_causality.proofs.Lists.{IsCut, Late, cut-filter}
use Rattle.act_causality.proofs.Observations.{same_observation}
use Rattle.act_causality.proofs.OwnDay.{own-day, until-day}
use Rattle.act_causality.proofs.Places.{same_currency, same_step}
use Rattle.act_causality.proofs.Plans.{ScalesWhereScaled, plan-scales}
use Rattle.act_causality.proofs.Scheduled.{CoveredIn}
use Rattle.act_causality.proofs.Settled.{IsPlainEvent, all-weaker, plain-observed, plain-trade}
use Rattle.act_causality.proofs.Stopped.{chosen-agree, under_stop-agree}

-- ---- what is known of each event

-- a scaling is one of a loan that is scaled, and the rows that the event names are there
pub record IsKnown (contract : Kind) (children : List Stream) (e : Event) : Type 0 where
  pub scales : ScalesWhereScaled contract e
  pub rows : HasRows contract children e

plain-known : (contract : Kind) (children : List Stream) (e : Event) → IsPlainEvent e → IsKnown contract children e
plain-known contract children e plain = record { scales = λ is. absurd (let other = plain.types.2 in cc); rows = own-rows contract children e plain.own }

scaled-known : (contract : Kind) (children : List Stream) → ((e : Event) → HasRows contract children e) → (e : Event) → ScalesWhereScaled contract e → IsKnown contract children e
scaled-known contract children has e scales = record { scales = scales; rows = has e }

trade-known : (common : Common) (contract : Kind) (children : List Stream) (plan : EventPlan) → trade_plan common ≡ Ok plan → AllByRecursion (IsKnown contract children) plan.events
trade-known common contract children plan planned =
    let is : plain_plan (in_order (trade_events common)) ≡ plan = cc in
    rw (← is) (all-in_order (IsKnown contract children) (trade_events common) (all-weaker IsPlainEvent (IsKnown contract children) (plain-known contract children) (trade_events common) (plain-trade common)))

scheduled-known : (common : Common) (contract : Kind) (children : List Stream) (plan : EventPlan) (entries : List Obs) → plan_by common contract ≡ Ok plan → AllByRecursion (IsKnown contract children) (events_scheduled common contract plan entries)
scheduled-known common (kind.SWAPS swaps) children plan entries planned = trade-known common (kind.SWAPS swaps) children plan planned
scheduled-known common (kind.CAPFL capfl) children plan entries planned = trade-known common (kind.CAPFL capfl) children plan planned
scheduled-known common (kind.OPTNS optns) children plan entries planned = all-true (IsKnown (kind.OPTNS optns) children) (λ e. record { scales = λ is. tt; rows = tt }) _
scheduled-known common (kind.CEG ceg) children plan entries planned = all-true (IsKnown (kind.CEG ceg) children) (λ e. record { scales = λ is. tt; rows = tt }) _
scheduled-known common (kind.CEC cec) children plan entries planned = all-true (IsKnown (kind.CEC cec) children) (λ e. record { scales = λ is. tt; rows = tt }) _
scheduled-known common contract children plan entries planned =
    all-weaker (ScalesWhereScaled contract) (IsKnown contract children) (scaled-known contract children (λ e. tt)) plan.events (plan-scales common contract plan planned)

rows-known : (common : Common) (contract : Kind) (children : List Stream) → ArePaired common contract children → AllByRecursion (IsKnown contract children) (events_of_children common contract children)
rows-known common (kind.SWAPS swaps) children pairs =
    all-weaker (HasRows (kind.SWAPS swaps) children) (IsKnown (kind.SWAPS swaps) children) (λ e has. record { scales = λ is. tt; rows = has }) _ (row_events-have common (kind.SWAPS swaps) children pairs)
rows-known common (kind.CAPFL capfl) children pairs =
    all-weaker (HasRows (kind.CAPFL capfl) children) (IsKnown (kind.CAPFL capfl) children) (λ e has. record { scales = λ is. tt; rows = has }) _ (row_events-have common (kind.CAPFL capfl) children pairs)
rows-known common contract children pairs = tt

pub events-known : (terms : Terms) (plan : EventPlan) (entries : List Obs) (children : List Stream) → plan_by terms.common terms.kind ≡ Ok plan → ArePaired terms.common terms.kind children →
    AllByRecursion (IsKnown terms.kind children) (events_of terms plan entries children)
events-known terms plan entries children planned pairs =
    all-events (IsKnown terms.kind children) terms plan entries children (scheduled-known terms.common terms.kind children plan entries planned)
    (all-weaker IsPlainEvent (IsKnown terms.kind children) (plain-known terms.kind children) (events_observed terms entries) (plain-observed terms entries))
    (rows-known terms.common terms.kind children pairs)

known-scales : (contract : Kind) (children : List Stream) (e : Event) → IsKnown contract children e → ScalesWhereScaled contract e
known-scales contract children e known = known.scales

rows-scale : (common : Common) (contract : Kind) (children : List Stream) → AllByRecursion (ScalesWhereScaled contract) (events_of_children common contract children)
rows-scale common (kind.SWAPS swaps) children = all-true (ScalesWhereScaled (kind.SWAPS swaps)) (λ e is. tt) _
rows-scale common (kind.CAPFL capfl) children = all-true (ScalesWhereScaled (kind.CAPFL capfl)) (λ e is. tt) _
rows-scale common contract children = tt

-- of scalings it is known over any children
pub events-scale : (terms : Terms) (plan : EventPlan) (entries : List Obs) (children : List Stream) → plan_by terms.common terms.kind ≡ Ok plan → AllByRecursion (ScalesWhereScaled terms.kind) (events_of terms plan entries children)
events-scale terms plan entries children planned =
    all-events (ScalesWhereScaled terms.kind) terms plan entries children
    (all-weaker (IsKnown terms.kind children) (ScalesWhereScaled terms.kind) (known-scales terms.kind children) _ (scheduled-known terms.common terms.kind children plan entries planned))
    (all-weaker IsPlainEvent (ScalesWhereScaled terms.kind) (λ e plain. known-scales terms.kind children e (plain-known terms.kind children e plain)) (events_observed terms entries) (plain-observed terms entries))
    (rows-scale terms.common terms.kind children)

-- ---- rows are cut at the day

taken-late : (day : ℤ) (event : Event) (currency : ℕ) (rest : State → Stream) (taken : Result (ℤ × State) Stop) → is_event_before day event ≡ false → ((s : State) → Late (is_row_before day) (rest s).rows) →
    Late (is_row_before day) (taken_rows event currency rest taken).rows
taken-late day event currency rest (Ok taken) late later = (late, later taken.1)
taken-late day event currency rest (Err stop) late later = tt

rows-late : (day : ℤ) (step : Step) (currency : Event → ℕ) (s : State) (events : List Event) → Late (is_event_before day) events → Late (is_row_before day) (rows_from step currency s events).rows
unfolding rows_from
rows-late day step currency s [] late = tt
rows-late day step currency s (event ∷ events) late =
    taken-late day event (currency event) (λ next. rows_from step currency next events) (step s event) late.0 (λ next. rows-late day step currency next events late.1)

taken-cut : (day : ℤ) (event : Event) (currency : ℕ) (rest : State → Stream) (taken : Result (ℤ × State) Stop) → ((s : State) → is_event_before day event ≡ false → Late (is_row_before day) (rest s).rows) →
    ((s : State) → IsCut (is_row_before day) (rest s).rows) → IsCut (is_row_before day) (taken_rows event currency rest taken).rows
taken-cut day event currency rest (Ok taken) later cut = ((λ late. later taken.1 late), cut taken.1)
taken-cut day event currency rest (Err stop) later cut = tt

rows-cut : (day : ℤ) (step : Step) (currency : Event → ℕ) (s : State) (events : List Event) → IsCut (is_event_before day) events → IsCut (is_row_before day) (rows_from step currency s events).rows
unfolding rows_from
rows-cut day step currency s [] cut = tt
rows-cut day step currency s (event ∷ events) cut =
    taken-cut day event (currency event) (λ next. rows_from step currency next events) (step s event)
    (λ next late. rows-late day step currency next events (cut.0 late)) (λ next. rows-cut day step currency next events cut.1)

from-cut : (day : ℤ) (step : Step) (currency : Event → ℕ) (events : List Event) (start : Result State Stop) → IsCut (is_event_before day) events → IsCut (is_row_before day) (run_from (rows_from step currency) events start).rows
from-cut day step currency events (Ok s) cut = rows-cut day step currency s events cut
from-cut day step currency events (Err stop) cut = tt

own_run-cut : (day : ℤ) (terms : Terms) (plan : EventPlan) (entries : List Obs) (children : List Stream) → IsCut (is_row_before day) (own_run terms plan entries children).rows
unfolding own_run
own_run-cut day terms plan entries children =
    from-cut day (step_of terms plan entries children) (currency_of terms children) (events_of terms plan entries children) (start_of terms plan) (events-cut day terms plan entries children)

stopped-cut : (day t : ℤ) (stop : Close) (run : Stream) → IsCut (is_row_before day) run.rows → IsCut (is_row_before day) (stopped_on t stop run).rows
stopped-cut day t stop run cut =
    elim (cases_Bool (comes_before (stop_day run.close) (Some t))) [
      | inl own ↦ rw own cut
      | inr by_stop ↦ rw by_stop (cut-filter (is_row_before day) (λ (row : Row). int_lt row.day t) run.rows cut)
    ]

by-cut : (day : ℤ) (last : Option ℤ) (stop : Close) (at : Option ℤ) (run : Stream) → IsCut (is_row_before day) run.rows → IsCut (is_row_before day) (stopped_by last stop at run).rows
by-cut day last stop None run cut = cut
by-cut day last stop (Some t) run cut =
    elim (cases_Bool (is_until last t)) [
      | inl until ↦ rw until (stopped-cut day t stop run cut)
      | inr past ↦ rw past cut
    ]

credit-cut : (day : ℤ) (credit : Option ℤ) (stop : Close) (at : Option ℤ) (run : Stream) → IsCut (is_row_before day) run.rows → IsCut (is_row_before day) (stopped_at_credit credit stop at run).rows
credit-cut day None stop at run cut = cut
credit-cut day (Some credit) stop None run cut = cut
credit-cut day (Some credit) stop (Some t) run cut =
    elim (cases_Bool (int_le t credit)) [
      | inl until ↦ rw until (stopped-cut day credit (stop_at_credit credit stop) run cut)
      | inr past ↦ rw past cut
    ]

under_stop-cut : (day : ℤ) (common : Common) (contract : Kind) (entries : List Obs) (stop : Close) (run : Stream) → IsCut (is_row_before day) run.rows → IsCut (is_row_before day) (under_stop common contract entries stop run).rows
under_stop-cut day common (kind.SWAPS swaps) entries stop run cut = by-cut day (last_reading_day common (kind.SWAPS swaps)) stop (stop_day stop) run cut
under_stop-cut day common (kind.CAPFL capfl) entries stop run cut = by-cut day (last_reading_day common (kind.CAPFL capfl)) stop (stop_day stop) run cut
under_stop-cut day common (kind.CEG ceg) entries stop run cut = credit-cut day (credit_day entries common ceg) stop (stop_day stop) run cut
under_stop-cut day common (kind.CEC cec) entries stop run cut = credit-cut day (credit_day entries common cec.guarantee) stop (stop_day stop) run cut
under_stop-cut day common contract entries stop run cut = cut

run_over-cut : (day : ℤ) (terms : Terms) (plan : EventPlan) (entries : List Obs) (children : List Stream) → IsCut (is_row_before day) (run_over terms plan entries children).rows
unfolding run_over
run_over-cut day terms plan entries children =
    under_stop-cut day terms.common terms.kind entries (chosen_close children) (own_run terms plan entries children) (own_run-cut day terms plan entries children)

-- ---- runs agree

module _ (day : ℤ) (codes contracts : List ℕ) (one other : List Obs) (agree : AgreeBefore day codes contracts one other) (last : int_lt last_day day ≡ false) where
  module _ (terms : Terms) (plan : EventPlan) (children others : List Stream) (kids : ChildrenAgree day children others) (has : HasCodes codes (codes_of terms)) where
    -- the step of an event dated before the day is the same
    pub step-agree : (s : State) (event : Event) → is_event_before day event ≡ true → IsKnown terms.kind children event → step_of terms plan one children s event ≡ step_of terms plan other others s event
    step-agree s event early known =
        own-day terms plan event known.scales one other children (λ code within. same_observation day event.day codes contracts code (has code within) early one other agree) s
        ∙ until-day terms plan other children event known.scales known.rows day others early kids s

    steps-agree : AgreeAt day (step_of terms plan one children) (step_of terms plan other others) (currency_of terms children) (currency_of terms others) (IsKnown terms.kind children) (λ e. Unit {0})
    steps-agree = record {
      step = λ s event same early is known none. step-agree s event early known ∙ same_step terms plan other others s event same is;
      paid_in = λ event same early is known none. currencies-agree day children others kids terms event early known.rows ∙ same_currency terms others event same is;
      stops = stops_on_the_day terms plan one children;
      stops2 = stops_on_the_day terms plan other others;
    }

    module _ (planned : plan_by terms.common terms.kind ≡ Ok plan) (within : is_in contracts (observed_as terms.common) ≡ true) (covered : CoveredIn contracts terms.kind)
        (pairs : ArePaired terms.common terms.kind children) (pairs2 : ArePaired terms.common terms.kind others) where
      own_run-agree : RunsAgreeBefore day (own_run terms plan one children) (own_run terms plan other others)
      unfolding own_run
      own_run-agree =
          run_from-agree day (step_of terms plan one children) (step_of terms plan other others) (currency_of terms children) (currency_of terms others) (IsKnown terms.kind children) (λ e. Unit {0}) steps-agree
          (start_of terms plan) (events_of terms plan one children) (events_of terms plan other others)
          (events-agree day codes contracts one other agree last terms plan children others planned within covered kids pairs pairs2)
          (events-cut day terms plan one children) (events-cut day terms plan other others)
          (events-known terms plan one children planned pairs) (all-true (λ e. Unit {0}) (λ e. tt) (events_of terms plan other others))

      run_over-runs : RunsAgreeBefore day (run_over terms plan one children) (run_over terms plan other others)
      unfolding run_over
      run_over-runs =
          under_stop-agree day codes contracts one other agree terms.common terms.kind (chosen_close children) (chosen_close others) (own_run terms plan one children) (own_run terms plan other others)
          covered (chosen-agree day children others kids) own_run-agree

      -- the run of a contract agrees before the day, over children's runs that do
      pub run_over-agree : ChildAgrees day (run_over terms plan one children) (run_over terms plan other others)
      run_over-agree = record { runs = run_over-runs; cut = run_over-cut day terms plan one children; cut2 = run_over-cut day terms plan other others }
