-- A run that its children's runs stop: what is computed of it is what is left of the whole.
use Rattle.std.proofs.Common.{◌≡◌, ℕ, suc, ◌+◌, Bool, true, false, if◌then◌else◌, ℤ, int_le, int_lt, ◌≤ℤ◌, List, [], ◌∷◌, take, Option, Some, None, Result, Ok, Err, IfErr, inl, inr, refl, sym, ap, subst, ◌∙◌, arith}
use Rattle.std.specs.List.{filter, prefix_len}
use Rattle.std.specs.Option.{ok_or}
use Rattle.std.proofs.lemmas.Bool.{cases_Bool}
use Rattle.std.proofs.lemmas.Int.{ints}
use Rattle.act_model.specs.Observed.{observation}
use Rattle.act_model.specs.Run.{EventPlan, Stream}
use Rattle.act_model.specs.declared.event.Event.{Event}
use Rattle.act_model.specs.declared.event.EventType.{EventType}
use Rattle.act_model.specs.declared.event.EventType.TheVariants.{IED, XD}
use Rattle.act_model.specs.declared.observed.Obs.{Obs}
use Rattle.act_model.specs.declared.run.Close.{Close}
use Rattle.act_model.specs.declared.run.Close.TheVariants.{End}
use Rattle.act_model.specs.declared.run.Row.{Row}
use Rattle.act_model.specs.declared.run.Stop.{Stop}
use Rattle.act_model.specs.declared.run.Stop.TheVariants.{Missing, Overflow}
use Rattle.act_model.specs.declared.state.State.{State}
use Rattle.act_model.specs.declared.terms.Common.{Common}
use Rattle.act_model.specs.declared.terms.Kind.{Kind}
use Rattle.act_model.specs.declared.terms.Kind.TheVariants as kind
use Rattle.act_model.specs.declared.terms.Terms.{Terms}
use Rattle.act_profile.specs.Credit.{market_codes, reading_all}
use Rattle.act_profile.specs.Events.{events_of}
use Rattle.act_profile.specs.Order.{is_own}
use Rattle.act_profile.specs.Run.{close_of, own_run, row_of, rows_from, run_from, run_over, stopped_at_once, with_row}
use Rattle.act_profile.specs.Step.{change_code, factor_code, payoff_code, reading, unpaid, with_value}
use Rattle.act_profile.specs.Steps.{currency_of, factor_for, guarantee_step_by, is_unpaid, line_by, start_of, state_by, step_by_line, step_of}
use Rattle.act_profile.specs.Stops.{chosen_close, comes_before, is_until, stop_day, stopped_at_credit, stopped_by, stopped_on, under_stop}
use Rattle.act_run.specs.Limits.{before_limit, closed_by, closed_so, limit_at_credit, limit_of, limit_until, limited}
use Rattle.act_run.specs.declared.limit.Limit.{Limit}
use Rattle.act_profile.specs.DayOrder.{AreInDayOrder}
use Rattle.act_run.proofs.DayOrder.{AreFrom, Ascend, RowsFrom, ascend-take, events_ascend, in_day_order, none_in_day_order, rows_are_from}
use Rattle.act_run.proofs.TakenRows.{Step, taken_rows}

-- ---- a step stops on its event's day

abbrev StopsOn : {A : Type 0} → ℤ → Result A Stop → Type 0
StopsOn day result = IfErr result (λ stop. stop_day (close_of stop) ≡ Some day)

value_stops : {A : Type 0} (code : ℕ) (day : ℤ) (found : Option ℤ) (follows : ℤ → Result A Stop) → ((v : ℤ) → StopsOn day (follows v)) → StopsOn day (with_value code day found follows)
value_stops code day None follows on = refl
value_stops code day (Some v) follows on = on v

reading_stops : {A : Type 0} (entries : List Obs) (day : ℤ) (code : Option ℕ) (follows : Option ℤ → Result A Stop) → ((v : Option ℤ) → StopsOn day (follows v)) → StopsOn day (reading entries day code follows)
reading_stops entries day None follows on = on None
reading_stops entries day (Some code) follows on = value_stops code day (observation entries code day) (λ v. follows (Some v)) (λ v. on (Some v))

all_stops : {A : Type 0} (entries : List Obs) (day : ℤ) (codes : List ℕ) (follows : List ℤ → Result A Stop) → ((vs : List ℤ) → StopsOn day (follows vs)) → StopsOn day (reading_all entries day codes follows)
unfolding reading_all
all_stops entries day [] follows on = on []
all_stops entries day (code ∷ codes) follows on =
    value_stops code day (observation entries code day) (λ v. reading_all entries day codes (λ vs. follows (v ∷ vs))) (λ v. all_stops entries day codes (λ vs. follows (v ∷ vs)) (λ vs. on (v ∷ vs)))

overflow_stops : {A : Type 0} (day : ℤ) (type : EventType) (found : Option A) → StopsOn day (ok_or found (Overflow day type))
overflow_stops day type (Some x) = tt
overflow_stops day type None = refl

line_stops : (terms : Terms) (plan : EventPlan) (entries : List Obs) (children : List Stream) (s : State) (event : Event) → StopsOn event.day (step_by_line terms plan entries children s event)
line_stops terms plan entries children s event =
    let line = unpaid (is_unpaid terms plan event) (line_by terms.common terms.kind plan children event) in
    reading_stops entries event.day (factor_code (factor_for terms (is_own event.source)) line.payoff) _ (λ x.
    reading_stops entries event.day (payoff_code line.payoff) _ (λ value.
    reading_stops entries event.day (change_code line.change) _ (λ other. overflow_stops event.day event.kind _)))

guarantee_stops : (type : EventType) (terms : Terms) (plan : EventPlan) (entries : List Obs) (children : List Stream) (s : State) (event : Event) (contract : Kind)
    → StopsOn event.day (guarantee_step_by type terms plan entries children s event contract)
guarantee_stops XD terms plan entries children s event (kind.CEG ceg) = all_stops entries event.day (market_codes ceg) _ (λ values. overflow_stops event.day XD _)
guarantee_stops XD terms plan entries children s event (kind.CEC cec) =
    all_stops entries event.day (market_codes cec.guarantee) _ (λ values. all_stops entries event.day cec.covering _ (λ worth. overflow_stops event.day XD _))
guarantee_stops XD terms plan entries children s event other = line_stops terms plan entries children s event
guarantee_stops type terms plan entries children s event contract = line_stops terms plan entries children s event

pub step_stops : (terms : Terms) (plan : EventPlan) (entries : List Obs) (children : List Stream) (s : State) (event : Event) → StopsOn event.day (step_of terms plan entries children s event)
unfolding step_of
step_stops terms plan entries children s event = guarantee_stops event.kind terms plan entries children s event terms.kind

-- ---- rows from a day on, and a run that is stopped on it

module _ (step : Step) (currency : Event → ℕ) (stops : (s : State) (event : Event) → StopsOn event.day (step s event)) (day : ℤ) (close : Close) where
  not_before : (other : ℤ) → day ≤ℤ other → int_lt other day ≡ false
  not_before other from = grind (arith, ints)

  none_before : (rows : List Row) → RowsFrom day rows → filter (λ (row : Row). int_lt row.day day) rows ≡ []
  none_before [] from = refl
  none_before (row ∷ rows) from = let late = not_before row.day from.0 in rw late (none_before rows from.1)

  late_stop : (event : ℤ) (own : Option ℤ) → own ≡ Some event → day ≤ℤ event → comes_before own (Some day) ≡ false
  late_stop event own is from = rw is (not_before event from)

  taken_late : (event : Event) (rest : State → Stream) (taken : Result (ℤ × State) Stop) → StopsOn event.day taken → day ≤ℤ event.day → ((s : State) → comes_before (stop_day (rest s).close) (Some day) ≡ false)
      → comes_before (stop_day (taken_rows event (currency event) rest taken).close) (Some day) ≡ false
  taken_late event rest (Ok taken) on from late = late taken.1
  taken_late event rest (Err stop) on from late = late_stop event.day (stop_day (close_of stop)) on from

  closes_late : (s : State) (events : List Event) → AreFrom day events → comes_before (stop_day (rows_from step currency s events).close) (Some day) ≡ false
  unfolding rows_from
  closes_late s [] from = refl
  closes_late s (event ∷ events) from = taken_late event (λ next. rows_from step currency next events) (step s event) (stops s event) from.0 (λ next. closes_late next events from.1)

  -- nothing is left of a run from that day on
  all_late : (s : State) (events : List Event) → AreFrom day events → stopped_on day close (rows_from step currency s events) ≡ record { rows = []; close = close }
  all_late s events from =
      let late = closes_late s events from in
      rw late (ap (λ (rows : List Row). record { rows = rows; close = close }) (none_before (rows_from step currency s events).rows (rows_are_from step currency day s events from)))

  -- a row before that day is left
  early_by : (row : Row) (run : Stream) (before : Bool) → int_lt row.day day ≡ true →
      (if before then with_row row run else record { rows = filter (λ (r : Row). int_lt r.day day) (row ∷ run.rows); close = close })
      ≡ with_row row (if before then run else record { rows = filter (λ (r : Row). int_lt r.day day) run.rows; close = close })
  early_by row run true is = refl
  early_by row run false is = rw is refl

  early_row : (row : Row) (run : Stream) → int_lt row.day day ≡ true → stopped_on day close (with_row row run) ≡ with_row row (stopped_on day close run)
  early_row row run is = early_by row run (comes_before (stop_day run.close) (Some day)) is

  closed_behind : (row : Row) (run : Stream) (own : Close) → run.close ≡ own → closed_so close (with_row row run) own ≡ with_row row (closed_so close run own)
  closed_behind row run End is = refl
  closed_behind row run own is = refl

  closed_stop : (stop : Stop) (run : Stream) → closed_so close run (close_of stop) ≡ run
  closed_stop (Missing code on) run = refl
  closed_stop (Overflow on type) run = refl

  early_stop : (event : ℤ) (stop : Stop) → stop_day (close_of stop) ≡ Some event → int_lt event day ≡ true → stopped_on day close (stopped_at_once stop) ≡ stopped_at_once stop
  early_stop event stop is before = rw (is, before) refl

  taken_early : (event : Event) (rest other : State → Stream) (taken : Result (ℤ × State) Stop) → StopsOn event.day taken → int_lt event.day day ≡ true
      → ((s : State) → stopped_on day close (rest s) ≡ closed_so close (other s) (other s).close)
      → stopped_on day close (taken_rows event (currency event) rest taken)
      ≡ closed_so close (taken_rows event (currency event) other taken) (taken_rows event (currency event) other taken).close
  taken_early event rest other (Ok taken) on before same =
      let row = row_of event (currency event) taken in
      early_row row (rest taken.1) before ∙ ap (with_row row) (same taken.1) ∙ sym (closed_behind row (other taken.1) (other taken.1).close refl)
  taken_early event rest other (Err stop) on before same = early_stop event.day stop on before ∙ sym (closed_stop stop (stopped_at_once stop))

  from_earlier : (event : ℤ) (events : List Event) → day ≤ℤ event → AreFrom event events → AreFrom day events
  from_earlier event [] here from = tt
  from_earlier event (later ∷ events) here from = (omega (arith, ints), from_earlier event events here from.1)

  one_more : (n : ℕ) → 1 + n ≡ suc n
  one_more n = omega arith

  -- what is left of a run that is stopped on that day is the run of the events before it
  left_rows : (s : State) (events : List Event) → Ascend events → stopped_on day close (rows_from step currency s events)
      ≡ closed_so close (rows_from step currency s (take (prefix_len (λ (event : Event). int_lt event.day day) events) events)) (rows_from step currency s (take (prefix_len (λ (event : Event). int_lt event.day day) events) events)).close
  unfolding rows_from
  left_rows s [] up = refl
  left_rows s (event ∷ events) up =
      elim (cases_Bool (int_lt event.day day)) [
        | inl before ↦
            rw (before, one_more) (taken_early event (λ next. rows_from step currency next events) (λ next. rows_from step currency next (take (prefix_len (λ (e : Event). int_lt e.day day) events) events)) (step s event) (stops s event) before (λ next. left_rows next events up.1))
        | inr late ↦
            let here : day ≤ℤ event.day = grind (arith, ints) in
            all_late s (event ∷ events) (here, from_earlier event.day events here up.0) ∙ rw late refl
      ]

  pub left_by : (s : State) (events : List Event) → Ascend events → closed_by (Some (record { day = day; close = close })) (rows_from step currency s (before_limit (Some (record { day = day; close = close })) events))
      ≡ limited (Some (record { day = day; close = close })) (rows_from step currency s events)
  left_by s events up = sym (left_rows s events up)

-- ---- where a contract is stopped

until_same : (run : Stream) (day : ℤ) (stop : Close) (until : Bool) → (if until then stopped_on day stop run else run) ≡ limited (if until then Some (record { day = day; close = stop }) else None) run
until_same run day stop true = refl
until_same run day stop false = refl

stopped_is : (last : Option ℤ) (stop : Close) (day : Option ℤ) (run : Stream) → stopped_by last stop day run ≡ limited (limit_until last stop day) run
stopped_is last stop None run = refl
stopped_is last stop (Some day) run = until_same run day stop (is_until last day)

credit_is : (credit : Option ℤ) (stop : Close) (day : Option ℤ) (run : Stream) → stopped_at_credit credit stop day run ≡ limited (limit_at_credit credit stop day) run
credit_is None stop day run = refl
credit_is (Some credit) stop None run = refl
credit_is (Some credit) stop (Some day) run = until_same run credit _ (int_le day credit)

under_is : (common : Common) (contract : Kind) (entries : List Obs) (stop : Close) (run : Stream) → under_stop common contract entries stop run ≡ limited (limit_of common contract entries stop) run
under_is common (kind.SWAPS swaps) entries stop run = stopped_is _ stop (stop_day stop) run
under_is common (kind.CAPFL capfl) entries stop run = stopped_is _ stop (stop_day stop) run
under_is common (kind.CEG ceg) entries stop run = credit_is _ stop (stop_day stop) run
under_is common (kind.CEC cec) entries stop run = credit_is _ stop (stop_day stop) run
under_is common other entries stop run = refl

-- ---- the run

abbrev pub rows_over : Terms → EventPlan → List Obs → List Stream → State → List Event → Stream
rows_over terms plan entries children = rows_from (step_of terms plan entries children) (currency_of terms children)

left_of : (terms : Terms) (plan : EventPlan) (entries : List Obs) (children : List Stream) (first : State) (limit : Option Limit) (events : List Event) → Ascend events
    → closed_by limit (rows_over terms plan entries children first (before_limit limit events)) ≡ limited limit (rows_over terms plan entries children first events)
left_of terms plan entries children first None events up = refl
left_of terms plan entries children first (Some limit) events up =
    left_by (step_of terms plan entries children) (currency_of terms children) (step_stops terms plan entries children) limit.day limit.close first events up

pub run_by_rows : (terms : Terms) (plan : EventPlan) (entries : List Obs) (children : List Stream) (first : State) (limit : Option Limit) (events : List Event) → start_of terms plan ≡ Ok first
    → limit ≡ limit_of terms.common terms.kind entries (chosen_close children) → events ≡ events_of terms plan entries children
    → closed_by limit (rows_over terms plan entries children first (before_limit limit events)) ≡ run_over terms plan entries children
unfolding run_over own_run
run_by_rows terms plan entries children first limit events starts is are =
    let whole = run_from (rows_over terms plan entries children) (events_of terms plan entries children) (start_of terms plan) in
    let own : rows_over terms plan entries children first events ≡ whole =
    ap (rows_over terms plan entries children first) are ∙ ap (run_from (rows_over terms plan entries children) (events_of terms plan entries children)) (sym starts) in
    left_of terms plan entries children first limit events (subst Ascend (sym are) (events_ascend terms plan entries children))
    ∙ ap (limited limit) own ∙ ap (λ (l : Option Limit). limited l whole) is ∙ sym (under_is terms.common terms.kind entries (chosen_close children) whole)

-- a contract without a starting state isn't stopped by others
not_parent : (common : Common) (contract : Kind) (plan : EventPlan) (entries : List Obs) (close : Close) (own stop : Stop) (run : Stream) → ok_or (state_by common contract plan) own ≡ Err stop
    → under_stop common contract entries close run ≡ run
not_parent common (kind.SWAPS swaps) plan entries close own stop run is = absurd (cc)
not_parent common (kind.CAPFL capfl) plan entries close own stop run is = absurd (cc)
not_parent common (kind.CEG ceg) plan entries close own stop run is = absurd (cc)
not_parent common (kind.CEC cec) plan entries close own stop run is = absurd (cc)
not_parent common other plan entries close own stop run is = refl

pub run_stopped : (terms : Terms) (plan : EventPlan) (entries : List Obs) (children : List Stream) (stop : Stop) → start_of terms plan ≡ Err stop → stopped_at_once stop ≡ run_over terms plan entries children
unfolding run_over own_run start_of
run_stopped terms plan entries children stop stops =
    ap (run_from (rows_over terms plan entries children) (events_of terms plan entries children)) (sym stops)
    ∙ sym (not_parent terms.common terms.kind plan entries (chosen_close children) (Overflow terms.common.status_date IED) stop _ stops)

-- ---- the days of what is left

closed_rows : (close : Close) (run : Stream) (own : Close) → (closed_so close run own).rows ≡ run.rows
closed_rows close run End = refl
closed_rows close run own = refl

pub closed_by_rows : (limit : Option Limit) (run : Stream) → (closed_by limit run).rows ≡ run.rows
closed_by_rows None run = refl
closed_by_rows (Some limit) run = closed_rows limit.close run run.close

ascend_before : (limit : Option Limit) (events : List Event) → Ascend events → Ascend (before_limit limit events)
ascend_before None events up = up
ascend_before (Some limit) events up = ascend-take (prefix_len (λ (event : Event). int_lt event.day limit.day) events) events up

in_order_left : (terms : Terms) (plan : EventPlan) (entries : List Obs) (children : List Stream) (first : State) (limit : Option Limit) (events : List Event) → events ≡ events_of terms plan entries children
    → AreInDayOrder (closed_by limit (rows_over terms plan entries children first (before_limit limit events))).rows
in_order_left terms plan entries children first limit events are =
    let run = rows_over terms plan entries children first (before_limit limit events) in
    subst AreInDayOrder (sym (closed_by_rows limit run))
    (in_day_order (step_of terms plan entries children) (currency_of terms children) first (before_limit limit events) (ascend_before limit events (subst Ascend (sym are) (events_ascend terms plan entries children))))

order_by : (terms : Terms) (plan : EventPlan) (entries : List Obs) (children : List Stream) (started : Result State Stop) → start_of terms plan ≡ started → AreInDayOrder (run_over terms plan entries children).rows
order_by terms plan entries children (Ok first) starts =
    let limit = limit_of terms.common terms.kind entries (chosen_close children) in
    let events = events_of terms plan entries children in
    subst (λ (run : Stream). AreInDayOrder run.rows) (run_by_rows terms plan entries children first limit events starts refl refl) (in_order_left terms plan entries children first limit events refl)
order_by terms plan entries children (Err stop) stops = subst (λ (run : Stream). AreInDayOrder run.rows) (run_stopped terms plan entries children stop stops) none_in_day_order

-- the rows of a run stand by their days
pub run_in_day_order : (terms : Terms) (plan : EventPlan) (entries : List Obs) (children : List Stream) → AreInDayOrder (run_over terms plan entries children).rows
run_in_day_order terms plan entries children = order_by terms plan entries children (start_of terms plan) refl
