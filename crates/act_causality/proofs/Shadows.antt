-- A contract and its shadow have rows of the same days and types, as far as both go.
use Rattle.std.proofs.Common.{◌≡◌, ◌+◌, ◌&&◌, ℕ, zero, suc, length, Bool, true, false, ℤ, List, [], ◌∷◌, ◌++◌, map, Option, Some, None, Result, Ok, Err, inl, inr, refl, sym, subst, ◌∙◌, ap}
use Rattle.std.specs.List.{enumerate_from, filter, flat_map, slice_get}
use Rattle.std.proofs.lemmas.Bool.{cases_Bool}
use Rattle.std.proofs.lemmas.List.Elements.{filter_agree}
use Rattle.act_model.specs.Observed.{observed_events}
use Rattle.act_model.specs.Run.{EventPlan, Stream}
use Rattle.act_model.specs.declared.event.Event.{Event}
use Rattle.act_model.specs.declared.event.EventType.TheVariants as type
use Rattle.act_model.specs.declared.observed.Obs.{Obs}
use Rattle.act_model.specs.declared.run.PlanFault.{PlanFault}
use Rattle.act_model.specs.declared.run.Row.{Row}
use Rattle.act_model.specs.declared.run.Stop.{Stop}
use Rattle.act_model.specs.declared.state.State.{State}
use Rattle.act_model.specs.declared.terms.Capfl.{Capfl}
use Rattle.act_model.specs.declared.terms.Common.{Common}
use Rattle.act_model.specs.declared.terms.Kind.{Kind}
use Rattle.act_model.specs.declared.terms.Kind.TheVariants as kind
use Rattle.act_model.specs.declared.terms.Ann.{Ann}
use Rattle.act_model.specs.declared.terms.Lam.{Lam}
use Rattle.act_model.specs.declared.terms.Nam.{Nam}
use Rattle.act_model.specs.declared.terms.Pam.{Pam}
use Rattle.act_model.specs.declared.terms.Swppv.{Swppv}
use Rattle.act_model.specs.declared.terms.Terms.{Terms}
use Rattle.act_profile.specs.Contract.{observed_as}
use Rattle.act_profile.specs.Dates.{is_within, maturity_of_lam}
use Rattle.act_profile.specs.LoanPlan.{loan_dates, loan_plan, with_redemptions}
use Rattle.act_profile.specs.LoanTerms.{LoanTerms}
use Rattle.act_profile.specs.Swap.{plain_swap_dates, plain_swap_plan}
use Rattle.act_profile.specs.Trade.{plain_plan}
use Rattle.act_profile.specs.Events.{events_observed, events_of, events_of_entry}
use Rattle.act_profile.specs.Legs.{PlacedRow, limited_rows}
use Rattle.act_profile.specs.Order.{counting, counts, ends, in_order, is_type, up_to_end}
use Rattle.act_profile.specs.Outcomes.{map_ok}
use Rattle.act_profile.specs.Plan.{loan_terms_plan, plan_by, plan_of}
use Rattle.act_profile.specs.Planning.{Planned, events_by_type, planned_event, shifted_by}
use Rattle.act_profile.specs.Run.{Contracts, own_run, rows_from, run_from, run_over, run_to, run_where_given}
use Rattle.act_profile.specs.Steps.{currency_of, start_of, step_of}
use Rattle.act_causality.specs.Causality.{IsLinked, IsShadow, KnowsChildren, children_at, kind_within, loan_within, reset_within}
use Rattle.act_causality.proofs.Fold.{Step, taken_rows}
use Rattle.act_causality.proofs.LegRows.{ArePaired}
use Rattle.act_causality.proofs.Legs.{PairDays}
use Rattle.act_causality.proofs.Lines.{ann_terms, lam_terms, nam_terms, pam_terms}

-- ---- rows of the same events

-- rows have the same days and types as far as both lists go
abbrev pub Alike : List Row → List Row → Type 0
Alike [] ys = Unit {0}
Alike (x ∷ xs) [] = Unit {0}
Alike (x ∷ xs) (y ∷ ys) = (x.day ≡ y.day) × (x.kind ≡ y.kind) × Alike xs ys

alike-none : (xs : List Row) → Alike xs []
alike-none [] = tt
alike-none (x ∷ xs) = tt

taken-alike : (event : Event) (a b : ℕ) (rest rest2 : State → Stream) (one other : Result (ℤ × State) Stop) → ((s t : State) → Alike (rest s).rows (rest2 t).rows) →
    Alike (taken_rows event a rest one).rows (taken_rows event b rest2 other).rows
taken-alike event a b rest rest2 (Ok one) (Ok other) later = (refl, refl, later one.1 other.1)
taken-alike event a b rest rest2 (Ok one) (Err stop) later = tt
taken-alike event a b rest rest2 (Err stop) other later = tt

rows-alike : (one other : Step) (a b : Event → ℕ) (s t : State) (events : List Event) → Alike (rows_from one a s events).rows (rows_from other b t events).rows
unfolding rows_from
rows-alike one other a b s t [] = tt
rows-alike one other a b s t (event ∷ events) =
    taken-alike event (a event) (b event) (λ next. rows_from one a next events) (λ next. rows_from other b next events) (one s event) (other t event) (λ next after. rows-alike one other a b next after events)

from-alike : (one other : Step) (a b : Event → ℕ) (start start2 : Result State Stop) (events : List Event) → Alike (run_from (rows_from one a) events start).rows (run_from (rows_from other b) events start2).rows
from-alike one other a b (Ok s) (Ok t) events = rows-alike one other a b s t events
from-alike one other a b (Ok s) (Err stop) events = alike-none (rows_from one a s events).rows
from-alike one other a b (Err stop) start2 events = tt

own_run-alike : (terms own : Terms) (plan plan2 : EventPlan) (entries : List Obs) (children others : List Stream) → events_of terms plan entries children ≡ events_of own plan2 entries others →
    Alike (own_run terms plan entries children).rows (own_run own plan2 entries others).rows
unfolding own_run
own_run-alike terms own plan plan2 entries children others same =
    rw same (from-alike (step_of terms plan entries children) (step_of own plan2 entries others) (currency_of terms children) (currency_of own others) (start_of terms plan) (start_of own plan2) (events_of own plan2 entries others))

-- ---- limited rows

pair-none : (xs : List PlacedRow) → PairDays xs []
pair-none [] = tt
pair-none (x ∷ xs) = tt

abbrev is_limited : Common → Capfl → PlacedRow → Bool
is_limited common capfl row = is_type row.1.kind type.IP && is_within common.status_date capfl.maturity_date row.1.day

alike-pairs : (common : Common) (capfl : Capfl) (n m : ℕ) (xs ys : List Row) → Alike xs ys → PairDays (filter (is_limited common capfl) (enumerate_from n xs)) (filter (is_limited common capfl) (enumerate_from m ys))
alike-pairs common capfl n m [] ys alike = tt
alike-pairs common capfl n m (x ∷ xs) [] alike = pair-none (filter (is_limited common capfl) (enumerate_from n (x ∷ xs)))
alike-pairs common capfl n m (x ∷ xs) (y ∷ ys) alike =
    let same : is_limited common capfl (n, x) ≡ is_limited common capfl (m, y) = rw (alike.0) (rw (alike.1) refl) in
    elim (cases_Bool (is_limited common capfl (m, y))) [
      | inl is ↦ rw same (rw is (alike.0, alike-pairs common capfl (n + 1) (m + 1) xs ys alike.2))
      | inr fails ↦ rw same (rw fails (alike-pairs common capfl (n + 1) (m + 1) xs ys alike.2))
    ]

-- ---- plans by the same dates

module _ (one other : Common) (same : (shifts : Bool) (date : ℤ) → shifted_by one shifts date ≡ shifted_by other shifts date) where
  same_planned : (n : ℕ) (dates : List Planned) → map (planned_event one) (enumerate_from n dates) ≡ map (planned_event other) (enumerate_from n dates)
  same_planned n [] = refl
  same_planned n (p ∷ dates) = rw (same p.shifts p.date) (rw (same_planned (n + 1) dates) refl)

  same_types : (n : ℕ) (types : List (Option (List Planned))) → events_by_type one n types ≡ events_by_type other n types
  unfolding events_by_type
  same_types n [] = refl
  same_types n (None ∷ types) = refl
  same_types n (Some dates ∷ types) = rw (same_planned 0 dates) (rw (same_types (n + length dates) types) refl)

-- ---- the same events

-- two kinds end and count the same events, and make the same of observations
record ActAlike (one other : Kind) : Type 0 where
  pub ends_so : (e : Event) → ends one e ≡ ends other e
  pub counts_so : (status day : ℤ) → counts status one day ≡ counts status other day
  pub makes : (entry : ℕ × Obs) → events_of_entry one entry ≡ events_of_entry other entry

module _ (one other : Kind) (act : ActAlike one other) where
  same_up_to_end : (events : List Event) → up_to_end one events ≡ up_to_end other events
  unfolding up_to_end
  same_up_to_end [] = refl
  same_up_to_end (event ∷ events) = rw (act.ends_so event) (rw (same_up_to_end events) refl)

  same_counting : (status : ℤ) (events : List Event) → counting status one events ≡ counting status other events
  same_counting status events =
      filter_agree (λ (e : Event). counts status one e.day) (λ (e : Event). counts status other e.day) (λ e. act.counts_so status e.day) (up_to_end one events)
      ∙ ap (filter (λ (e : Event). counts status other e.day)) (same_up_to_end events)

  same_made : (entries : List (ℕ × Obs)) → flat_map (events_of_entry one) entries ≡ flat_map (events_of_entry other) entries
  same_made [] = refl
  same_made (entry ∷ entries) = ap (λ (events : List Event). events ++ flat_map (events_of_entry one) entries) (act.makes entry) ∙ ap (λ (events : List Event). events_of_entry other entry ++ events) (same_made entries)

act-pam : (cap floor : Option ℤ) (pam : Pam) → ActAlike (kind.PAM pam) (kind.PAM (record pam { loan = loan_within cap floor pam.loan }))
act-pam cap floor pam = record { ends_so = λ e. refl; counts_so = λ status day. refl; makes = λ entry. refl }

act-lam : (cap floor : Option ℤ) (lam : Lam) → ActAlike (kind.LAM lam) (kind.LAM (record lam { loan = loan_within cap floor lam.loan }))
act-lam cap floor lam = record { ends_so = λ e. refl; counts_so = λ status day. refl; makes = λ entry. refl }

act-nam : (cap floor : Option ℤ) (nam : Nam) → ActAlike (kind.NAM nam) (kind.NAM (record nam { loan = loan_within cap floor nam.loan }))
act-nam cap floor nam = record { ends_so = λ e. refl; counts_so = λ status day. refl; makes = λ entry. refl }

act-ann : (cap floor : Option ℤ) (ann : Ann) → ActAlike (kind.ANN ann) (kind.ANN (record ann { loan = loan_within cap floor ann.loan }))
act-ann cap floor ann = record { ends_so = λ e. refl; counts_so = λ status day. refl; makes = λ entry. refl }

act-swppv : (cap floor : Option ℤ) (swppv : Swppv) → ActAlike (kind.SWPPV swppv) (kind.SWPPV (record swppv { rate_reset = reset_within cap floor swppv.rate_reset }))
act-swppv cap floor swppv = record { ends_so = λ e. refl; counts_so = λ status day. refl; makes = λ entry. refl }

-- ---- the plans have the same events

same-loan : (l own : LoanTerms) (one other : Result (List Event) PlanFault) (plan plan2 : EventPlan) → one ≡ other → map_ok (λ events. with_redemptions l (in_order events)) one ≡ Ok plan →
    map_ok (λ events. with_redemptions own (in_order events)) other ≡ Ok plan2 → plan.events ≡ plan2.events
same-loan l own (Err fault) other plan plan2 same is is2 = absurd (cc)
same-loan l own (Ok events) (Err fault) plan plan2 same is is2 = absurd (cc)
same-loan l own (Ok events) (Ok others) plan plan2 same is is2 =
    let first : with_redemptions l (in_order events) ≡ plan = cc in
    let second : with_redemptions own (in_order others) ≡ plan2 = cc in
    let both : events ≡ others = cc in
    rw (← first) (rw (← second) (rw both refl))

loan-events : (l own : LoanTerms) (plan plan2 : EventPlan) → ((shifts : Bool) (date : ℤ) → shifted_by l.common shifts date ≡ shifted_by own.common shifts date) → loan_dates l ≡ loan_dates own →
    loan_plan l ≡ Ok plan → loan_plan own ≡ Ok plan2 → plan.events ≡ plan2.events
unfolding loan_plan
loan-events l own plan plan2 shifts dates is is2 =
    same-loan l own (events_by_type l.common 0 (loan_dates l)) (events_by_type own.common 0 (loan_dates own)) plan plan2
    (same_types l.common own.common shifts 0 (loan_dates l) ∙ ap (events_by_type own.common 0) dates) is is2

-- the same terms under another number, with the observed events of another
abbrev numbered : ℕ → Option ℕ → Common → Common
numbered number events common = record common { contract = number; underlying = events }

same_shifts : (number : ℕ) (events : Option ℕ) (common : Common) (shifts : Bool) (date : ℤ) → shifted_by common shifts date ≡ shifted_by (numbered number events common) shifts date
same_shifts number events common true date = refl
same_shifts number events common false date = refl

lam-events : (number : ℕ) (events : Option ℕ) (cap floor : Option ℤ) (common : Common) (lam : Lam) (maturity : Result ℤ PlanFault) (plan plan2 : EventPlan) →
    loan_terms_plan (Some (map_ok (λ (d : ℤ). lam_terms common lam d) maturity)) ≡ Ok plan →
    loan_terms_plan (Some (map_ok (λ (d : ℤ). lam_terms (numbered number events common) (record lam { loan = loan_within cap floor lam.loan }) d) maturity)) ≡ Ok plan2 → plan.events ≡ plan2.events
lam-events number events cap floor common lam (Err fault) plan plan2 is is2 = absurd (cc)
lam-events number events cap floor common lam (Ok d) plan plan2 is is2 =
    loan-events (lam_terms common lam d) (lam_terms (numbered number events common) (record lam { loan = loan_within cap floor lam.loan }) d) plan plan2 (same_shifts number events common) refl is is2

same-swap : (one other : Result (List Event) PlanFault) (plan plan2 : EventPlan) → one ≡ other → map_ok (λ events. plain_plan (in_order events)) one ≡ Ok plan → map_ok (λ events. plain_plan (in_order events)) other ≡ Ok plan2 → plan.events ≡ plan2.events
same-swap (Err fault) other plan plan2 same is is2 = absurd (cc)
same-swap (Ok events) (Err fault) plan plan2 same is is2 = absurd (cc)
same-swap (Ok events) (Ok others) plan plan2 same is is2 =
    let first : plain_plan (in_order events) ≡ plan = cc in
    let second : plain_plan (in_order others) ≡ plan2 = cc in
    let both : events ≡ others = cc in
    rw (← first) (rw (← second) (rw both refl))

swap-events : (one other : Common) (swap own : Swppv) (plan plan2 : EventPlan) → ((shifts : Bool) (date : ℤ) → shifted_by one shifts date ≡ shifted_by other shifts date) → plain_swap_dates one swap ≡ plain_swap_dates other own →
    plain_swap_plan one swap ≡ Ok plan → plain_swap_plan other own ≡ Ok plan2 → plan.events ≡ plan2.events
unfolding plain_swap_plan
swap-events one other swap own plan plan2 shifts dates is is2 =
    same-swap (events_by_type one 0 (plain_swap_dates one swap)) (events_by_type other 0 (plain_swap_dates other own)) plan plan2
    (same_types one other shifts 0 (plain_swap_dates one swap) ∙ ap (events_by_type other 0) dates) is is2

-- ---- the events are the same

abbrev of_kind : Common → Kind → Terms
of_kind common contract = record { common = common; kind = contract }

same_seen : (one other : Kind) → ActAlike one other → (a b : Common) (entries : List Obs) → observed_as a ≡ observed_as b → events_observed (of_kind a one) entries ≡ events_observed (of_kind b other) entries
unfolding events_observed
same_seen one other act a b entries same =
    same_made one other act (enumerate_from 0 (observed_events entries (observed_as a)))
    ∙ ap (λ (c : ℕ). flat_map (events_of_entry other) (enumerate_from 0 (observed_events entries c))) same

same_counted : (one other : Kind) → ActAlike one other → (a b : Common) (status : ℤ) (entries : List Obs) (planned planned2 : List Event) → observed_as a ≡ observed_as b → planned ≡ planned2 →
    counting status one (in_order (planned ++ events_observed (of_kind a one) entries ++ [])) ≡ counting status other (in_order (planned2 ++ events_observed (of_kind b other) entries ++ []))
same_counted one other act a b status entries planned planned2 same plans =
    same_counting one other act status (in_order (planned ++ events_observed (of_kind a one) entries ++ []))
    ∙ ap (λ (events : List Event). counting status other (in_order (events ++ events_observed (of_kind a one) entries ++ []))) plans
    ∙ ap (λ (events : List Event). counting status other (in_order (planned2 ++ events ++ []))) (same_seen one other act a b entries same)

module _ (number : ℕ) (events : Option ℕ) (cap floor : Option ℤ) (common : Common) (plan plan2 : EventPlan) (entries : List Obs) (children others : List Stream) (same : observed_as (numbered number events common) ≡ observed_as common) where
  pam-same : (pam : Pam) → plan_by common (kind.PAM pam) ≡ Ok plan → plan_by (numbered number events common) (kind.PAM (record pam { loan = loan_within cap floor pam.loan })) ≡ Ok plan2 →
      events_of (of_kind common (kind.PAM pam)) plan entries children ≡ events_of (of_kind (numbered number events common) (kind.PAM (record pam { loan = loan_within cap floor pam.loan }))) plan2 entries others
  unfolding events_of
  pam-same pam is is2 =
      same_counted (kind.PAM pam) (kind.PAM (record pam { loan = loan_within cap floor pam.loan })) (act-pam cap floor pam) common (numbered number events common) common.status_date entries plan.events plan2.events (sym same)
      (loan-events (pam_terms common pam) (pam_terms (numbered number events common) (record pam { loan = loan_within cap floor pam.loan })) plan plan2 (same_shifts number events common) refl is is2)

  lam-same : (lam : Lam) → plan_by common (kind.LAM lam) ≡ Ok plan → plan_by (numbered number events common) (kind.LAM (record lam { loan = loan_within cap floor lam.loan })) ≡ Ok plan2 →
      events_of (of_kind common (kind.LAM lam)) plan entries children ≡ events_of (of_kind (numbered number events common) (kind.LAM (record lam { loan = loan_within cap floor lam.loan }))) plan2 entries others
  unfolding events_of
  lam-same lam is is2 =
      same_counted (kind.LAM lam) (kind.LAM (record lam { loan = loan_within cap floor lam.loan })) (act-lam cap floor lam) common (numbered number events common) common.status_date entries plan.events plan2.events (sym same)
      (lam-events number events cap floor common lam (maturity_of_lam lam) plan plan2 is is2)

  nam-same : (nam : Nam) → plan_by common (kind.NAM nam) ≡ Ok plan → plan_by (numbered number events common) (kind.NAM (record nam { loan = loan_within cap floor nam.loan })) ≡ Ok plan2 →
      events_of (of_kind common (kind.NAM nam)) plan entries children ≡ events_of (of_kind (numbered number events common) (kind.NAM (record nam { loan = loan_within cap floor nam.loan }))) plan2 entries others
  unfolding events_of
  nam-same nam is is2 =
      same_counted (kind.NAM nam) (kind.NAM (record nam { loan = loan_within cap floor nam.loan })) (act-nam cap floor nam) common (numbered number events common) common.status_date entries plan.events plan2.events (sym same)
      (loan-events (nam_terms common nam) (nam_terms (numbered number events common) (record nam { loan = loan_within cap floor nam.loan })) plan plan2 (same_shifts number events common) refl is is2)

  ann-same : (ann : Ann) → plan_by common (kind.ANN ann) ≡ Ok plan → plan_by (numbered number events common) (kind.ANN (record ann { loan = loan_within cap floor ann.loan })) ≡ Ok plan2 →
      events_of (of_kind common (kind.ANN ann)) plan entries children ≡ events_of (of_kind (numbered number events common) (kind.ANN (record ann { loan = loan_within cap floor ann.loan }))) plan2 entries others
  unfolding events_of
  ann-same ann is is2 =
      same_counted (kind.ANN ann) (kind.ANN (record ann { loan = loan_within cap floor ann.loan })) (act-ann cap floor ann) common (numbered number events common) common.status_date entries plan.events plan2.events (sym same)
      (loan-events (ann_terms common ann) (ann_terms (numbered number events common) (record ann { loan = loan_within cap floor ann.loan })) plan plan2 (same_shifts number events common) refl is is2)

  swppv-same : (swppv : Swppv) → plan_by common (kind.SWPPV swppv) ≡ Ok plan → plan_by (numbered number events common) (kind.SWPPV (record swppv { rate_reset = reset_within cap floor swppv.rate_reset })) ≡ Ok plan2 →
      events_of (of_kind common (kind.SWPPV swppv)) plan entries children ≡ events_of (of_kind (numbered number events common) (kind.SWPPV (record swppv { rate_reset = reset_within cap floor swppv.rate_reset }))) plan2 entries others
  unfolding events_of
  swppv-same swppv is is2 =
      same_counted (kind.SWPPV swppv) (kind.SWPPV (record swppv { rate_reset = reset_within cap floor swppv.rate_reset })) (act-swppv cap floor swppv) common (numbered number events common) common.status_date entries plan.events plan2.events (sym same)
      (swap-events common (numbered number events common) swppv (record swppv { rate_reset = reset_within cap floor swppv.rate_reset }) plan plan2 (same_shifts number events common) refl is is2)

  -- a contract that has a shadow, and the shadow's terms, run over rows of the same days and types
  shadow-alike : (contract own : Kind) → kind_within cap floor contract ≡ Some own → plan_by common contract ≡ Ok plan → plan_by (numbered number events common) own ≡ Ok plan2 →
      Alike (run_over (of_kind common contract) plan entries children).rows (run_over (of_kind (numbered number events common) own) plan2 entries others).rows
  unfolding run_over
  shadow-alike (kind.PAM pam) own is planned planned2 =
      let same : kind.PAM (record pam { loan = loan_within cap floor pam.loan }) ≡ own = cc in
      subst (λ (it : Kind). plan_by (numbered number events common) it ≡ Ok plan2 → Alike (run_over (of_kind common (kind.PAM pam)) plan entries children).rows (run_over (of_kind (numbered number events common) it) plan2 entries others).rows) same
      (λ now. own_run-alike (of_kind common (kind.PAM pam)) (of_kind (numbered number events common) (kind.PAM (record pam { loan = loan_within cap floor pam.loan }))) plan plan2 entries children others (pam-same pam planned now)) planned2
  shadow-alike (kind.LAM lam) own is planned planned2 =
      let same : kind.LAM (record lam { loan = loan_within cap floor lam.loan }) ≡ own = cc in
      subst (λ (it : Kind). plan_by (numbered number events common) it ≡ Ok plan2 → Alike (run_over (of_kind common (kind.LAM lam)) plan entries children).rows (run_over (of_kind (numbered number events common) it) plan2 entries others).rows) same
      (λ now. own_run-alike (of_kind common (kind.LAM lam)) (of_kind (numbered number events common) (kind.LAM (record lam { loan = loan_within cap floor lam.loan }))) plan plan2 entries children others (lam-same lam planned now)) planned2
  shadow-alike (kind.NAM nam) own is planned planned2 =
      let same : kind.NAM (record nam { loan = loan_within cap floor nam.loan }) ≡ own = cc in
      subst (λ (it : Kind). plan_by (numbered number events common) it ≡ Ok plan2 → Alike (run_over (of_kind common (kind.NAM nam)) plan entries children).rows (run_over (of_kind (numbered number events common) it) plan2 entries others).rows) same
      (λ now. own_run-alike (of_kind common (kind.NAM nam)) (of_kind (numbered number events common) (kind.NAM (record nam { loan = loan_within cap floor nam.loan }))) plan plan2 entries children others (nam-same nam planned now)) planned2
  shadow-alike (kind.ANN ann) own is planned planned2 =
      let same : kind.ANN (record ann { loan = loan_within cap floor ann.loan }) ≡ own = cc in
      subst (λ (it : Kind). plan_by (numbered number events common) it ≡ Ok plan2 → Alike (run_over (of_kind common (kind.ANN ann)) plan entries children).rows (run_over (of_kind (numbered number events common) it) plan2 entries others).rows) same
      (λ now. own_run-alike (of_kind common (kind.ANN ann)) (of_kind (numbered number events common) (kind.ANN (record ann { loan = loan_within cap floor ann.loan }))) plan plan2 entries children others (ann-same ann planned now)) planned2
  shadow-alike (kind.SWPPV swppv) own is planned planned2 =
      let same : kind.SWPPV (record swppv { rate_reset = reset_within cap floor swppv.rate_reset }) ≡ own = cc in
      subst (λ (it : Kind). plan_by (numbered number events common) it ≡ Ok plan2 → Alike (run_over (of_kind common (kind.SWPPV swppv)) plan entries children).rows (run_over (of_kind (numbered number events common) it) plan2 entries others).rows) same
      (λ now. own_run-alike (of_kind common (kind.SWPPV swppv)) (of_kind (numbered number events common) (kind.SWPPV (record swppv { rate_reset = reset_within cap floor swppv.rate_reset }))) plan plan2 entries children others (swppv-same swppv planned now)) planned2
  shadow-alike other own is planned planned2 = absurd (cc)

runs-alike : (terms own : Terms) → IsShadow own terms → (plan plan2 : EventPlan) (entries : List Obs) (children others : List Stream) → plan_of terms ≡ Ok plan → plan_of own ≡ Ok plan2 →
    Alike (run_over terms plan entries children).rows (run_over own plan2 entries others).rows
runs-alike terms own is plan plan2 entries children others planned planned2 =
    let same : own ≡ of_kind (numbered is.number is.events_of terms.common) own.kind = ap (λ (c : Common). of_kind c own.kind) is.common in
    subst (λ (t : Terms). Alike (run_over terms plan entries children).rows (run_over t plan2 entries others).rows) (sym same)
    (shadow-alike is.number is.events_of is.cap is.floor terms.common plan plan2 entries children others (ap (λ (c : Common). observed_as c) (sym is.common) ∙ is.observed)
    terms.kind own.kind is.kind planned (ap (λ (c : Common). plan_by c own.kind) (sym is.common) ∙ planned2))

-- ---- the children of a cap or floor

module _ (contracts : Contracts) (linked : IsLinked contracts) where
  given-pairs : (common : Common) (capfl : Capfl) (entries : List Obs) (c d : ℕ) (terms own : Terms) → slice_get contracts.terms c ≡ Some terms → slice_get contracts.terms d ≡ Some own → IsShadow own terms →
      (plan plan2 : Option EventPlan) → slice_get contracts.plans c ≡ plan → slice_get contracts.plans d ≡ plan2 → (children others : List Stream) →
      PairDays (limited_rows common capfl (run_where_given (Some terms) plan entries children)) (limited_rows common capfl (run_where_given (Some own) plan2 entries others))
  given-pairs common capfl entries c d terms own here there is None plan2 at at2 children others = tt
  given-pairs common capfl entries c d terms own here there is (Some plan) None at at2 children others = pair-none (limited_rows common capfl (run_over terms plan entries children))
  given-pairs common capfl entries c d terms own here there is (Some plan) (Some plan2) at at2 children others =
      alike-pairs common capfl 0 0 (run_over terms plan entries children).rows (run_over own plan2 entries others).rows
      (runs-alike terms own is plan plan2 entries children others (linked.plans c terms plan here at) (linked.plans d own plan2 there at2))

  run-pairs : (n : ℕ) (common : Common) (capfl : Capfl) (entries : List Obs) (c d : ℕ) (terms own : Terms) → slice_get contracts.terms c ≡ Some terms → slice_get contracts.terms d ≡ Some own → IsShadow own terms →
      PairDays (limited_rows common capfl (run_to n contracts entries c)) (limited_rows common capfl (run_to n contracts entries d))
  unfolding run_to
  run-pairs zero common capfl entries c d terms own here there is = tt
  run-pairs (suc n) common capfl entries c d terms own here there is =
      rw here (rw there (given-pairs common capfl entries c d terms own here there is (slice_get contracts.plans c) (slice_get contracts.plans d) refl refl
      (map (run_to n contracts entries) (children_at contracts c)) (map (run_to n contracts entries) (children_at contracts d))))

  pairs-by : (n : ℕ) (common : Common) (contract : Kind) (entries : List Obs) (children : List ℕ) → KnowsChildren contracts children contract → ArePaired common contract (map (run_to n contracts entries) children)
  pairs-by n common (kind.CAPFL capfl) entries children known =
      rw (known.both) (run-pairs n common capfl entries known.underlying known.shadow known.terms known.own known.here known.there known.is)
  pairs-by n common other entries children known = tt

  -- the interest rows of the children of a cap or floor stand beside one another by their days
  pub pairs : (n : ℕ) (entries : List Obs) (c : ℕ) (terms : Terms) → slice_get contracts.terms c ≡ Some terms → ArePaired terms.common terms.kind (map (run_to n contracts entries) (children_at contracts c))
  pairs n entries c terms here = pairs-by n terms.common terms.kind entries (children_at contracts c) (linked.children c terms here)
