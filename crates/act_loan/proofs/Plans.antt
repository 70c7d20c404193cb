-- The plan of a loan, by its parts.
use Rattle.std.proofs.Common.{◌≡◌, ℕ, suc, ◌+◌, ◌<◌, ◌≤◌, ◌==◌, Bool, true, false, ℤ, int_lt, List, [], ◌∷◌, ◌++◌, map, length, drop, get_or, Option, Some, None, Result, Ok, Err, option_map, inl, inr, refl, sym, ap, ◌∙◌, arith, append-nil, append_assoc}
use Rattle.std.proofs.Math.Seq.{drop-length}
use Rattle.std.proofs.lemmas.Bool.{cases_Bool}
use Rattle.std.proofs.lemmas.Bool.Decides.{nat_tests}
use Rattle.std.proofs.lemmas.List.{drop_more, length-drop, length-map}
use Rattle.std.specs.List.{enumerate_from}
use Rattle.act_date.specs.Fraction.{Fraction}
use Rattle.act_kind.specs.Types.{IsAnswer}
use Rattle.act_model.specs.Run.{EventPlan}
use Rattle.act_model.specs.declared.event.Event.{Event}
use Rattle.act_model.specs.declared.event.EventType.TheVariants.{RR, RRF}
use Rattle.act_model.specs.declared.run.PlanFault.{PlanFault}
use Rattle.act_model.specs.declared.run.PlanFault.TheVariants.{TooManyDates, DateRange, NoMemory}
use Rattle.act_profile.specs.Loan.{days_after}
use Rattle.act_profile.specs.LoanPlan.{calculation_days, loan_dates, loan_plan, parts_between, parts_from, resets_on, with_first_given, with_redemptions}
use Rattle.act_profile.specs.LoanTerms.{LoanTerms, part_of_year}
use Rattle.act_profile.specs.Order.{in_order}
use Rattle.act_profile.specs.Outcomes.{map_ok}
use Rattle.act_profile.specs.Planning.{Planned, events_by_type, shifting}
use Rattle.act_loan.specs.Resets.{reset_on}

-- ---- parts of a year

pub next_part : (l : LoanTerms) (first previous : ℤ) (later : List ℤ) (i : ℕ) (d : ℤ) (parts : List Fraction) → i < length later → d ≡ get_or later i d →
    parts_from l first later ≡ parts ++ parts_from l previous (drop i later) →
    parts_from l first later ≡ (parts ++ part_of_year l previous d ∷ []) ++ parts_from l d (drop (i + 1) later)
next_part l first previous later i d parts lt here so_far =
    let left : parts_from l previous (drop i later) ≡ part_of_year l previous d ∷ parts_from l d (drop (i + 1) later) =
    unfold parts_from in rw (drop_more later i d lt, ← here) refl in
    so_far ∙ ap (λ ps. parts ++ ps) left ∙ sym (append_assoc parts (part_of_year l previous d ∷ []) (parts_from l d (drop (i + 1) later)))

pub no_more_parts : (l : LoanTerms) (previous : ℤ) (later : List ℤ) (i : ℕ) (parts : List Fraction) → i ≡ length later → parts ++ parts_from l previous (drop i later) ≡ parts
no_more_parts l previous later i parts end =
    let none : parts_from l previous (drop i later) ≡ [] = unfold parts_from in rw (end, drop-length later) refl in
    ap (λ ps. parts ++ ps) none ∙ append-nil parts

-- ---- the days that events go by

-- an event that is wanted gives its day
pub day_kept : (wanted : Event → Bool) (days : List ℤ) (events : List Event) (i : ℕ) (e : Event) → i < length events → wanted (get_or events i e) ≡ true →
    (days ++ (get_or events i e).calc ∷ []) ++ calculation_days wanted (drop (i + 1) events) ≡ days ++ calculation_days wanted (drop i events)
day_kept wanted days events i e lt is =
    rw (drop_more events i e lt, is) (append_assoc days ((get_or events i e).calc ∷ []) (calculation_days wanted (drop (i + 1) events)))

pub day_left_out : (wanted : Event → Bool) (days : List ℤ) (events : List Event) (i : ℕ) (e : Event) → i < length events → wanted (get_or events i e) ≡ false →
    days ++ calculation_days wanted (drop (i + 1) events) ≡ days ++ calculation_days wanted (drop i events)
day_left_out wanted days events i e lt is = rw (drop_more events i e lt, is) refl

pub no_more_days : (wanted : Event → Bool) (days : List ℤ) (events : List Event) (i : ℕ) → i ≡ length events → days ++ calculation_days wanted (drop i events) ≡ days
no_more_days wanted days events i end = rw (end, drop-length events) (append-nil days)

-- ---- resets

after_given : (given n : ℕ) (days : List ℤ) → given < n → shifting RR days ≡ map (λ p. reset_on (p.0 == given) p.1) (enumerate_from n days)
after_given given n [] lt = refl
after_given given n (d ∷ days) lt =
    let other : (n == given) ≡ false = grind (arith, nat_tests) in
    let more : given < n + 1 = omega arith in
    rw other (ap (λ rs. record { kind = RR; date = d; shifts = true } ∷ rs) (after_given given (n + 1) days more))

days_left : (status : ℤ) (days : List ℤ) → length (days_after status days) ≤ length days
unfolding days_after
days_left status [] = omega arith
days_left status (d ∷ days) =
    elim (cases_Bool (int_lt status d)) [
      | inl later ↦ rw later (omega arith)
      | inr passed ↦ rw passed (omega (arith, days_left status days))
    ]

given_from : (status : ℤ) (n : ℕ) (days : List ℤ) (given : ℕ) → given + length (days_after status days) ≡ n + length days →
    with_first_given status days ≡ map (λ p. reset_on (p.0 == given) p.1) (enumerate_from n days)
unfolding with_first_given days_after
given_from status n [] given is = refl
given_from status n (d ∷ days) given is =
    elim (cases_Bool (int_lt status d)) [
      | inl later ↦
          let count : given + length (d ∷ days) ≡ n + length (d ∷ days) = rw later at is in
          let here : (n == given) ≡ true = grind (arith, nat_tests) in
          let more : given < n + 1 = omega arith in
          rw (later, here) (ap (λ rs. record { kind = RRF; date = d; shifts = true } ∷ rs) (after_given given (n + 1) days more))
      | inr passed ↦
          let count : given + length (days_after status days) ≡ n + length (d ∷ days) = rw passed at is in
          let short = days_left status days in
          let other : (n == given) ≡ false = grind (arith, nat_tests) in
          let rest : given + length (days_after status days) ≡ n + 1 + length days = omega arith in
          rw (passed, other) (ap (λ rs. record { kind = RR; date = d; shifts = true } ∷ rs) (given_from status (n + 1) days given rest))
    ]

-- the first reset after the status date is at the place behind the days that aren't after it
pub first_given : (status : ℤ) (days : List ℤ) (given : ℕ) → drop given days ≡ days_after status days → given ≤ length days →
    map (λ p. reset_on (p.0 == given) p.1) (enumerate_from 0 days) ≡ with_first_given status days
first_given status days given is within =
    let count : given + length (days_after status days) ≡ 0 + length days = rw (← is) (omega (arith, length-drop given days)) in
    sym (given_from status 0 days given count)

given_count : (status : ℤ) (days : List ℤ) → length (with_first_given status days) ≡ length days
unfolding with_first_given
given_count status [] = refl
given_count status (d ∷ days) =
    elim (cases_Bool (int_lt status d)) [
      | inl later ↦ rw later (ap suc (length-map days (λ d. record { kind = RR; date = d; shifts = true })))
      | inr passed ↦ rw passed (ap suc (given_count status days))
    ]

resets_count : (status : ℤ) (rate : Option ℤ) (days : List ℤ) → length (resets_on status rate days) ≡ length days
resets_count status None days = length-map days (λ d. record { kind = RR; date = d; shifts = true })
resets_count status (Some rate) days = given_count status days

pub no_resets : (status : ℤ) (rate : Option ℤ) (fault : PlanFault) (dates : Option (List ℤ)) → IsAnswer {A = ℤ} (Err fault) dates → IsAnswer {A = Planned} (Err fault) (option_map (resets_on status rate) dates)
no_resets status rate NoMemory dates is = tt
no_resets status rate DateRange dates is = rw is refl
no_resets status rate TooManyDates None is = is
no_resets status rate TooManyDates (Some dates) is = rw (resets_count status rate dates) is

-- ---- the plan

pub plan_of_events : (l : LoanTerms) (events sorted : List Event) → events_by_type l.common 0 (loan_dates l) ≡ Ok events → sorted ≡ in_order events → loan_plan l ≡ Ok (with_redemptions l sorted)
unfolding loan_plan
plan_of_events l events sorted planned order = rw (planned, ← order) refl

pub no_plan : (l : LoanTerms) (fault : PlanFault) → events_by_type l.common 0 (loan_dates l) ≡ Err fault → loan_plan l ≡ Err fault
unfolding loan_plan
no_plan l fault planned = rw planned refl

periods_by : (l : LoanTerms) (events : Result (List Event) PlanFault) (plan : EventPlan) → map_ok (λ es. with_redemptions l (in_order es)) events ≡ Ok plan → plan.periods ≡ parts_between l plan.redemptions
periods_by l (Ok events) plan is = let same : with_redemptions l (in_order events) ≡ plan = cc in rw (← same) refl
periods_by l (Err fault) plan is = cc

-- the periods of a plan are those between its days
pub periods_of_plan : (l : LoanTerms) (plan : EventPlan) → loan_plan l ≡ Ok plan → plan.periods ≡ parts_between l plan.redemptions
unfolding loan_plan
periods_of_plan l plan is = periods_by l (events_by_type l.common 0 (loan_dates l)) plan is
