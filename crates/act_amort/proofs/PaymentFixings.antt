-- The fixings of an annuity's payment.
use Rattle.std.proofs.Common.{◌≡◌, ◌≤◌, ℕ, suc, ◌+◌, ℤ, List, [], ◌∷◌, length, Bool, true, false, Option, Some, None, option_map, inl, inr, refl, ap, arith}
use Rattle.std.proofs.lemmas.Bool.{cases_Bool}
use Rattle.std.proofs.lemmas.List.{length-map}
use Rattle.std.specs.List.{insert, prefix_len}
use Rattle.std.specs.Prelude.{Err}
use Rattle.act_kind.specs.Types.{IsAnswer}
use Rattle.act_model.specs.declared.choice.ContractType.TheVariants as type
use Rattle.act_model.specs.declared.event.EventType.TheVariants.{PRF}
use Rattle.act_model.specs.declared.run.PlanFault.{PlanFault}
use Rattle.act_model.specs.declared.run.PlanFault.TheVariants.{TooManyDates, DateRange, NoMemory}
use Rattle.act_profile.specs.Lists.{insert_by}
use Rattle.act_profile.specs.LoanPlan.{fixings_by, is_earlier, reset_dates, with_first_fixing}
use Rattle.act_profile.specs.LoanTerms.{LoanTerms}
use Rattle.act_profile.specs.Planning.{Planned, shifting}

one_more : (n : ℕ) → 1 + n ≡ suc n
one_more n = omega arith

-- one put behind those that come before it stands behind the first of them
pub inserted_at : {A : Type 0} (before : A → A → Bool) (x : A) (ys : List A) → insert_by before x ys ≡ insert ys (prefix_len (λ y. before y x) ys) x
unfolding insert_by
inserted_at before x [] = refl
inserted_at before x (y ∷ ys) =
    elim (cases_Bool (before y x)) [
      | inl holds ↦ rw (holds, one_more) (ap (λ l. y ∷ l) (inserted_at before x ys))
      | inr fails ↦ rw fails refl
    ]

one_more_date : {A : Type 0} (before : A → A → Bool) (x : A) (ys : List A) → length ys ≤ length (insert_by before x ys)
unfolding insert_by
one_more_date before x [] = omega arith
one_more_date before x (y ∷ ys) =
    elim (cases_Bool (before y x)) [
      | inl holds ↦ rw holds (omega (arith, one_more_date before x ys))
      | inr fails ↦ rw fails (omega arith)
    ]

no_fewer : (exchange : ℤ) (payment : Option ℤ) (dates : List ℤ) → length dates ≤ length (with_first_fixing exchange payment (shifting PRF dates))
no_fewer exchange None dates =
    omega (arith, one_more_date is_earlier (record { kind = PRF; date = exchange; shifts = false }) (shifting PRF dates), length-map {B = Planned} dates (λ d. record { kind = PRF; date = d; shifts = true }))
no_fewer exchange (Some payment) dates = omega (arith, length-map {B = Planned} dates (λ d. record { kind = PRF; date = d; shifts = true }))

-- without resets there are no fixings with them
pub no_fixings : (exchange : ℤ) (payment : Option ℤ) (fault : PlanFault) (dates : Option (List ℤ)) → IsAnswer {A = ℤ} (Err fault) dates →
    IsAnswer {A = Planned} (Err fault) (option_map (λ ds. with_first_fixing exchange payment (shifting PRF ds)) dates)
no_fixings exchange payment NoMemory dates is = tt
no_fixings exchange payment DateRange dates is = rw is refl
no_fixings exchange payment TooManyDates None is = is
no_fixings exchange payment TooManyDates (Some dates) is = omega (arith, is, no_fewer exchange payment dates)

pub no_fixings_of_annuity : (l : LoanTerms) (fault : PlanFault) → l.type ≡ type.ANN → IsAnswer {A = ℤ} (Err fault) (reset_dates l) → IsAnswer {A = Planned} (Err fault) (fixings_by l l.type)
no_fixings_of_annuity l fault is without = rw is (no_fixings l.loan.initial_exchange_date l.payment fault (reset_dates l) without)
