-- Interest dates with those of redemption and the maturity, after a capitalization.
use Rattle.std.proofs.Common.{◌≡◌, ◌≤◌, ℤ, int_lt, List, [], ◌∷◌, ◌++◌, length, true, false, Option, Some, None, option_map, option_and_then, inl, inr, refl, sym, ap, ◌∙◌, arith}
use Rattle.std.proofs.lemmas.Bool.{cases_Bool}
use Rattle.std.proofs.lemmas.Int.{ints}
use Rattle.std.specs.List.{filter}
use Rattle.std.specs.Global.{Vec}
use Rattle.std.specs.Prelude.{IfErr, IfOk, IsSome, Result, Ok, Err}
use Rattle.act_amort.specs.Payments.{with_later}
use Rattle.act_kind.specs.Types.{IsAnswer}
use Rattle.act_loan.specs.Kinds.{pays_interest_alone}
use Rattle.act_model.specs.declared.choice.ContractType.{ContractType}
use Rattle.act_model.specs.declared.choice.ContractType.TheVariants as type
use Rattle.act_model.specs.declared.run.PlanFault.{PlanFault}
use Rattle.act_model.specs.declared.run.PlanFault.TheVariants.{TooManyDates, DateRange, NoMemory}
use Rattle.act_profile.specs.Dates.{after, united}
use Rattle.act_profile.specs.Lists.{insert_once_by}
use Rattle.act_profile.specs.LoanPlan.{interest_dates_until, interest_payment_dates, interest_payment_dates_by, redemption_dates, with_redemption_dates}
use Rattle.act_profile.specs.LoanTerms.{LoanTerms}

-- ---- a date that is put among others

-- one after the day stays, and stands where it stood among those that stay
kept : (c d : ℤ) (xs : List ℤ) → int_lt c d ≡ true →
    filter (λ x. int_lt c x) (insert_once_by int_lt xs d) ≡ insert_once_by int_lt (filter (λ x. int_lt c x) xs) d
unfolding insert_once_by
kept c d [] is = rw is refl
kept c d (x ∷ xs) is =
    elim (cases_Bool (int_lt x d)) [
      | inl before ↦ elim (cases_Bool (int_lt c x)) [
        | inl stays ↦ rw (before, stays, before) (ap (λ l. x ∷ l) (kept c d xs is))
        | inr goes ↦ rw (before, goes) (kept c d xs is)
      ]
      | inr from ↦
          let stays : int_lt c x ≡ true = above c d x is from in
          elim (cases_Bool (int_lt d x)) [
            | inl behind ↦ rw (from, behind, is, stays, from, behind) refl
            | inr same ↦ rw (from, same, stays, from, same) refl
          ]
    ]
  where
    above : (c d x : ℤ) → int_lt c d ≡ true → int_lt x d ≡ false → int_lt c x ≡ true
    above c d x low high = elim (cases_Bool (int_lt c x)) [ inl holds ↦ holds | inr fails ↦ absurd (omega (arith, ints)) ]

-- one that isn't after the day goes
dropped : (c d : ℤ) (xs : List ℤ) → int_lt c d ≡ false →
    filter (λ x. int_lt c x) (insert_once_by int_lt xs d) ≡ filter (λ x. int_lt c x) xs
unfolding insert_once_by
dropped c d [] is = rw is refl
dropped c d (x ∷ xs) is =
    elim (cases_Bool (int_lt x d)) [
      | inl before ↦ elim (cases_Bool (int_lt c x)) [
        | inl stays ↦ rw (before, stays) (ap (λ l. x ∷ l) (dropped c d xs is))
        | inr goes ↦ rw (before, goes) (dropped c d xs is)
      ]
      | inr from ↦ elim (cases_Bool (int_lt d x)) [
        | inl behind ↦ rw (from, behind, is) refl
        | inr same ↦ rw (from, same) refl
      ]
    ]

-- of both lists those after a day
after_united : (day : Option ℤ) (xs ys : List ℤ) → after day (united xs ys) ≡ united (after day xs) (after day ys)
after_united None xs ys = refl
after_united (Some c) xs [] = refl
after_united (Some c) xs (y ∷ ys) =
    elim (cases_Bool (int_lt c y)) [
      | inl stays ↦
          after_united (Some c) (insert_once_by int_lt xs y) ys
          ∙ ap (λ l. united l (filter (λ x. int_lt c x) ys)) (kept c y xs stays)
          ∙ rw stays refl
      | inr goes ↦
          after_united (Some c) (insert_once_by int_lt xs y) ys
          ∙ ap (λ l. united l (filter (λ x. int_lt c x) ys)) (dropped c y xs goes)
          ∙ rw goes refl
    ]

no_fewer : (xs : List ℤ) (d : ℤ) → length xs ≤ length (insert_once_by int_lt xs d)
unfolding insert_once_by
no_fewer [] d = omega arith
no_fewer (x ∷ xs) d =
    elim (cases_Bool (int_lt x d)) [
      | inl before ↦ rw before (omega (arith, no_fewer xs d))
      | inr from ↦ elim (cases_Bool (int_lt d x)) [ inl behind ↦ rw (from, behind) (omega arith) | inr same ↦ rw (from, same) (omega arith) ]
    ]

united_are_no_fewer : (xs ys : List ℤ) → length xs ≤ length (united xs ys)
united_are_no_fewer xs [] = omega arith
united_are_no_fewer xs (y ∷ ys) = omega (arith, no_fewer xs y, united_are_no_fewer (insert_once_by int_lt xs y) ys)

-- ---- the dates of interest payments

with_both : (l : LoanTerms) (type : ContractType) (dates redemptions : List ℤ) → pays_interest_alone type ≡ false → redemption_dates l ≡ Some redemptions →
    with_redemption_dates l type dates ≡ Some (united (united dates redemptions) (l.maturity ∷ []))
with_both l type.NAM dates redemptions alone are = rw are refl
with_both l type.ANN dates redemptions alone are = rw are refl
with_both l other dates redemptions alone are = absurd (cc)

-- those of one list behind those of another
united_twice : (xs ys zs : List ℤ) → united (united xs ys) zs ≡ united xs (ys ++ zs)
united_twice xs [] zs = refl
united_twice xs (y ∷ ys) zs = united_twice (insert_once_by int_lt xs y) ys zs

by_dates : (l : LoanTerms) (redemptions : List ℤ) (day : Option ℤ) (dates : Option (List ℤ)) → pays_interest_alone l.type ≡ false → redemption_dates l ≡ Some redemptions →
    option_map (after day) (option_and_then (with_redemption_dates l l.type) dates) ≡ option_map (with_later day (redemptions ++ l.maturity ∷ [])) (option_map (after day) dates)
by_dates l redemptions day None alone are = refl
by_dates l redemptions day (Some dates) alone are =
    ap (option_map (after day)) (with_both l l.type dates redemptions alone are)
    ∙ ap Some (ap (after day) (united_twice dates redemptions (l.maturity ∷ [])) ∙ after_united day dates (redemptions ++ l.maturity ∷ []))

by_rate : (l : LoanTerms) (redemptions : List ℤ) (rate : Option ℤ) → IsSome rate → pays_interest_alone l.type ≡ false → redemption_dates l ≡ Some redemptions →
    interest_payment_dates_by l rate ≡ option_map (with_later l.loan.capitalization_end_date (redemptions ++ l.maturity ∷ [])) (option_map (after l.loan.capitalization_end_date) (interest_dates_until l l.maturity))
by_rate l redemptions None given alone are = absurd (cc)
by_rate l redemptions (Some rate) given alone are = by_dates l redemptions l.loan.capitalization_end_date (interest_dates_until l l.maturity) alone are

pub payments_are : (l : LoanTerms) (redemptions : List ℤ) → IsSome l.loan.nominal_interest_rate → pays_interest_alone l.type ≡ false → redemption_dates l ≡ Some redemptions →
    interest_payment_dates l ≡ option_map (with_later l.loan.capitalization_end_date (redemptions ++ l.maturity ∷ [])) (option_map (after l.loan.capitalization_end_date) (interest_dates_until l l.maturity))
payments_are l redemptions given alone are = by_rate l redemptions l.loan.nominal_interest_rate given alone are

-- what there are too many of stays too many
no_payments_by : (others : List ℤ) (day : Option ℤ) (fault : PlanFault) (dates : Option (List ℤ)) → IsAnswer {A = ℤ} (Err fault) dates →
    IsAnswer {A = ℤ} (Err fault) (option_map (with_later day others) dates)
no_payments_by others day NoMemory dates is = tt
no_payments_by others day DateRange dates is = rw is refl
no_payments_by others day TooManyDates None is = is
no_payments_by others day TooManyDates (Some dates) is = omega (arith, is, united_are_no_fewer dates (after day others))

pub no_payments : (l : LoanTerms) (redemptions : List ℤ) (fault : PlanFault) → IsSome l.loan.nominal_interest_rate → pays_interest_alone l.type ≡ false → redemption_dates l ≡ Some redemptions →
    IsAnswer {A = ℤ} (Err fault) (option_map (after l.loan.capitalization_end_date) (interest_dates_until l l.maturity)) → IsAnswer {A = ℤ} (Err fault) (interest_payment_dates l)
no_payments l redemptions fault given alone are is =
    rw (payments_are l redemptions given alone are) (no_payments_by (redemptions ++ l.maturity ∷ []) l.loan.capitalization_end_date fault (option_map (after l.loan.capitalization_end_date) (interest_dates_until l l.maturity)) is)

pub payments_on : (l : LoanTerms) (redemptions dates all : List ℤ) → IsSome l.loan.nominal_interest_rate → pays_interest_alone l.type ≡ false → redemption_dates l ≡ Some redemptions →
    option_map (after l.loan.capitalization_end_date) (interest_dates_until l l.maturity) ≡ Some dates →
    all ≡ with_later l.loan.capitalization_end_date (redemptions ++ l.maturity ∷ []) dates → interest_payment_dates l ≡ Some all
payments_on l redemptions dates all given alone are is joined =
    payments_are l redemptions given alone are ∙ ap (option_map (with_later l.loan.capitalization_end_date (redemptions ++ l.maturity ∷ []))) is ∙ ap Some (sym joined)

-- an answer of these dates
pub payments_with : (l : LoanTerms) (redemptions dates : List ℤ) (answer : Result (Vec ℤ) PlanFault) → IsSome l.loan.nominal_interest_rate → pays_interest_alone l.type ≡ false → redemption_dates l ≡ Some redemptions →
    option_map (after l.loan.capitalization_end_date) (interest_dates_until l l.maturity) ≡ Some dates →
    IfOk answer (λ all. all.items ≡ with_later l.loan.capitalization_end_date (redemptions ++ l.maturity ∷ []) dates) → IfErr answer (λ fault. fault ≡ NoMemory) →
    IsAnswer answer (interest_payment_dates l)
payments_with l redemptions dates (Ok all) given alone are is joined none = payments_on l redemptions dates all.items given alone are is joined
payments_with l redemptions dates (Err fault) given alone are is joined none = let memory : fault ≡ NoMemory = none in rw memory tt
