-- The latest of some dates.
use Rattle.std.proofs.Common.{◌≡◌, ℤ, int_le, int_lt, List, [], ◌∷◌, ◌++◌, Bool, true, false, ◌&&◌, option_map, inl, inr, Option, Some, None, refl, sym, ap, ◌∙◌, arith}
use Rattle.std.specs.Int.{int_max}
use Rattle.act_profile.specs.Dates.{after, latest_until}
use Rattle.std.proofs.lemmas.Bool.{cases_Bool}
use Rattle.std.proofs.lemmas.Bool.Decides.{Decides-int_eq}
use Rattle.std.proofs.lemmas.Int.{ints}
use Rattle.std.specs.Ordering.{int_eq}
use Rattle.act_model.specs.declared.terms.Redemption.{Redemption}
use Rattle.act_profile.specs.Dates.{united, without}
use Rattle.act_profile.specs.Lists.{insert_once_by}
use Rattle.act_profile.specs.LoanPlan.{redemption_dates, redemption_dates_by, with_redemptions_and_end}
use Rattle.act_profile.specs.LoanTerms.{LoanTerms}
use Rattle.act_sched.proofs.SoFar.{latest_none, one_by_one}
use Rattle.act_sched.specs.Schedule.{latest_in}
use Rattle.act_loan.specs.RedemptionDates.{all_redemption_dates, all_redemption_dates_by}

-- ---- one date after the other

-- the date counts
counted : ℤ → Option ℤ → ℤ → Bool
counted until None d = int_le d until
counted until (Some day) d = int_lt day d && int_le d until

later : Bool → ℤ → ℤ → ℤ
later true latest d = int_max latest d
later false latest d = latest

latest_of_one : (until latest : ℤ) (later_than : Option ℤ) (d : ℤ) → latest_in until later_than latest (d ∷ []) ≡ later (counted until later_than d) latest d
unfolding counted later
latest_of_one until latest None d =
    elim (cases_Bool (int_le d until)) [ inl holds ↦ rw holds refl | inr fails ↦ rw fails refl ]
latest_of_one until latest (Some day) d =
    elim (cases_Bool (int_lt day d)) [
      | inl counts ↦ elim (cases_Bool (int_le d until)) [ inl holds ↦ rw (counts, holds) refl | inr fails ↦ rw (counts, fails) refl ]
      | inr passed ↦ rw passed refl
    ]

later_swaps : (b c : Bool) (latest d e : ℤ) → later c (later b latest d) e ≡ later b (later c latest e) d
unfolding later
later_swaps true true latest d e = grind (arith, ints)
later_swaps true false latest d e = refl
later_swaps false true latest d e = refl
later_swaps false false latest d e = refl

later_twice : (b : Bool) (latest d : ℤ) → later b (later b latest d) d ≡ later b latest d
unfolding later
later_twice true latest d = grind (arith, ints)
later_twice false latest d = refl

-- two dates, in either order
swap_ones : (until latest : ℤ) (later_than : Option ℤ) (d e : ℤ) →
    latest_in until later_than (latest_in until later_than latest (d ∷ [])) (e ∷ []) ≡ latest_in until later_than (latest_in until later_than latest (e ∷ [])) (d ∷ [])
swap_ones until latest later_than d e =
    rw (
      latest_of_one until latest later_than d,
      latest_of_one until latest later_than e,
      latest_of_one until (later (counted until later_than d) latest d) later_than e,
      latest_of_one until (later (counted until later_than e) latest e) later_than d,
    )
    (later_swaps (counted until later_than d) (counted until later_than e) latest d e)

one_twice : (until latest : ℤ) (later_than : Option ℤ) (d : ℤ) →
    latest_in until later_than (latest_in until later_than latest (d ∷ [])) (d ∷ []) ≡ latest_in until later_than latest (d ∷ [])
one_twice until latest later_than d =
    rw (latest_of_one until latest later_than d, latest_of_one until (later (counted until later_than d) latest d) later_than d) (later_twice (counted until later_than d) latest d)

front_first : (until latest : ℤ) (later_than : Option ℤ) (d : ℤ) (xs : List ℤ) → latest_in until later_than latest (d ∷ xs) ≡ latest_in until later_than (latest_in until later_than latest (d ∷ [])) xs
front_first until latest later_than d xs = one_by_one until latest later_than (d ∷ []) xs

-- a date may come before or behind others
swap_one : (until latest : ℤ) (later_than : Option ℤ) (d : ℤ) (xs : List ℤ) →
    latest_in until later_than (latest_in until later_than latest (d ∷ [])) xs ≡ latest_in until later_than (latest_in until later_than latest xs) (d ∷ [])
swap_one until latest later_than d [] =
    latest_none until (latest_in until later_than latest (d ∷ [])) later_than ∙ sym (ap (λ z. latest_in until later_than z (d ∷ [])) (latest_none until latest later_than))
swap_one until latest later_than d (x ∷ xs) =
    front_first until (latest_in until later_than latest (d ∷ [])) later_than x xs
    ∙ ap (λ z. latest_in until later_than z xs) (swap_ones until latest later_than d x)
    ∙ swap_one until (latest_in until later_than latest (x ∷ [])) later_than d xs
    ∙ sym (ap (λ z. latest_in until later_than z (d ∷ [])) (front_first until latest later_than x xs))

-- ---- dates of both lists

inserted : (until latest : ℤ) (later_than : Option ℤ) (xs : List ℤ) (d : ℤ) →
    latest_in until later_than latest (insert_once_by int_lt xs d) ≡ latest_in until later_than (latest_in until later_than latest xs) (d ∷ [])
unfolding insert_once_by
inserted until latest later_than [] d = sym (ap (λ z. latest_in until later_than z (d ∷ [])) (latest_none until latest later_than))
inserted until latest later_than (x ∷ xs) d =
    elim (cases_Bool (int_lt x d)) [
      | inl before ↦
          rw before (front_first until latest later_than x (insert_once_by int_lt xs d)
          ∙ inserted until (latest_in until later_than latest (x ∷ [])) later_than xs d
          ∙ sym (ap (λ z. latest_in until later_than z (d ∷ [])) (front_first until latest later_than x xs)))
      | inr from ↦ elim (cases_Bool (int_lt d x)) [
        | inl behind ↦ rw (from, behind) (front_first until latest later_than d (x ∷ xs) ∙ swap_one until latest later_than d (x ∷ xs))
        | inr up_to ↦
            let same : x ≡ d = omega (arith, ints) in
            rw (from, up_to) (rw same
            (front_first until latest later_than d xs
            ∙ swap_one until latest later_than d xs
            ∙ sym (one_twice until (latest_in until later_than latest xs) later_than d)
            ∙ sym (ap (λ z. latest_in until later_than z (d ∷ [])) (front_first until latest later_than d xs ∙ swap_one until latest later_than d xs))))
      ]
    ]

in_both : (until latest : ℤ) (later_than : Option ℤ) (xs ys : List ℤ) →
    latest_in until later_than latest (united xs ys) ≡ latest_in until later_than (latest_in until later_than latest xs) ys
in_both until latest later_than xs [] = sym (latest_none until (latest_in until later_than latest xs) later_than)
in_both until latest later_than xs (y ∷ ys) =
    in_both until latest later_than (insert_once_by int_lt xs y) ys
    ∙ ap (λ z. latest_in until later_than z ys) (inserted until latest later_than xs y)
    ∙ sym (front_first until (latest_in until later_than latest xs) later_than y ys)

-- a date that comes at the end may be left out before
left_out : (until latest : ℤ) (later_than : Option ℤ) (end : ℤ) (xs : List ℤ) →
    latest_in until later_than (latest_in until later_than latest (without end xs)) (end ∷ []) ≡ latest_in until later_than (latest_in until later_than latest xs) (end ∷ [])
left_out until latest later_than end [] = refl
left_out until latest later_than end (x ∷ xs) =
    elim (cases_Bool (int_eq x end)) [
      | inl equal ↦
          let same : x ≡ end = (Decides-int_eq x end).0 equal in
          let rest = left_out until latest later_than end xs in
          rw equal (rw same
          (rest
          ∙ sym (one_twice until (latest_in until later_than latest xs) later_than end)
          ∙ sym (ap (λ z. latest_in until later_than z (end ∷ [])) (front_first until latest later_than end xs ∙ swap_one until latest later_than end xs))))
      | inr differs ↦
          rw differs (ap (λ z. latest_in until later_than z (end ∷ [])) (front_first until latest later_than x (without end xs))
          ∙ left_out until (latest_in until later_than latest (x ∷ [])) later_than end xs
          ∙ sym (ap (λ z. latest_in until later_than z (end ∷ [])) (front_first until latest later_than x xs)))
    ]

-- ---- the dates of redemption and T

without_by : (l : LoanTerms) (terms : Option Redemption) → redemption_dates_by l terms ≡ option_map (without l.maturity) (all_redemption_dates_by l terms)
without_by l None = refl
without_by l (Some terms) = refl

with_end_by : (until first : ℤ) (later_than : Option ℤ) (end : ℤ) (dates : Option (List ℤ)) →
    option_map (λ ds. latest_in until later_than first (ds ++ end ∷ [])) (option_map (without end) dates) ≡
    option_map (λ latest. latest_in until later_than latest (end ∷ [])) (option_map (latest_in until later_than first) dates)
with_end_by until first later_than end None = refl
with_end_by until first later_than end (Some ds) =
    ap Some (one_by_one until first later_than (without end ds) (end ∷ []) ∙ left_out until first later_than end ds)

-- the redemption dates and T, where T may be among the former
pub with_end : (l : LoanTerms) (until first : ℤ) (later_than : Option ℤ) →
    option_map (λ dates. latest_in until later_than first (dates ++ l.maturity ∷ [])) (redemption_dates l) ≡
    option_map (λ latest. latest_in until later_than latest (l.maturity ∷ [])) (option_map (latest_in until later_than first) (all_redemption_dates l))
with_end l until first later_than = rw (without_by l l.redemption) (with_end_by until first later_than l.maturity (all_redemption_dates l))

with_redemptions_by : (until first : ℤ) (later_than : Option ℤ) (end : ℤ) (dates : List ℤ) (others : Option (List ℤ)) →
    option_map (latest_in until later_than first) (option_map (λ ds. united (united dates ds) (end ∷ [])) others) ≡
    option_map (λ ds. latest_in until later_than (latest_in until later_than first dates) (ds ++ end ∷ [])) others
with_redemptions_by until first later_than end dates None = refl
with_redemptions_by until first later_than end dates (Some ds) =
    ap Some (in_both until first later_than (united dates ds) (end ∷ [])
    ∙ ap (λ z. latest_in until later_than z (end ∷ [])) (in_both until first later_than dates ds)
    ∙ sym (one_by_one until (latest_in until later_than first dates) later_than ds (end ∷ [])))

-- interest dates with those of redemption and T
pub with_redemptions : (l : LoanTerms) (until first : ℤ) (later_than : Option ℤ) (dates : List ℤ) →
    option_map (latest_in until later_than first) (with_redemptions_and_end l dates) ≡
    option_map (λ others. latest_in until later_than (latest_in until later_than first dates) (others ++ l.maturity ∷ [])) (redemption_dates l)
with_redemptions l until first later_than dates = with_redemptions_by until first later_than l.maturity dates (redemption_dates l)

pub at_once : (until first : ℤ) (later_than : Option ℤ) (dates : Option (List ℤ)) →
    option_map (latest_until until first) (option_map (after later_than) dates) ≡ option_map (latest_in until later_than first) dates
at_once until first later_than None = refl
at_once until first later_than (Some dates) = refl
