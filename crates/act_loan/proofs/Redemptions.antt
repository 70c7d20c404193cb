-- The redemptions of a plan after a day, and the periods between them.
use Rattle.std.proofs.Common.{◌≡◌, ℕ, zero, suc, ◌+◌, ◌-◌, ◌<◌, true, false, ℤ, int_lt, List, [], ◌∷◌, length, drop, take, get_or, Some, option_and_then, refl, arith}
use Rattle.std.proofs.lemmas.List.{drop_more, length-drop, take_all}
use Rattle.std.proofs.Math.Seq.{drop-length}
use Rattle.act_annuity.specs.Payment.{annuity_payment}
use Rattle.act_model.specs.declared.state.State.{State}
use Rattle.act_profile.specs.Formula.{interest_on, plus}
use Rattle.act_profile.specs.Loan.{annuity_payment_over, days_after}
use Rattle.act_profile.specs.LoanPlan.{parts_between, parts_from}
use Rattle.act_profile.specs.LoanTerms.{LoanTerms, own_sign, part_of_year}

-- a day that isn't later is passed over
pub passed_over : (t : ℤ) (days : List ℤ) (k : ℕ) (d : ℤ) → k < length days → int_lt t (get_or days k d) ≡ false → days_after t (drop (k + 1) days) ≡ days_after t (drop k days)
unfolding days_after
passed_over t days k d h before = rw (drop_more days k d h, before) refl

-- from a later day on all count
pub reached : (t : ℤ) (days : List ℤ) (k : ℕ) (d : ℤ) → k < length days → int_lt t (get_or days k d) ≡ true → days_after t (drop k days) ≡ drop k days
unfolding days_after
reached t days k d h later = rw (drop_more days k d h, later) refl

pub none_left : (t : ℤ) (days : List ℤ) → days_after t (drop (length days) days) ≡ []
unfolding days_after
none_left t days = rw (drop-length days) refl

-- the periods between the last of some days are the last of those between all
pub last_parts : (l : LoanTerms) (days : List ℤ) (k : ℕ) → k < length days → drop k (parts_between l days) ≡ parts_between l (drop k days)
unfolding parts_from
last_parts l (d ∷ days) zero h = refl
last_parts l (d ∷ e ∷ days) (suc k) h = last_parts l (e ∷ days) k (omega arith)
last_parts l (d ∷ []) (suc k) h = absurd (omega arith)
last_parts l [] k h = absurd (omega arith)

-- there is one period fewer than days
pub parts_count : (l : LoanTerms) (days : List ℤ) → length (parts_between l days) ≡ length days - 1
unfolding parts_from
parts_count l [] = refl
parts_count l (d ∷ []) = refl
parts_count l (d ∷ e ∷ days) = omega (arith, parts_count l (e ∷ days))

-- the payment on the last of some days
pub payment_on_last : (l : LoanTerms) (t : ℤ) (s : State) (days : List ℤ) (k : ℕ) (d : ℤ) → k < length days →
    annuity_payment_over l t s (drop k days) ≡ option_and_then (λ a. annuity_payment (own_sign l s.nt) a s.ipnr (drop k (parts_between l days)))
    (plus (Some (own_sign l s.ipac)) (interest_on (own_sign l s.nt) s.ipnr (part_of_year l t (get_or days k d))))
payment_on_last l t s days k d h = rw (last_parts l days k h, drop_more days k d h) refl

-- all that is left of a list
pub to_the_end : {A : Type 0} (xs : List A) (k : ℕ) → take (length xs - k) (drop k xs) ≡ drop k xs
to_the_end xs k = take_all (length xs - k) (drop k xs) (omega (arith, length-drop k xs))
