-- What a convention makes of a scheduled day.
use Rattle.std.proofs.Common.{◌≡◌, ℕ, ◌≤◌, Bool, IsTrue, true, false, if◌then◌else◌, ℤ, pos, ◌+ℤ◌, ◌-ℤ◌, ◌≤ℤ◌, ◌⊎◌, inl, inr, Option, Some, None, IsNone, IfSome, option_map, ◌↔◌, refl, sym, ap, ◌∙◌, arith}
use Rattle.std.proofs.lemmas.Bool.{false≢true}
use Rattle.std.proofs.lemmas.Bool.Decides.{nat_tests}
use Rattle.std.proofs.lemmas.Int.{by_lt_z, ints}
use Rattle.act_date.specs.declared.calendar.Calendar.{Calendar}
use Rattle.act_date.specs.declared.calendar.Calendar.TheVariants.{Nc, Mf}
use Rattle.act_date.specs.declared.calendar.Convention.{Convention}
use Rattle.act_date.specs.declared.calendar.Convention.TheVariants.{Nos, Scf, Scmf, Csf, Csmf, Scp, Scmp, Csp, Csmp}
use Rattle.act_date.specs.Civil.{IsDay, first_day, last_day, day_in_range, civil_of, is_business, month_end_of, month_length}
use Rattle.act_date.proofs.CivilLemmas.{civil_of-is_date, in_range_none, in_range_some}
use Rattle.act_calendar.specs.Shift.{IsFollowing, IsInMonth, IsModified, IsPreceding, IsShifted, IsShiftedDay, IsShiftedPast, calculation_day, following_day, is_in_month, is_modified, modified_day, preceding_day, shift_of, shifted_day}
use Rattle.act_calendar.specs.declared.shifting.Shifted.{Shifted}
use Rattle.act_calendar.proofs.Months.{in_month, is_in_month-true, month_end_distance, within_month}
use Rattle.act_calendar.proofs.Weekdays.{is_following, is_preceding}

-- ---- the definition by days and the one by relations

modified_by : (b : Bool) (day one other : ℤ) → is_in_month day one ≡ b → IsModified day one other (if b then one else other)
modified_by true day one other e = inl (in_month day one e, refl)
modified_by false day one other e = inr (λ h. false≢true (sym e ∙ is_in_month-true day one h), refl)

is_modified_day : (day one other : ℤ) → IsModified day one other (modified_day day one other)
is_modified_day day one other = modified_by (is_in_month day one) day one other refl

is_shifted_day : (convention : Convention) (day f p : ℤ) → IsShiftedDay convention day f p (shifted_day convention day f p)
is_shifted_day Nos day f p = refl
is_shifted_day Scf day f p = refl
is_shifted_day Csf day f p = refl
is_shifted_day Scp day f p = refl
is_shifted_day Csp day f p = refl
is_shifted_day Scmf day f p = is_modified_day day f p
is_shifted_day Csmf day f p = is_modified_day day f p
is_shifted_day Scmp day f p = is_modified_day day p f
is_shifted_day Csmp day f p = is_modified_day day p f

modified_only_by : (b : Bool) (day one other shifted : ℤ) → is_in_month day one ≡ b → IsModified day one other shifted → shifted ≡ (if b then one else other)
modified_only_by true day one other shifted e (inl h) = h.1
modified_only_by true day one other shifted e (inr h) = absurd (h.0 (in_month day one e))
modified_only_by false day one other shifted e (inl h) = absurd (false≢true (sym e ∙ is_in_month-true day one h.0))
modified_only_by false day one other shifted e (inr h) = h.1

modified_only : (day one other shifted : ℤ) → IsModified day one other shifted → shifted ≡ modified_day day one other
modified_only day one other shifted h = modified_only_by (is_in_month day one) day one other shifted refl h

shifted_only : (convention : Convention) (day f p shifted : ℤ) → IsShiftedDay convention day f p shifted → shifted ≡ shifted_day convention day f p
shifted_only Nos day f p shifted h = h
shifted_only Scf day f p shifted h = h
shifted_only Csf day f p shifted h = h
shifted_only Scp day f p shifted h = h
shifted_only Csp day f p shifted h = h
shifted_only Scmf day f p shifted h = modified_only day f p shifted h
shifted_only Csmf day f p shifted h = modified_only day f p shifted h
shifted_only Scmp day f p shifted h = modified_only day p f shifted h
shifted_only Csmp day f p shifted h = modified_only day p f shifted h

-- ---- a modified convention doesn't leave the month

-- a month is far longer than a weekend
month_is_long : (year month : ℕ) → 28 ≤ month_length year month
month_is_long year month = grind (arith, nat_tests)

-- both business days are at most two days away
near_following : (calendar : Calendar) (day : ℤ) → first_day ≤ℤ day → following_day calendar day ≤ℤ (day +ℤ pos 2)
unfolding following_day
near_following Nc day from = omega (arith, ints)
near_following Mf day from = grind (arith, ints, nat_tests)

near_preceding : (calendar : Calendar) (day : ℤ) → first_day ≤ℤ day → day ≤ℤ (preceding_day calendar day +ℤ pos 2)
unfolding preceding_day
near_preceding Nc day from = omega (arith, ints)
near_preceding Mf day from = grind (arith, ints, nat_tests)

-- ---- the business days of a day are the computed ones, and in range

following_only : (calendar : Calendar) (day f : ℤ) → first_day ≤ℤ day → IsFollowing calendar day f → f ≡ following_day calendar day
following_only calendar day f from h =
    let g = is_following calendar day from in
    omega (arith, ints, h.least _ g.not_before g.business, g.least f h.not_before h.business)

preceding_only : (calendar : Calendar) (day p : ℤ) → first_day ≤ℤ day → IsPreceding calendar day p → p ≡ preceding_day calendar day
preceding_only calendar day p from h =
    let g = is_preceding calendar day from in
    omega (arith, ints, h.greatest _ g.not_after g.business, g.greatest p h.not_after h.business)

first_is_business : (calendar : Calendar) → IsTrue (is_business calendar first_day)
first_is_business Nc = refl
first_is_business Mf = refl

range_cases : (d : ℤ) → (IsDay d × (day_in_range d ≡ Some d)) ⊎ ((¬ (IsDay d)) × (day_in_range d ≡ None))
range_cases d =
    by_lt_z d first_day
    (λ lt. let out : ¬ (IsDay d) = λ h. omega (arith, ints) in inr (out, in_range_none d out))
    (λ from.
    by_lt_z last_day d
    (λ lt. let out : ¬ (IsDay d) = λ h. omega (arith, ints) in inr (out, in_range_none d out))
    (λ to. inl ((from, to), in_range_some d (from, to))))

module _ (calendar : Calendar) (day : ℤ) (in_range : IsDay day) where
  within : (d : ℤ) → pos 1 ≤ℤ (pos (civil_of day).day +ℤ (d -ℤ day)) → d ≤ℤ month_end_of day → IsInMonth day d
  within d from to =
      let same : day +ℤ (d -ℤ day) ≡ d = omega (arith, ints) in
      rw same at (within_month day (civil_of-is_date day in_range) (d -ℤ day) from (rw same to))

  -- the two are too near for both to leave it
  one_in_month : IsInMonth day (following_day calendar day) ⊎ IsInMonth day (preceding_day calendar day)
  one_in_month =
      let date = civil_of-is_date day in_range in
      let is_f = is_following calendar day in_range.0 in
      let is_p = is_preceding calendar day in_range.0 in
      let long = month_is_long (civil_of day).year (civil_of day).month in
      let end = month_end_distance day date in
      let near_f = near_following calendar day in_range.0 in
      let near_p = near_preceding calendar day in_range.0 in
      by_lt_z (month_end_of day) (following_day calendar day)
      (λ lt. inr (within _ (omega (arith, ints, is_p.not_after)) (omega (arith, ints, is_p.not_after, date.valid.day_to))))
      (λ le. inl (within _ (omega (arith, ints, is_f.not_before, date.valid.day_from)) le))

other_way : {A B : Type 0} → A ⊎ B → ¬ A → B
other_way (inl a) h = absurd (h a)
other_way (inr b) h = b

swapped : {A B : Type 0} → A ⊎ B → B ⊎ A
swapped (inl a) = inr a
swapped (inr b) = inl b

modified_in_month_by : (b : Bool) (day one other : ℤ) → is_in_month day one ≡ b → (¬ (IsInMonth day one) → IsInMonth day other) → IsInMonth day (if b then one else other)
modified_in_month_by true day one other e h = in_month day one e
modified_in_month_by false day one other e h = h (λ k. false≢true (sym e ∙ is_in_month-true day one k))

modified_in_month : (day one other : ℤ) → (¬ (IsInMonth day one) → IsInMonth day other) → IsInMonth day (modified_day day one other)
modified_in_month day one other h = modified_in_month_by (is_in_month day one) day one other refl h

-- the day that a convention shifts a day to, of any range
abbrev pub target : Convention → Calendar → ℤ → ℤ
target convention calendar day = shifted_day convention day (following_day calendar day) (preceding_day calendar day)

keeps_month : (convention : Convention) (calendar : Calendar) (day : ℤ) → IsDay day → IsTrue (is_modified convention) → IsInMonth day (target convention calendar day)
keeps_month Nos calendar day in_range e = absurd (false≢true e)
keeps_month Scf calendar day in_range e = absurd (false≢true e)
keeps_month Csf calendar day in_range e = absurd (false≢true e)
keeps_month Scp calendar day in_range e = absurd (false≢true e)
keeps_month Csp calendar day in_range e = absurd (false≢true e)
keeps_month Scmf calendar day in_range e = modified_in_month day _ _ (other_way (one_in_month calendar day in_range))
keeps_month Csmf calendar day in_range e = modified_in_month day _ _ (other_way (one_in_month calendar day in_range))
keeps_month Scmp calendar day in_range e = modified_in_month day _ _ (other_way (swapped (one_in_month calendar day in_range)))
keeps_month Csmp calendar day in_range e = modified_in_month day _ _ (other_way (swapped (one_in_month calendar day in_range)))

preceding_in_range : (calendar : Calendar) (day : ℤ) → IsDay day → IsDay (preceding_day calendar day)
preceding_in_range calendar day in_range =
    let is_p = is_preceding calendar day in_range.0 in
    (is_p.greatest first_day in_range.0 (first_is_business calendar), omega (arith, ints, is_p.not_after))

-- only following leads past the last day
in_range_or_following : (convention : Convention) (calendar : Calendar) (day : ℤ) → IsDay day → IsDay (target convention calendar day) ⊎ (first_day ≤ℤ target convention calendar day × ((convention ≡ Scf) ⊎ (convention ≡ Csf)))
in_range_or_following Nos calendar day in_range = inl in_range
in_range_or_following Scf calendar day in_range = inr (omega (arith, ints, (is_following calendar day in_range.0).not_before), inl refl)
in_range_or_following Csf calendar day in_range = inr (omega (arith, ints, (is_following calendar day in_range.0).not_before), inr refl)
in_range_or_following Scp calendar day in_range = inl (preceding_in_range calendar day in_range)
in_range_or_following Csp calendar day in_range = inl (preceding_in_range calendar day in_range)
in_range_or_following Scmf calendar day in_range = inl (keeps_month Scmf calendar day in_range refl).in_range
in_range_or_following Csmf calendar day in_range = inl (keeps_month Csmf calendar day in_range refl).in_range
in_range_or_following Scmp calendar day in_range = inl (keeps_month Scmp calendar day in_range refl).in_range
in_range_or_following Csmp calendar day in_range = inl (keeps_month Csmp calendar day in_range refl).in_range

-- ---- what the contract says

-- what a convention makes of a day that it shifts to another one
abbrev pub shifted_to : Convention → ℤ → ℤ → Shifted
shifted_to convention day shifted = record { day = shifted; calc = calculation_day convention day shifted }

-- the definition, by the day that is shifted to
pub shift_by : (convention : Convention) (calendar : Calendar) (day : ℤ) (shifted : Option ℤ) → shifted ≡ day_in_range (target convention calendar day) → option_map (shifted_to convention day) shifted ≡ shift_of convention calendar day
unfolding shift_of
shift_by convention calendar day shifted e = ap (option_map (shifted_to convention day)) e

module _ (convention : Convention) (calendar : Calendar) (day : ℤ) (in_range : IsDay day) where
  is_shifted : IsShifted convention calendar day (shifted_to convention day (target convention calendar day))
  is_shifted = record {
    following = following_day calendar day;
    preceding = preceding_day calendar day;
    is_following = is_following calendar day in_range.0;
    is_preceding = is_preceding calendar day in_range.0;
    day = is_shifted_day convention day _ _;
    calc = refl;
  }

  is_target : (shifted : Shifted) → IsShifted convention calendar day shifted → shifted.day ≡ target convention calendar day
  is_target shifted h =
      rw (following_only calendar day h.following in_range.0 h.is_following, preceding_only calendar day h.preceding in_range.0 h.is_preceding) at
      (shifted_only convention day h.following h.preceding shifted.day h.day)

  not_past : IsDay (target convention calendar day) → ¬ (IsShiftedPast convention calendar day)
  not_past inside past = omega (arith, ints, inside, past.past, is_target past.shifted past.is_shifted)

-- what follows for the result of a shift
pub record Laws (convention : Convention) (calendar : Calendar) (day : ℤ) (result : Option Shifted) : Type 0 where
  pub shifted : IfSome result (IsShifted convention calendar day)
  pub month : IsTrue (is_modified convention) → IfSome result (λ shifted. IsInMonth day shifted.day)
  pub none : IsNone result ↔ IsShiftedPast convention calendar day
  pub none_only : IsNone result → (convention ≡ Scf) ⊎ (convention ≡ Csf)

module _ (convention : Convention) (calendar : Calendar) (day : ℤ) (in_range : IsDay day) where
  laws_some : IsDay (target convention calendar day) → Laws convention calendar day (Some (shifted_to convention day (target convention calendar day)))
  laws_some inside = record {
    shifted = is_shifted convention calendar day in_range;
    month = λ e. keeps_month convention calendar day in_range e;
    none = (λ e. absurd (false≢true (sym e)), λ past. absurd (not_past convention calendar day in_range inside past));
    none_only = λ e. absurd (false≢true (sym e));
  }

  laws_none : ¬ (IsDay (target convention calendar day)) → Laws convention calendar day None
  laws_none outside = elim (in_range_or_following convention calendar day in_range) [
    | inl inside ↦ absurd (outside inside)
    | inr h ↦ record {
      shifted = tt;
      month = λ e. tt;
      none = (
        λ e. record {
          shifted = shifted_to convention day (target convention calendar day);
          is_shifted = is_shifted convention calendar day in_range;
          past = by_lt_z last_day (target convention calendar day) (λ lt. lt) (λ le. absurd (outside (h.0, le)));
        },
        λ past. refl,
      );
      none_only = λ e. h.1;
    }
  ]

  pub laws : (result : Option Shifted) → result ≡ shift_of convention calendar day → Laws convention calendar day result
  laws result e = elim (range_cases (target convention calendar day)) [
    | inl h ↦ rw (e ∙ sym (shift_by convention calendar day _ (sym h.1))) (laws_some h.0)
    | inr h ↦ rw (e ∙ sym (shift_by convention calendar day _ (sym h.1))) (laws_none h.0)
  ]
