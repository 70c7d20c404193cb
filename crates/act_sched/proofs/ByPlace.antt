-- The dates of a schedule by their places.
use Rattle.std.proofs.Common.{◌≡◌, ℕ, zero, suc, ◌+◌, ◌-◌, ◌<◌, ◌≤◌, max, ℤ, pos, ◌<ℤ◌, ◌≤ℤ◌, List, [], ◌∷◌, ◌++◌, length, get_or, take, Option, Some, None, true, false, inl, inr, refl, sym, ap, ◌∙◌, arith, length-append}
use Rattle.std.proofs.lemmas.Bool.{cases_Bool, cases_lt}
use Rattle.std.proofs.lemmas.Int.{ints}
use Rattle.std.proofs.lemmas.List.{get_or-take, length-take}
use Rattle.std.proofs.lemmas.Option.{get_or_from_slice_get, none-some, slice_get_past, slice_get_within, slice_get-get_or}
use Rattle.std.specs.List.{slice_get}
use Rattle.std.specs.Prelude.{IsSomeAnd, int_lt, is_some}
use Rattle.act_date.specs.Civil.{IsDay}
use Rattle.act_date.specs.declared.cycle.Cycle.{Cycle}
use Rattle.act_date.specs.declared.cycle.MonthRule.{MonthRule}
use Rattle.act_date.specs.declared.cycle.Stub.TheVariants.{Long}
use Rattle.act_sched.specs.Schedule.{cycle_date, dates_before, earlier_dates, if_before, is_long_stub}
use Rattle.act_sched.proofs.CycleDates.{cycle_date-rises}
use Rattle.act_sched.proofs.DatesBefore.{dates_before-are, if_before-late, late}
use Rattle.act_sched.proofs.Members.{stub_from, stub_parts}

-- ---- the dates of the cycle before the end

early : (end : ℤ) (day : Option ℤ) (x : ℤ) → day ≡ Some x → x <ℤ end → if_before end day ≡ Some x
early end day x is lt =
    let before_end : int_lt x end ≡ true = grind (arith, ints) in
    rw (is, before_end) refl

pub date_before_at : (anchor : ℤ) (cycle : Cycle) (end : ℤ) (rule : MonthRule) → IsDay anchor → 1 ≤ cycle.count → (k : ℕ) → slice_get (dates_before anchor cycle end rule) k ≡ if_before end (cycle_date anchor cycle rule k)
date_before_at anchor cycle end rule h some k =
    let xs = dates_before anchor cycle end rule in
    let day = cycle_date anchor cycle rule k in
    let all = dates_before-are anchor cycle end rule h some in
    elim (cases_lt k (length xs)) [
      | inl lt ↦ let at = all.at k end lt in slice_get-get_or xs k end lt ∙ sym (early end day (get_or xs k end) at.0 at.1)
      | inr le ↦ slice_get_past xs k le ∙ sym (if_before-late end day (λ x is. late (cycle_date-rises anchor cycle rule h some) all k x le is))
    ]

-- ---- those that a long stub leaves in

module _ (anchor : ℤ) (cycle : Cycle) (end : ℤ) (rule : MonthRule) (h : IsDay anchor) (some : 1 ≤ cycle.count) where
  -- a date stays where the next isn't after the end
  stays_by : (k : ℕ) (d : ℤ) (after : Option ℤ) → slice_get (dates_before anchor cycle end rule) k ≡ Some d → cycle_date anchor cycle rule (k + 1) ≡ after → IsSomeAnd after (λ next. next ≤ℤ end) →
      slice_get (earlier_dates anchor (Some cycle) end rule) k ≡ Some d
  stays_by k d None is after le = absurd le
  stays_by k d (Some next) is after le =
      let xs = dates_before anchor cycle end rule in
      let all = dates_before-are anchor cycle end rule h some in
      let lt = slice_get_within xs k d is in
      elim (cases_Bool (is_long_stub cycle.stub (cycle_date anchor cycle rule (length xs)) end)) [
        | inr fails ↦ rw fails is
        | inl holds ↦
            let other : length xs ≡ k + 1 → ⊥ = λ last.
            let from = all.next next (rw last after) in
            let same : next ≡ end = omega (arith, ints) in
            (stub_parts cycle.stub _ end holds).1 (rw (last, ← same) after) in
            let m = max 1 (length xs - 1) in
            let low : k < m = omega arith in
            rw holds (slice_get-get_or (take m xs) k d (omega (arith, length-take m xs)) ∙ ap Some (get_or-take m xs k d low ∙ get_or_from_slice_get xs k d d is))
      ]

  pub stays : (k : ℕ) (d : ℤ) → slice_get (dates_before anchor cycle end rule) k ≡ Some d → IsSomeAnd (cycle_date anchor cycle rule (k + 1)) (λ next. next ≤ℤ end) →
      slice_get (earlier_dates anchor (Some cycle) end rule) k ≡ Some d
  stays k d is le = stays_by k d (cycle_date anchor cycle rule (k + 1)) is refl le

  -- a long stub leaves out one where the next is after the end, or past 2299
  pub left_out : (k : ℕ) (d : ℤ) → slice_get (dates_before anchor cycle end rule) k ≡ Some d → 0 < k → cycle.stub ≡ Long → ¬ (IsSomeAnd (cycle_date anchor cycle rule (k + 1)) (λ next. next ≤ℤ end)) →
      slice_get (earlier_dates anchor (Some cycle) end rule) k ≡ None
  left_out k d is more long after =
      let xs = dates_before anchor cycle end rule in
      let all = dates_before-are anchor cycle end rule h some in
      let lt = slice_get_within xs k d is in
      let last : length xs ≡ k + 1 = elim (cases_lt (k + 1) (length xs)) [
        | inl lt₂ ↦ let at = all.at (k + 1) end lt₂ in absurd (after (rw at.0 (omega (arith, ints, at.1))))
        | inr le ↦ omega arith
      ] in
      let holds : is_long_stub cycle.stub (cycle_date anchor cycle rule (length xs)) end ≡ true =
      stub_from cycle.stub _ end long (λ here. after (rw (rw last at here) (omega (arith, ints)))) in
      rw holds (slice_get_past (take (max 1 (length xs - 1)) xs) k (omega (arith, length-take (max 1 (length xs - 1)) xs)))

-- ---- places in lists

-- a list with one more
pub inside : (xs : List ℤ) (e : ℤ) (k : ℕ) (d : ℤ) → slice_get xs k ≡ Some d → slice_get (xs ++ e ∷ []) k ≡ Some d
inside [] e k d is = absurd (none-some d is)
inside (x ∷ xs) e zero d is = is
inside (x ∷ xs) e (suc k) d is = inside xs e k d is

pub behind : (xs : List ℤ) (e : ℤ) (k : ℕ) → length xs ≡ k → slice_get (xs ++ e ∷ []) k ≡ Some e
behind [] e zero is = refl
behind [] e (suc k) is = absurd (omega arith)
behind (x ∷ xs) e zero is = absurd (omega arith)
behind (x ∷ xs) e (suc k) is = behind xs e k (omega arith)

pub past_one_more : (xs : List ℤ) (e : ℤ) (k : ℕ) → length xs < k → slice_get (xs ++ e ∷ []) k ≡ None
past_one_more xs e k lt = slice_get_past (xs ++ e ∷ []) k (omega (arith, length-append xs (e ∷ [])))

pub outside : (xs : List ℤ) (k : ℕ) → slice_get xs k ≡ None → length xs ≤ k
outside xs k none =
    elim (cases_lt k (length xs)) [
      | inl lt ↦ absurd (none-some (get_or xs k (pos 0)) (sym none ∙ slice_get-get_or xs k (pos 0) lt))
      | inr le ↦ le
    ]

pub place_of_some : (xs : List ℤ) (k : ℕ) → is_some (slice_get xs k) ≡ true → k < length xs
place_of_some xs k some =
    elim (cases_lt k (length xs)) [ inl lt ↦ lt | inr le ↦ let none : false ≡ true = rw (slice_get_past xs k le) at some in cc ]

pub place_of_none : (xs : List ℤ) (k : ℕ) → is_some (slice_get xs k) ≡ false → length xs ≤ k
place_of_none xs k none =
    elim (cases_lt k (length xs)) [ inl lt ↦ let some : true ≡ false = rw (slice_get-get_or xs k (pos 0) lt) at none in cc | inr le ↦ le ]
