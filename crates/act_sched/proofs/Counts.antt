-- How many dates a schedule has: no more than there are days, and one more than without its end.
use Rattle.std.proofs.Common.{◌≡◌, ℕ, suc, ◌-◌, ◌<◌, ◌≤◌, max, ℤ, pos, ◌+ℤ◌, ◌<ℤ◌, ◌≤ℤ◌, List, [], ◌∷◌, length, get_or, take, Option, Some, None, Bool, true, false, not, if◌then◌else◌, inl, inr, refl, ap, arith, length-append}
use Rattle.std.proofs.lemmas.Bool.{cases_Bool, cases_lt}
use Rattle.std.proofs.lemmas.Bool.Decides.{Decides-int_eq}
use Rattle.std.proofs.lemmas.Int.{ints}
use Rattle.std.proofs.lemmas.List.{length-take}
use Rattle.std.proofs.lemmas.List.Elements.{filter-append}
use Rattle.std.specs.Option.{ForSome}
use Rattle.std.specs.Ordering.{int_eq}
use Rattle.std.specs.Prelude.{int_le, int_lt}
use Rattle.act_date.specs.Civil.{IsDay}
use Rattle.act_date.specs.declared.cycle.Cycle.{Cycle}
use Rattle.act_date.specs.declared.cycle.MonthRule.{MonthRule}
use Rattle.act_sched.specs.Schedule.{LeadsOn, cycle_date, dates_before, dates_but_for, earlier_dates, is_long_stub, schedule_dates}
use Rattle.act_sched.proofs.CycleDates.{cycle_date-rises}
use Rattle.act_sched.proofs.DatesBefore.{AreBefore, dates_before-are}
use Rattle.act_sched.proofs.Members.{are_earlier}
use Rattle.act_sched.proofs.Rising.{Rises, far}

-- a rising sequence from the anchor has no more days before the end than there are from the anchor to it
before_count : (days : ℕ → Option ℤ) (anchor end : ℤ) (xs : List ℤ) → Rises days anchor → AreBefore days end xs → anchor ≤ℤ end → (anchor +ℤ pos (length xs)) ≤ℤ end
before_count days anchor end xs up all le =
    elim (cases_lt 0 (length xs)) [
      | inl some ↦
          let last = all.at (length xs - 1) end (omega arith) in
          let low = far up (length xs - 1) _ last.0 in
          omega (arith, ints, last.1)
      | inr none ↦ omega (arith, ints)
    ]

stub_count : (long : Bool) (xs : List ℤ) → length (if long then take (max 1 (length xs - 1)) xs else xs) ≤ length xs
stub_count true xs = omega (arith, length-take (max 1 (length xs - 1)) xs)
stub_count false xs = omega arith

one_count : (early : Bool) (anchor : ℤ) → length (if early then anchor ∷ [] else []) ≤ 1
one_count true anchor = omega arith
one_count false anchor = omega arith

-- days lie within 146,097 days
earlier_count : (anchor : ℤ) (cycle : Option Cycle) (end : ℤ) (rule : MonthRule) → IsDay anchor → IsDay end → LeadsOn cycle → anchor ≤ℤ end →
    length (earlier_dates anchor cycle end rule) ≤ 146096
earlier_count anchor None end rule first last some le = omega (arith, one_count (int_lt anchor end) anchor)
earlier_count anchor (Some cycle) end rule first last some le =
    let xs = dates_before anchor cycle end rule in
    let count = before_count (cycle_date anchor cycle rule) anchor end xs (cycle_date-rises anchor cycle rule first (some cycle refl)) (dates_before-are anchor cycle end rule first (some cycle refl)) le in
    omega (arith, ints, stub_count (is_long_stub cycle.stub (cycle_date anchor cycle rule (length xs)) end) xs)

pub schedule_count : (anchor : Option ℤ) (cycle : Option Cycle) (end : ℤ) (rule : MonthRule) → ForSome anchor IsDay → IsDay end → LeadsOn cycle →
    length (schedule_dates anchor cycle end rule) ≤ 146097
unfolding schedule_dates
schedule_count None cycle end rule first last some = omega arith
schedule_count (Some anchor) cycle end rule first last some =
    elim (cases_Bool (int_le anchor end)) [
      | inl is ↦
          let le : anchor ≤ℤ end = omega (arith, ints) in
          let count = earlier_count anchor cycle end rule (first anchor refl) last some le in
          rw is (omega (arith, length-append (earlier_dates anchor cycle end rule) (end ∷ [])))
      | inr late ↦ rw late (omega arith)
    ]

-- ---- but for the end

kept_all : (end : ℤ) (xs : List ℤ) → ((i : ℕ) (x : ℤ) → i < length xs → get_or xs i x <ℤ end) → dates_but_for end xs ≡ xs
kept_all end [] early = refl
kept_all end (x ∷ xs) early =
    let first : x <ℤ end = early 0 end (omega arith) in
    let other : int_eq x end ≡ false = grind (arith, ints) in
    rw other (ap (λ ys. x ∷ ys) (kept_all end xs (λ i y lt. early (suc i) y (omega arith))))

-- the end comes once, as the last date
pub length-but_for : (anchor : Option ℤ) (cycle : Option Cycle) (end : ℤ) (rule : MonthRule) → ForSome anchor IsDay → LeadsOn cycle →
    length (dates_but_for end (schedule_dates anchor cycle end rule)) ≡ length (schedule_dates anchor cycle end rule) - 1
unfolding schedule_dates
length-but_for None cycle end rule day some = refl
length-but_for (Some anchor) cycle end rule day some =
    elim (cases_Bool (int_le anchor end)) [
      | inl is ↦
          let le : anchor ≤ℤ end = omega (arith, ints) in
          let xs = earlier_dates anchor cycle end rule in
          let all = are_earlier anchor cycle end rule (day anchor refl) some le in
          let same : int_eq end end ≡ true = (Decides-int_eq end end).1 refl in
          rw (is, filter-append (λ d. not (int_eq d end)) xs (end ∷ []), same, kept_all end xs all.early)
          (omega (arith, length-append xs (end ∷ []), length-append {A = ℤ} xs []))
      | inr late ↦ rw late refl
    ]
