-- The dates of a cycle rise from the anchor.
use Rattle.std.proofs.Common.{◌≡◌, ℕ, ◌+◌, ◌-◌, ◌*◌, ◌/◌, ◌%◌, ◌<◌, ◌≤◌, min, nat_le, ◌&&◌, Bool, true, false, ℤ, pos, ◌+ℤ◌, Option, Some, None, inl, inr, refl, ap, arith}
use Rattle.std.proofs.Math.Nat.{mul-lt-mul_of_pos_left}
use Rattle.std.proofs.lemmas.Bool.{and_parts, cases_Bool}
use Rattle.std.proofs.lemmas.Bool.Decides.{Decides-int_eq, nat_tests}
use Rattle.std.proofs.lemmas.Int.{ints}
use Rattle.std.specs.Option.{option_map}
use Rattle.std.specs.Ordering.{int_eq}
use Rattle.act_date.specs.Civil.{Civil, IsDay, IsDateOf, civil_of, month_length, month_end_of}
use Rattle.act_date.specs.Cycle.{ComesAfter, day_after, day_number_in_range, months_later, plus_cycles, span_of}
use Rattle.act_date.specs.declared.cycle.Cycle.{Cycle}
use Rattle.act_date.specs.declared.cycle.MonthRule.{MonthRule}
use Rattle.act_date.specs.declared.cycle.MonthRule.TheVariants.{Sd, Eom}
use Rattle.act_date.specs.declared.cycle.Unit.{Unit}
use Rattle.act_date.specs.declared.cycle.Unit.TheVariants as unit
use Rattle.act_date.proofs.CivilLemmas.{civil_of-is_date, in_range_some}
use Rattle.act_date.proofs.LaterCycles.{month_ends-after, plus_cycles-after}
use Rattle.act_sched.specs.Schedule.{cycle_date, is_in_months, keeps_month_ends, moved}
use Rattle.act_sched.proofs.Rising.{Rises}

-- no months lead to the day itself
no_months : (date : Civil) (day : ℤ) → IsDateOf day date → day_number_in_range (months_later date 0) ≡ Some day
no_months date day is =
    let year : (12 * date.year + (date.month - 1) + 0) / 12 ≡ date.year = omega (arith, is.valid) in
    let month : (12 * date.year + (date.month - 1) + 0) % 12 + 1 ≡ date.month = omega (arith, is.valid) in
    let kept : min date.day (month_length date.year date.month) ≡ date.day = omega (arith, is.valid) in
    let within : nat_le date.year 2299 ≡ true = grind (arith, nat_tests) in
    rw (year, month, kept, within) (ap Some is.number)

no_days : (day : ℤ) → IsDay day → day_after day (span_of unit.D 0) ≡ Some day
no_days day h = let same : day +ℤ pos 0 ≡ day = omega (arith, ints) in rw same (in_range_some day h)

no_units : (day : ℤ) (u : Unit) → IsDay day → day_after day (span_of u 0) ≡ Some day
no_units day unit.D h = no_days day h
no_units day unit.W h = no_days day h
no_units day unit.M h = no_months (civil_of day) day (civil_of-is_date day h)
no_units day unit.Q h = no_months (civil_of day) day (civil_of-is_date day h)
no_units day unit.H h = no_months (civil_of day) day (civil_of-is_date day h)
no_units day unit.Y h = no_months (civil_of day) day (civil_of-is_date day h)

no_cycles : (day : ℤ) (cycle : Cycle) → IsDay day → plus_cycles day cycle 0 ≡ Some day
unfolding plus_cycles
no_cycles day cycle h = let none : cycle.count * 0 ≡ 0 = omega arith in rw none (no_units day cycle.unit h)

-- the anchor doesn't move
moved-anchor : (rule : MonthRule) (anchor : ℤ) (u : Unit) → moved (keeps_month_ends rule anchor u) anchor ≡ anchor
moved-anchor Sd anchor u = refl
moved-anchor Eom anchor u =
    elim (cases_Bool (is_in_months u && int_eq (month_end_of anchor) anchor)) [
      | inl holds ↦ rw holds ((Decides-int_eq (month_end_of anchor) anchor).0 (and_parts (is_in_months u) (int_eq (month_end_of anchor) anchor) holds).1)
      | inr fails ↦ rw fails refl
    ]

month_ends : (day : ℤ) (u : Unit) (n m : ℕ) → IsDay day → n < m → is_in_months u ≡ true → ComesAfter (option_map month_end_of (day_after day (span_of u m))) (option_map month_end_of (day_after day (span_of u n)))
month_ends day unit.D n m h lt months = cc
month_ends day unit.W n m h lt months = cc
month_ends day unit.M n m h lt months = let is = civil_of-is_date day h in month_ends-after (civil_of day) n m is.valid is.year_from lt
month_ends day unit.Q n m h lt months = let is = civil_of-is_date day h in month_ends-after (civil_of day) (3 * n) (3 * m) is.valid is.year_from (omega arith)
month_ends day unit.H n m h lt months = let is = civil_of-is_date day h in month_ends-after (civil_of day) (6 * n) (6 * m) is.valid is.year_from (omega arith)
month_ends day unit.Y n m h lt months = let is = civil_of-is_date day h in month_ends-after (civil_of day) (12 * n) (12 * m) is.valid is.year_from (omega arith)

unmoved : (later earlier : Option ℤ) → ComesAfter later earlier → ComesAfter (option_map (moved false) later) (option_map (moved false) earlier)
unmoved None earlier after = tt
unmoved (Some later) None after = absurd after
unmoved (Some later) (Some earlier) after = after

moved-after : (to_ends : Bool) (day : ℤ) (cycle : Cycle) (k m : ℕ) → IsDay day → 1 ≤ cycle.count → (to_ends ≡ true → is_in_months cycle.unit ≡ true) → k < m → ComesAfter (option_map (moved to_ends) (plus_cycles day cycle m)) (option_map (moved to_ends) (plus_cycles day cycle k))
moved-after false day cycle k m h some months lt = unmoved _ _ (plus_cycles-after day cycle k m h lt some)
moved-after true day cycle k m h some months lt =
    unfold plus_cycles in month_ends day cycle.unit (cycle.count * k) (cycle.count * m) h (mul-lt-mul_of_pos_left lt some) (months refl)

in_months : (rule : MonthRule) (anchor : ℤ) (u : Unit) → keeps_month_ends rule anchor u ≡ true → is_in_months u ≡ true
in_months Sd anchor u is = cc
in_months Eom anchor u is = (and_parts (is_in_months u) (int_eq (month_end_of anchor) anchor) is).0

pub cycle_date-rises : (anchor : ℤ) (cycle : Cycle) (rule : MonthRule) → IsDay anchor → 1 ≤ cycle.count → Rises (cycle_date anchor cycle rule) anchor
unfolding cycle_date
cycle_date-rises anchor cycle rule h some =
    record {
      first = rw (no_cycles anchor cycle h) (ap Some (moved-anchor rule anchor cycle.unit));
      after = λ k m lt. moved-after (keeps_month_ends rule anchor cycle.unit) anchor cycle k m h some (in_months rule anchor cycle.unit) lt;
    }
