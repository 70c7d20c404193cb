-- The business days next to a day.
use Rattle.std.proofs.Common.{◌≡◌, ℕ, ◌+◌, ◌-◌, ◌%◌, ◌≤◌, nat_lt, Bool, true, false, if◌then◌else◌, ℤ, pos, negsuc, ◌+ℤ◌, ◌-ℤ◌, ◌≤ℤ◌, unsigned_abs, refl, arith}
use Rattle.std.proofs.lemmas.Bool.Decides.{nat_tests}
use Rattle.std.proofs.lemmas.Int.{by_lt_z, ints}
use Rattle.act_date.specs.declared.calendar.Calendar.{Calendar}
use Rattle.act_date.specs.declared.calendar.Calendar.TheVariants.{Nc, Mf}
use Rattle.act_date.specs.Civil.{first_day, weekday_of, is_business}
use Rattle.act_calendar.specs.Shift.{IsFollowing, IsPreceding, following_day, preceding_day}

-- how many days after 1900-01-01 a day is
abbrev place : ℤ → ℕ
place day = unsigned_abs (day +ℤ pos 25567)

not_negative : (z : ℤ) → pos 0 ≤ℤ z → z ≡ pos (unsigned_abs z)
not_negative (pos n) h = refl
not_negative (negsuc n) h = absurd (omega (arith, ints))

placed : (day : ℤ) → first_day ≤ℤ day → day +ℤ pos 25567 ≡ pos (place day)
placed day from = not_negative (day +ℤ pos 25567) (omega (arith, ints))

-- a Saturday or a Sunday
weekend : (n : ℕ) → nat_lt (n % 7 + 1) 6 ≡ false → 5 ≤ n % 7
weekend n e = grind (arith, nat_tests)

-- no weekend
weekday : (n : ℕ) → nat_lt (n % 7 + 1) 6 ≡ true → n % 7 ≤ 4
weekday n e = grind (arith, nat_tests)

is_weekday : (n : ℕ) → n % 7 ≤ 4 → nat_lt (n % 7 + 1) 6 ≡ true
is_weekday n h = grind (arith, nat_tests)

following_weekday : (day : ℤ) → first_day ≤ℤ day → (b : Bool) → is_business Mf day ≡ b → IsFollowing Mf day (if b then day else day +ℤ pos (8 - weekday_of day))
following_weekday day from true e = record { not_before = omega (arith, ints); business = e; least = λ d later _. later }
following_weekday day from false e =
    let n = place day in
    let f = day +ℤ pos (8 - (n % 7 + 1)) in
    let late = weekend n e in
    let at = placed day from in
    let at_f = placed f (omega (arith, ints)) in
    record {
      not_before = omega (arith, ints);
      business = is_weekday (place f) (omega (arith, ints));
      least = λ d later is.
          by_lt_z d f
          (λ lt. absurd (omega (arith, ints, placed d (omega (arith, ints)), weekday (place d) is)))
          (λ ge. ge);
    }

preceding_weekday : (day : ℤ) → first_day ≤ℤ day → (b : Bool) → is_business Mf day ≡ b → IsPreceding Mf day (if b then day else day -ℤ pos (weekday_of day - 5))
preceding_weekday day from true e = record { not_after = omega (arith, ints); business = e; greatest = λ d earlier _. earlier }
preceding_weekday day from false e =
    let n = place day in
    let p = day -ℤ pos (n % 7 + 1 - 5) in
    let late = weekend n e in
    let at = placed day from in
    let at_p = placed p (omega (arith, ints)) in
    record {
      not_after = omega (arith, ints);
      business = is_weekday (place p) (omega (arith, ints));
      greatest = λ d earlier is.
          by_lt_z p d
          (λ lt. absurd (omega (arith, ints, placed d (omega (arith, ints)), weekday (place d) is)))
          (λ ge. ge);
    }

pub is_following : (calendar : Calendar) (day : ℤ) → first_day ≤ℤ day → IsFollowing calendar day (following_day calendar day)
unfolding following_day
is_following Nc day from = record { not_before = omega (arith, ints); business = refl; least = λ d later _. later }
is_following Mf day from = following_weekday day from (is_business Mf day) refl

pub is_preceding : (calendar : Calendar) (day : ℤ) → first_day ≤ℤ day → IsPreceding calendar day (preceding_day calendar day)
unfolding preceding_day
is_preceding Nc day from = record { not_after = omega (arith, ints); business = refl; greatest = λ d earlier _. earlier }
is_preceding Mf day from = preceding_weekday day from (is_business Mf day) refl
