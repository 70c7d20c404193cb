-- Counts of days.
use Rattle.std.proofs.Common.{◌≡◌, ℕ, zero, suc, ◌+◌, ◌*◌, ◌/◌, ◌%◌, min, Bool, true, false, not, nat_lt, if◌then◌else◌, ℤ, pos, negsuc, ◌+ℤ◌, ◌-ℤ◌, ◌<ℤ◌, ◌≤ℤ◌, unsigned_abs, refl, arith}
use Rattle.std.proofs.lemmas.Bool.Decides.{nat_tests}
use Rattle.jiff_core.proofs.SignedLemmas.{signed_arith, one_part}
use Rattle.act_date.specs.declared.calendar.Calendar.TheVariants.{Nc, Mf}
use Rattle.act_date.specs.Civil.{is_business}
use Rattle.act_date.specs.DayCount.{count_days}

-- m days and then n more
pub count_days-add : (test : ℤ → Bool) (s : ℤ) (m n : ℕ) → count_days test s (m + n) ≡ count_days test s m + count_days test (s +ℤ pos m) n
unfolding count_days
count_days-add test s m zero = let z : m + 0 ≡ m = omega arith in rw z (omega arith)
count_days-add test s m (suc n) =
    let z : m + suc n ≡ suc (m + n) = omega arith in
    let place : s +ℤ pos (m + n) ≡ s +ℤ pos m +ℤ pos n = omega (arith, signed_arith) in
    rw (z, place) (omega (arith, count_days-add test s m n))

-- the days from s to t, where both are counted from 1900-01-01
pub count_days-between : (test : ℤ → Bool) (s t : ℤ) → negsuc 25566 ≤ℤ s → s <ℤ t → count_days test (negsuc 25566) (unsigned_abs (t +ℤ pos 25567)) ≡ count_days test (negsuc 25566) (unsigned_abs (s +ℤ pos 25567)) + count_days test s (unsigned_abs (t -ℤ s))
count_days-between test s t from lt =
    let m = unsigned_abs (s +ℤ pos 25567) in
    let n = unsigned_abs (t -ℤ s) in
    let all : unsigned_abs (t +ℤ pos 25567) ≡ m + n = omega (arith, signed_arith, one_part (t +ℤ pos 25567), one_part (s +ℤ pos 25567), one_part (t -ℤ s)) in
    let start : negsuc 25566 +ℤ pos m ≡ s = omega (arith, signed_arith, one_part (s +ℤ pos 25567)) in
    rw all (rw start at (count_days-add test (negsuc 25566) m n))

one_of_two : (b : Bool) (x y n : ℕ) → x + y ≡ n → x + (if not b then 1 else 0) + (y + (if b then 1 else 0)) ≡ suc n
one_of_two true x y n e = omega arith
one_of_two false x y n e = omega arith

-- each day passes a test or its opposite
pub count_days-not : (test : ℤ → Bool) (s : ℤ) (n : ℕ) → count_days (λ day. not (test day)) s n + count_days test s n ≡ n
unfolding count_days
count_days-not test s zero = refl
count_days-not test s (suc n) = one_of_two (test (s +ℤ pos n)) _ _ n (count_days-not test s n)

-- all days pass where each does
pub count_days-all : (s : ℤ) (n : ℕ) → count_days (is_business Nc) s n ≡ n
unfolding count_days
count_days-all s zero = refl
count_days-all s (suc n) = omega (arith, count_days-all s n)

one_more_weekday : (n : ℕ) → 5 * (n / 7) + min (n % 7) 5 + (if nat_lt (n % 7 + 1) 6 then 1 else 0) ≡ 5 * (suc n / 7) + min (suc n % 7) 5
one_more_weekday n = grind (arith, nat_tests)

-- of seven days in a row from a Monday on, the first five are Monday to Friday
pub count_days-weekdays : (n : ℕ) → count_days (is_business Mf) (negsuc 25566) n ≡ 5 * (n / 7) + min (n % 7) 5
unfolding count_days
count_days-weekdays zero = refl
count_days-weekdays (suc n) =
    let place : unsigned_abs (negsuc 25566 +ℤ pos n +ℤ pos 25567) ≡ n = omega (arith, signed_arith, one_part (negsuc 25566 +ℤ pos n +ℤ pos 25567)) in
    rw (place, count_days-weekdays n) (one_more_weekday n)
