-- The days of the script.
use Rattle.std.proofs.Common.{◌≡◌, ℕ, ◌*◌, ◌<◌, pos, ◌+ℤ◌, Some, Ok, refl, arith, codes}
use Rattle.std.proofs.lemmas.Int.{ints}
use Rattle.std.proofs.lemmas.Bool.Decides.{nat_tests}
use Rattle.act_date.specs.Civil.{day_in_range, day_number, days_of_months, days_of_years}
use Rattle.act_date.specs.Cycle.{plus_cycles}
use Rattle.act_date.specs.Text.{day_of, has_digits_behind, two_digits}
use Rattle.act_date.specs.declared.cycle.Stub.TheVariants.{Short}
use Rattle.act_date.specs.declared.cycle.Unit.TheVariants.{D}
use Rattle.act_gen.specs.Script.{start}

start_number : start ≡ pos 18262
unfolding day_number days_of_years days_of_months
start_number = refl

pub start_text : day_of (codes "2020-01-01") ≡ Ok start
unfolding day_of has_digits_behind two_digits
start_text = refl

later_days : (days : ℕ) → days < 3650 → day_in_range (pos 18262 +ℤ pos (1 * days)) ≡ Some (pos 18262 +ℤ pos days)
later_days days h = grind (arith, ints, nat_tests)

pub later_day : (days : ℕ) → days < 3650 → plus_cycles start (record { count = 1; unit = D; stub = Short }) days ≡ Some (start +ℤ pos days)
unfolding plus_cycles
later_day days h = rw start_number (later_days days h)
