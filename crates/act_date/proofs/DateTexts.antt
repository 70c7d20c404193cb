-- Dates that texts write.
use Rattle.std.proofs.Common.{◌≡◌, ◌↔◌, ℕ, ◌≤◌, Bool, true, false, if◌then◌else◌, ℤ, pos, List, Some, None, Result, Ok, Err, MatchOption, IsOk, IfOk, refl, arith}
use Rattle.std.proofs.lemmas.Bool.{false≢true}
use Rattle.std.proofs.lemmas.Bool.Decides.{nat_tests}
use Rattle.std.proofs.lemmas.Int.{ints}
use Rattle.std.specs.Result.{result_ok}
use Rattle.jiff_core.specs.declared.civil.date.Date.{Date}
use Rattle.jiff_core.specs.declared.error.Error.{Error}
use Rattle.jiff_core.specs.Calendar.{IsDate, IsCivilDate, days_from_civil}
use Rattle.jiff_core.specs.Date.{epoch_day}
use Rattle.jiff_core.proofs.DateLemmas.{civil}
use Rattle.std.specs.Option.{ok_or}
use Rattle.act_date.specs.declared.day.DateFault.{DateFault}
use Rattle.act_date.specs.declared.day.DateFault.TheVariants.{NotDate, TimeOfDay, DateRange}
use Rattle.act_date.specs.Civil.{Civil, day_in_range}
use Rattle.act_date.specs.JiffDate.{IsSameDate}
use Rattle.act_date.proofs.CivilLemmas.{day_in_range-date}
use Rattle.act_date.specs.Text.{has_date, has_time_form, is_midnight, day_of, is_date_form, is_civil, written_date}

-- what an optional value says of its condition
pub some_if : {A : Type 0} (b : Bool) (x y : A) → Some x ≡ (if b then Some y else None) → (b ≡ true) × (x ≡ y)
some_if true x y e = (refl, cc)
some_if false x y e = cc

pub none_if : {A : Type 0} (b : Bool) (y : A) → None ≡ (if b then Some y else None) → b ≡ false
none_if true y e = cc
none_if false y e = refl

is_civil-date : (date : Civil) → date.year ≤ 9999 → is_civil date ≡ true → IsDate (pos date.year) (pos date.month) (pos date.day)
is_civil-date date h e = grind (arith, ints, nat_tests)

date-is_civil : (date : Civil) → IsDate (pos date.year) (pos date.month) (pos date.day) → is_civil date ≡ true
date-is_civil date h = grind (arith, ints, nat_tests)

not_true : (b : Bool) → (b ≡ true → ⊥) → b ≡ false
not_true true h = absurd (h refl)
not_true false h = refl

-- jiff makes the date that a text writes, exactly where there is one
pub made_date : (text : List ℕ) (made : Result Date Error) → is_date_form text ≡ true → (written_date text).year ≤ 9999 → (IsOk made ↔ IsDate (pos (written_date text).year) (pos (written_date text).month) (pos (written_date text).day)) → IfOk made (λ d. (d.year ≡ pos (written_date text).year) × (pos d.month ≡ pos (written_date text).month) × (pos d.day ≡ pos (written_date text).day)) → MatchOption (result_ok made) (has_date text ≡ false) (λ d. (has_date text ≡ true) × IsSameDate (written_date text) d)
made_date text (Ok d) form year succeeds value =
    (rw form (date-is_civil (written_date text) (succeeds.0 refl)), record { year = value.0; month = cc; day = cc })
made_date text (Err e) form year succeeds value =
    rw form (not_true _ (λ civil. false≢true (succeeds.1 (is_civil-date (written_date text) year civil))))

-- what a text has, by what the code found: the first fault, or the day
pub no_time : (text : List ℕ) → has_time_form text ≡ false → Err NotDate ≡ day_of text
unfolding day_of
no_time text e = rw e refl

pub no_date : (text : List ℕ) → has_time_form text ≡ true → has_date text ≡ false → Err NotDate ≡ day_of text
unfolding day_of
no_date text t e = rw (t, e) refl

pub other_time : (text : List ℕ) → has_time_form text ≡ true → has_date text ≡ true → is_midnight text ≡ false → Err TimeOfDay ≡ day_of text
unfolding day_of
other_time text t e m = rw (t, e, m) refl

ok_or_if : (b : Bool) (x : ℤ) (e : DateFault) → ok_or (if b then Some x else None) e ≡ (if b then Ok x else Err e)
ok_or_if true x e = refl
ok_or_if false x e = refl

pub at_midnight : (text : List ℕ) (d : Date) → has_time_form text ≡ true → has_date text ≡ true → is_midnight text ≡ true → IsSameDate (written_date text) d → ok_or (day_in_range (epoch_day d)) DateRange ≡ day_of text
unfolding day_of
at_midnight text d t e m same =
    let date = written_date text in
    let is : IsCivilDate (pos date.year) date.month date.day = rw (same.year, same.month, same.day) at (civil d) in
    let number : epoch_day d ≡ days_from_civil (pos date.year) date.month date.day = rw (same.year, same.month, same.day) refl in
    rw (t, e, m, number, day_in_range-date date.year date.month date.day is) (ok_or_if _ _ _)
