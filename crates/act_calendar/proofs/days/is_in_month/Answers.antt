use Rattle.std.proofs.Common.{◌≡◌, ℤ, ◌+ℤ◌, to_z, of_z, w32, sym, arith}
use Rattle.std.proofs.lemmas.Int.{ints}
use Rattle.act_date.specs.Civil.{month_end_of}
use Rattle.act_calendar.proofs.Months.{test_before, test_from}
use Rattle.act_calendar.proofs.days.is_in_month.Goals as goal

-- what the code's `z` is
abbrev kept : ℤ → ℤ
kept z = to_z w32 (of_z w32 z)

pub returns-then-from-days-ge1 : goal.returns-then-from-days-ge1
returns-then-from-days-ge1 c =
    let later : kept (kept c.number.result +ℤ kept c.from-days.result) ≡ c.args.day +ℤ c.args.days = omega (arith, ints) in
    let last : kept c.number-then-from-days-ge1.result ≡ month_end_of c.args.day = omega (arith, ints) in
    rw (later, last) (sym (test_from c.args.day c.civil-day_of_month.ensures.date c.args.days (omega (arith, ints))))

pub returns-else-from-days-ge1 : goal.returns-else-from-days-ge1
returns-else-from-days-ge1 c =
    let test = test_before c.args.day c.civil-day_of_month.ensures.date c.args.days (omega (arith, ints)) in
    grind (arith, ints)
