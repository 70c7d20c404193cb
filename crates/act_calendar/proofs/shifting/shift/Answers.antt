use Rattle.std.proofs.Common.{◌≡◌, None, Some, ℤ, ◌+ℤ◌, to_z, of_z, w32, sym, ap, ◌∙◌, arith}
use Rattle.std.proofs.lemmas.Int.{ints}
use Rattle.act_date.specs.Civil.{day_in_range}
use Rattle.act_calendar.proofs.Shifts.{laws, shift_by, target}
use Rattle.act_calendar.proofs.shifting.shift.Goals as goal

-- what the code's `z` is
abbrev kept : ℤ → ℤ
kept z = to_z w32 (of_z w32 z)

pub returns-in_err-shifted-clause-value : goal.returns-in_err-shifted-clause-value
returns-in_err-shifted-clause-value c =
    let day : kept (kept c.number.result +ℤ kept c.from.result) ≡ target c.args.convention c.args.calendar c.args.day = omega (arith, ints) in
    c.from_residual.ensures ∙ shift_by c.args.convention c.args.calendar c.args.day None (sym c.in_err-shifted.was ∙ c.day_at.ensures ∙ ap day_in_range day)

pub returns-in_err-shifted-clause-none : goal.returns-in_err-shifted-clause-none
returns-in_err-shifted-clause-none c =
    (laws c.args.convention c.args.calendar c.args.day (rw c.number.ensures.value at c.number.ensures.in_range) _ (returns-in_err-shifted-clause-value c)).none

pub returns-in_err-shifted-clause-none_only : goal.returns-in_err-shifted-clause-none_only
returns-in_err-shifted-clause-none_only c =
    (laws c.args.convention c.args.calendar c.args.day (rw c.number.ensures.value at c.number.ensures.in_range) _ (returns-in_err-shifted-clause-value c)).none_only

pub returns-clause-value : goal.returns-clause-value
returns-clause-value c =
    let day : kept (kept c.number.result +ℤ kept c.from.result) ≡ target c.args.convention c.args.calendar c.args.day = omega (arith, ints) in
    rw c.calculation_day.ensures (shift_by c.args.convention c.args.calendar c.args.day (Some c.in_ok-shifted.shifted) (sym c.in_ok-shifted.was ∙ c.day_at.ensures ∙ ap day_in_range day))

pub returns-clause-shifted : goal.returns-clause-shifted
returns-clause-shifted c =
    (laws c.args.convention c.args.calendar c.args.day (rw c.number.ensures.value at c.number.ensures.in_range) _ (returns-clause-value c)).shifted

pub returns-clause-month : goal.returns-clause-month
returns-clause-month c =
    (laws c.args.convention c.args.calendar c.args.day (rw c.number.ensures.value at c.number.ensures.in_range) _ (returns-clause-value c)).month

pub returns-clause-none : goal.returns-clause-none
returns-clause-none c =
    (laws c.args.convention c.args.calendar c.args.day (rw c.number.ensures.value at c.number.ensures.in_range) _ (returns-clause-value c)).none
