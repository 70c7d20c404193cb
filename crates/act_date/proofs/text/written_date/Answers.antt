use Rattle.std.proofs.Common.{◌≡◌, ◌≤◌, ◌↔◌, IsOk, ℕ, pos, to_z, w16, w8, ap, arith}
use Rattle.std.proofs.lemmas.Int.{ints}
use Rattle.jiff_core.specs.Calendar.{IsDate}
use Rattle.act_date.specs.Text.{is_date_form, written_date}
use Rattle.act_date.proofs.DateTexts.{some_if, made_date}
use Rattle.act_date.proofs.text.written_date.Goals as goal

pub returns : goal.returns
returns c =
    let text = c.args.text.now in
    let parts = some_if (is_date_form text) _ _ c.in_ok-year.ensures.value in
    let year : to_z w16 c.in_ok-year.year ≡ pos (written_date text).year = omega (arith, ints, ap (λ (p : ℕ × ℕ × ℕ). p.0) parts.1, c.in_ok-year.ensures.bound) in
    let month : to_z w8 c.in_ok-year.month ≡ pos (written_date text).month = omega (arith, ints, ap (λ (p : ℕ × ℕ × ℕ). p.1) parts.1, c.in_ok-year.ensures.bound) in
    let day : to_z w8 c.in_ok-year.day ≡ pos (written_date text).day = omega (arith, ints, ap (λ (p : ℕ × ℕ × ℕ). p.2) parts.1, c.in_ok-year.ensures.bound) in
    let low : (written_date text).year ≤ 9999 = omega (arith, ints, ap (λ (p : ℕ × ℕ × ℕ). p.0) parts.1, c.in_ok-year.ensures.bound) in
    let succeeds : IsOk c.new.result ↔ IsDate (to_z w16 c.in_ok-year.year) (to_z w8 c.in_ok-year.month) (to_z w8 c.in_ok-year.day) = c.new.ensures.succeeds in
    rw c.ok.ensures.value (made_date text c.new.result parts.0 low (rw (year, month, day) at succeeds) (rw (year, month, day) at c.new.ensures.value))
