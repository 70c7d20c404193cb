use Rattle.act_engine.proofs.Texts.{part-behind, part-first, then-text, writes-behind, writes-first}
use Rattle.act_top.proofs.totals.write_totals.Goals as goal

pub returns-in_err-write_number : goal.returns-in_err-write_number
returns-in_err-write_number g c =
    let stop = c.in_err-write_number.field-0.0 in
    writes-first c.from_residual-in_err-write_number.result _ _ _ _ _ c.from_residual-in_err-write_number.ensures.1
    (part-first stop _ _ _ _ (part-first stop _ _ _ _ (part-first stop _ _ _ _ (rw c.from.ensures at c.in_err-write_number.ensures))))

pub returns-in_err-write_number-2 : goal.returns-in_err-write_number-2
returns-in_err-write_number-2 g c =
    let stop = c.in_err-write_number-2.field-0.0 in
    writes-first c.from_residual-in_err-write_number-2.result _ _ _ _ _ c.from_residual-in_err-write_number-2.ensures.1
    (part-first stop _ _ _ _ (part-first stop _ _ _ _ (part-behind stop _ _ _ _ _ (rw c.from.ensures at c.in_ok-write_number.ensures) (rw c.from-2.ensures at c.in_err-write_number-2.ensures))))

pub returns-in_err-write_number-3 : goal.returns-in_err-write_number-3
returns-in_err-write_number-3 g c =
    let stop = c.in_err-write_number-3.field-0.0 in
    let two = then-text _ _ _ _ _ (rw c.from.ensures at c.in_ok-write_number.ensures) (rw c.from-2.ensures at c.in_ok-write_number-2.ensures) in
    writes-first c.from_residual-in_err-write_number-3.result _ _ _ _ _ c.from_residual-in_err-write_number-3.ensures.1
    (part-first stop _ _ _ _ (part-behind stop _ _ _ _ _ two (rw c.answer_count.ensures at c.in_err-write_number-3.ensures)))

pub returns-in_err-write_number-4 : goal.returns-in_err-write_number-4
returns-in_err-write_number-4 g c =
    let stop = c.in_err-write_number-4.field-0.0 in
    let two = then-text _ _ _ _ _ (rw c.from.ensures at c.in_ok-write_number.ensures) (rw c.from-2.ensures at c.in_ok-write_number-2.ensures) in
    let three = then-text _ _ _ _ _ two (rw c.answer_count.ensures at c.in_ok-write_number-3.ensures) in
    writes-first c.from_residual-in_err-write_number-4.result _ _ _ _ _ c.from_residual-in_err-write_number-4.ensures.1
    (part-behind stop _ _ _ _ _ three (rw c.in_ok-totals.ensures at c.in_err-write_number-4.ensures))

pub returns : goal.returns
returns g c =
    let two = then-text _ _ _ _ _ (rw c.from.ensures at c.in_ok-write_number.ensures) (rw c.from-2.ensures at c.in_ok-write_number-2.ensures) in
    let three = then-text _ _ _ _ _ two (rw c.answer_count.ensures at c.in_ok-write_number-3.ensures) in
    writes-behind c.write_number-5.result _ _ _ _ _ (then-text _ _ _ _ _ three (rw c.in_ok-totals.ensures at c.in_ok-write_number-4.ensures)) (rw (c.from-3.ensures, c.in_ok-totals.ensures) at c.write_number-5.ensures)
