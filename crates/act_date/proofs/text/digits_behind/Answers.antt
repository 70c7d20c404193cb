use Rattle.std.proofs.Common.{◌≡◌, ◌+◌, ◌-◌, arith, eq-eqb}
use Rattle.act_date.specs.Text.{has_digits_behind, two_digits}
use Rattle.act_date.proofs.text.digits_behind.Goals as goal

pub returns-clause-value : goal.returns-clause-value
unfolding has_digits_behind two_digits
returns-clause-value c =
    let two : c.args.at + 3 - (c.args.at + 1) ≡ 2 = omega arith in
    let marked = eq-eqb _ _ c.if-text-at.false in
    rw marked (rw two at c.number.ensures.value)
