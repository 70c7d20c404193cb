use Rattle.std.proofs.Common.{◌+◌, ap, ◌∙◌}
use Rattle.act_num.proofs.Limits.{limited_is}
use Rattle.act_num.proofs.Scaling.{all_digits_drop, all_digits_take, rounded_is, rounded_past}
use Rattle.act_num.proofs.decimal.rounded.Goals as goal

pub number-requires : goal.number-requires
number-requires c = rw c.split_at.ensures.front (all_digits_take c.args.digits.now c.args.point c.requires.are_digits)

pub rounds_up-requires : goal.rounds_up-requires
rounds_up-requires c = rw c.split_at.ensures.back (all_digits_drop c.args.digits.now c.args.point c.requires.are_digits)

pub returns-in_err-whole : goal.returns-in_err-whole
returns-in_err-whole c =
    c.from_residual.ensures
    ∙ rounded_past c.args.digits.now _ c.args.point c.requires.are_digits c.requires.point_in c.split_at.ensures.front c.in_err-whole.ensures

pub returns : goal.returns
returns c =
    let nearest_number = rounded_is c.args.digits.now _ _ c.args.point c.in_ok-whole.whole c.rounds_up.result c.requires.are_digits c.requires.point_in c.split_at.ensures.front c.split_at.ensures.back c.in_ok-whole.ensures c.rounds_up.ensures in
    c.then_some.ensures ∙ limited_is _ _ (ap (λ n. c.in_ok-whole.whole + n) c.from.ensures ∙ nearest_number)
