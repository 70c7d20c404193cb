use Rattle.std.proofs.Common.{arith, rules}
use Rattle.act_num.proofs.DigitValues.{number_more}
use Rattle.act_num.proofs.decimal.number.Goals as goal

pub loop-digit-preserved : goal.loop-digit-preserved
loop-digit-preserved c =
    (number_more c.args.digits.now c.loop-digit.digit-index c.loop-digit.value _ c.requires (omega arith) (search rules) (search rules), search rules)
