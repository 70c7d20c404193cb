use Rattle.std.proofs.Common.{arith, rules}
use Rattle.std.proofs.lemmas.Int.{ints}
use Rattle.act_num.proofs.Products.{one_times}
use Rattle.act_num.proofs.fixed.Fixed.mul.Goals as goal

pub returns-then-is_word : goal.returns-then-is_word
returns-then-is_word c = one_times c.args.self c.args.b (search rules) (omega (arith, ints))
