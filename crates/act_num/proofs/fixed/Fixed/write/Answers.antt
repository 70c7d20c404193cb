use Rattle.std.proofs.Common.{ap, ◌∙◌, rules}
use Rattle.act_num.specs.Decimal.{decimal_of, printed}
use Rattle.act_num.proofs.ReadBack.{decimal_of-printed}
use Rattle.act_num.proofs.fixed.Fixed.write.Goals as goal

pub returns-clause-read_back : goal.returns-clause-read_back
unfolding printed
returns-clause-read_back c = ap decimal_of (search rules) ∙ decimal_of-printed c.args.self (search rules)
