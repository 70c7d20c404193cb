use Rattle.std.proofs.Common.{◌∙◌, rules, tests, arith}
use Rattle.std.proofs.lemmas.List.{take_more_set}
use Rattle.act_num.proofs.text.put_sign.Goals as goal

pub returns-then-units-lt0-clause-written : goal.returns-then-units-lt0-clause-written
returns-then-units-lt0-clause-written c = take_more_set c.args.out.now c.args.at 45 (omega (arith, c.requires)) ∙ search (rules, tests)
