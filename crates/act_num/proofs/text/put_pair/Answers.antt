use Rattle.std.proofs.Common.{◌≡◌, ◌+◌, ◌/◌, ◌%◌, ◌∙◌, arith}
use Rattle.act_num.proofs.Pairs.{pairs_at, two_put}
use Rattle.act_num.proofs.text.put_pair.Goals as goal

pub returns-clause-written : goal.returns-clause-written
returns-clause-written c =
    let p = pairs_at c.args.number c.requires.pair in
    let ten : 48 + c.args.number / 10 ≡ 48 + c.args.number / 10 % 10 = omega (arith, c.requires.pair) in
    two_put c.args.out.now c.args.at _ _ _ _ c.requires.room (p.0 ∙ ten) p.1
