use Rattle.std.proofs.Common.{◌≡◌, get_or, arith, sym}
use Rattle.std.proofs.lemmas.Bool.Decides.{nat_tests}
use Rattle.act_num.proofs.Halves.{rounds_by_first}
use Rattle.act_num.proofs.decimal.rounds_up.Goals as goal

pub returns-in-Less : goal.returns-in-Less
returns-in-Less c =
    sym ((rounds_by_first c.args.whole c.args.fraction.now c.requires c.in-len1-up.len_at_least).below (grind (arith, nat_tests, c.in-Less.ensures)))

pub returns-then-whole-eq1 : goal.returns-then-whole-eq1
returns-then-whole-eq1 c =
    let first : get_or c.args.fraction.now 0 0 ≡ 53 = grind (arith, nat_tests, c.in-Equal.ensures) in
    let e = (rounds_by_first c.args.whole c.args.fraction.now c.requires c.in-len1-up.len_at_least).at first in
    grind (arith, nat_tests)

pub returns-else-whole-eq1 : goal.returns-else-whole-eq1
returns-else-whole-eq1 c =
    let first : get_or c.args.fraction.now 0 0 ≡ 53 = grind (arith, nat_tests, c.in-Equal.ensures) in
    let e = (rounds_by_first c.args.whole c.args.fraction.now c.requires c.in-len1-up.len_at_least).at first in
    grind (arith, nat_tests)

pub returns-in-Greater : goal.returns-in-Greater
returns-in-Greater c =
    sym ((rounds_by_first c.args.whole c.args.fraction.now c.requires c.in-len1-up.len_at_least).above (grind (arith, nat_tests, c.in-Greater.ensures)))
