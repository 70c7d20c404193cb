use Rattle.std.proofs.Common.{◌<◌, unsigned_abs, subst, sym, arith, rules}
use Rattle.std.proofs.lemmas.Int.{ints}
use Rattle.act_num.specs.Number.{IsNearest}
use Rattle.act_num.proofs.Nearest.{rnd-nearest}
use Rattle.act_num.proofs.rounding.rnd.Goals as goal

pub returns-then-p-lt0-clause-nearest : goal.returns-then-p-lt0-clause-nearest
returns-then-p-lt0-clause-nearest c =
    let above : 0 < unsigned_abs c.args.q = omega (arith, ints) in
    let nearest = rnd-nearest c.args.p (unsigned_abs c.args.q) above in
    subst (IsNearest c.args.p (unsigned_abs c.args.q)) (sym (search rules)) nearest

pub returns-else-p-lt0-clause-nearest : goal.returns-else-p-lt0-clause-nearest
returns-else-p-lt0-clause-nearest c =
    let above : 0 < unsigned_abs c.args.q = omega (arith, ints) in
    let nearest = rnd-nearest c.args.p (unsigned_abs c.args.q) above in
    subst (IsNearest c.args.p (unsigned_abs c.args.q)) (sym (search rules)) nearest
