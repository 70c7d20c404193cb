use Rattle.std.proofs.Common.{ap, length, arith}
use Rattle.act_top.proofs.Counting.{uncounted-all, uncounted-next, uncounted-none}
use Rattle.act_engine.proofs.Lists.{drop-at, drop-past}
use Rattle.act_top.proofs.totals.Totals.add_rows.Goals as goal

pub loop-place-init : goal.loop-place-init
loop-place-init c = uncounted-all _ _ (omega arith)

pub add_row-requires : goal.add_row-requires
add_row-requires c =
    let left = ap length (drop-at c.args.rows.now c.loop-place.place _ c.row.ensures) in
    omega (arith, c.requires, c.count-place-end.ensures, c.loop-place.invariant.count, left)

pub loop-place-preserved : goal.loop-place-preserved
loop-place-preserved c = uncounted-next _ _ _ _ _ _ _ c.loop-place.invariant (drop-at c.args.rows.now c.loop-place.place _ c.row.ensures) c.add_row.ensures

pub returns-clause-counted : goal.returns-clause-counted
returns-clause-counted c = uncounted-none _ _ _ _ c.loop-place.invariant (drop-past c.args.rows.now c.loop-place.place (omega (arith, c.loop-place-test.false)))

pub returns-clause-few : goal.returns-clause-few
returns-clause-few c = omega (arith, c.count-place-end.ensures, c.loop-place.invariant.count)
