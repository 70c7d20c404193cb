use Rattle.std.proofs.Common.{arith, sym, ◌∙◌}
use Rattle.act_swap.proofs.Partners.{count_first, counted_more, counted_same}
use Rattle.act_swap.proofs.netting.count_like.Goals as goal
use Rattle.act_swap.proofs.netting.count_like.Goals.{then-is_netted_with, else-is_netted_with}

pub rows-init : goal.rows-init
rows-init c = (count_first c.args.row.now c.args.run.now.rows c.args.from c.requires.from, omega arith)

pub rows-preserved : goal.rows-preserved
rows-preserved c =
    let row = c.args.row.now in
    let rows = c.args.run.now.rows in
    elim c.if-is_netted_with.branch [
      | then-is_netted_with w ↦
          (rw w.count-is (counted_more row rows c.rows.earlier c.rows.count c.row.result c.row.ensures c.rows.invariant.0 (sym c.is_netted_with.ensures ∙ w.if-is_netted_with.true)), omega arith)
      | else-is_netted_with w ↦
          (rw w.count-is (counted_same row rows c.rows.earlier c.rows.count c.row.result c.row.ensures c.rows.invariant.0 (sym c.is_netted_with.ensures ∙ w.if-is_netted_with.false)), omega arith)
    ]
