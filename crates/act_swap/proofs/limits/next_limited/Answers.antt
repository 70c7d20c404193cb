use Rattle.std.proofs.Common.{◌∙◌, sym}
use Rattle.act_swap.proofs.Pairs.{limited_past}
use Rattle.act_swap.proofs.limits.next_limited.Goals as goal

pub rows-preserved : goal.rows-preserved
rows-preserved c =
    c.rows.invariant ∙ limited_past c.args.status_date c.args.capfl.now.maturity_date c.args.run.now c.rows.place c.row.result c.row.ensures (sym c.is_limited.ensures ∙ c.if-is_limited.false)
