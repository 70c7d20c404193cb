use Rattle.std.proofs.Common.{arith, sym, ◌∙◌}
use Rattle.act_swap.proofs.Pairs.{found_within, paired_one, paired_out, paired_past}
use Rattle.act_swap.proofs.limits.add_pairs.Goals as goal

pub rows-preserved-then-not-is_limited : goal.rows-preserved-then-not-is_limited
rows-preserved-then-not-is_limited c = paired_past _ _ _ _ _ _ c.rows.place c.rows.from c.row-row.result c.rows.invariant c.row-row.ensures (sym c.is_limited.ensures ∙ c.if-not-is_limited.true)

pub returns-in_default : goal.returns-in_default
returns-in_default c = paired_out _ _ _ _ _ _ c.rows.place c.rows.from c.rows.invariant c.in_default.ensures.none_left

pub overflow_cast-other : goal.overflow_cast-other
overflow_cast-other c = let within = found_within _ c.args.shadow.now.rows c.in-Some.other c.in-Some.ensures.within in omega arith

pub rows-preserved : goal.rows-preserved
rows-preserved c =
    rw (c.in_ok-push.ensures.items, c.net_event.ensures)
    (paired_one _ _ _ _ _ _ c.rows.place c.rows.from c.row-row.result c.in-Some.other c.rows.invariant c.row-row.ensures (sym c.is_limited.ensures ∙ c.if-not-is_limited.false) c.in-Some.ensures.next c.in-Some.ensures.within)
