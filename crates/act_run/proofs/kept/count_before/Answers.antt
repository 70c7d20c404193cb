use Rattle.std.proofs.Common.{◌+◌, ◌<◌, length, refl, sym, subst, ◌∙◌, arith}
use Rattle.act_run.proofs.FirstRows.{AllBefore, NoneBehind, all_before, early_are, none_behind_last, none_before_first, none_from}
use Rattle.act_run.proofs.kept.count_before.Goals.{then-is_before, else-is_before}
use Rattle.act_run.proofs.kept.count_before.Goals as goal

pub rows-init : goal.rows-init
rows-init c = record {
  order = omega arith;
  from = omega arith;
  to = λ some. omega (arith, some, c.saturating_sub-look.ensures);
  first = none_before_first c.args.day c.args.rows.now;
  none = none_behind_last c.args.day c.args.rows.now c.count-to.result c.count-to.ensures;
}

pub rows-preserved : goal.rows-preserved
rows-preserved c =
    let look = c.rows.look in
    let below = c.rows.invariant.to c.rows-test.true in
    let within : look < length c.args.rows.now = omega (arith, below, c.rows.invariant.none.within) in
    elim c.if-is_before.branch [
      | then-is_before w ↦ record {
        order = omega (arith, below, w.from-is, w.to-is);
        from = omega (arith, below, w.from-is, w.to-is);
        to = λ some. omega (arith, some);
        first = subst (AllBefore c.args.day c.args.rows.now) (sym w.from-is) (all_before c.args.day c.args.rows.now look (look + 1) c.row.result c.requires refl c.row.ensures (sym c.is_before.ensures ∙ w.if-is_before.true));
        none = subst (NoneBehind c.args.day c.args.rows.now) (sym w.to-is) c.rows.invariant.none;
      }
      | else-is_before w ↦ record {
        order = omega (arith, c.rows.invariant.from, w.from-is, w.to-is);
        from = omega (arith, c.rows.invariant.from, w.from-is, w.to-is);
        to = λ some. omega (arith, some);
        first = subst (AllBefore c.args.day c.args.rows.now) (sym w.from-is) c.rows.invariant.first;
        none = subst (NoneBehind c.args.day c.args.rows.now) (sym w.to-is) (none_from c.args.day c.args.rows.now look c.row.result c.requires within c.row.ensures (sym c.is_before.ensures ∙ w.if-is_before.false));
      }
    ]

pub returns-clause-count : goal.returns-clause-count
returns-clause-count c =
    early_are c.args.day c.args.rows.now c.rows.from c.rows.to c.rows.invariant.first c.rows.invariant.none (omega (arith, c.rows-test.false, c.rows.invariant.order))
