use Rattle.std.proofs.Common.{◌-◌, arith, sym, ◌∙◌}
use Rattle.act_credit.proofs.LastRows.{last_before, last_here}
use Rattle.act_credit.proofs.exposures.last_state.Goals as goal

pub returns-then-is_until : goal.returns-then-is_until
returns-then-is_until c =
    let is = sym c.is_until.ensures ∙ c.if-is_until.true in
    sym (c.rows.invariant.last ∙ last_here c.args.rows.now c.rows.left (c.rows.left - 1) c.row-row.result c.args.day (omega arith) (omega arith) c.row-row.ensures is)

pub rows-preserved : goal.rows-preserved
rows-preserved c =
    let is = sym c.is_until.ensures ∙ c.if-is_until.false in
    record {
      within = omega arith;
      last = c.rows.invariant.last ∙ last_before c.args.rows.now c.rows.left (c.rows.left - 1) c.row-row.result c.args.day (omega arith) (omega arith) c.row-row.ensures is;
    }
