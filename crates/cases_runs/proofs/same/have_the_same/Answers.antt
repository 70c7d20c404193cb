use Rattle.std.proofs.Common.{◌≡◌, slice_get, Some, subst, sym}
use Rattle.act_model.specs.declared.run.Row.{Row}
use Rattle.cases_runs.proofs.RowByRow.{same_more}
use Rattle.cases_runs.proofs.same.have_the_same.Goals as goal

pub rows-preserved : goal.rows-preserved
rows-preserved c =
    same_more c.args.one.now c.args.other.now c.rows.place c.row.result c.rows.invariant c.row.ensures
    (subst (λ (row : Row). slice_get c.args.other.now c.rows.place ≡ Some row) (sym (c.is_same_row.ensures c.if-not-is_same_row.false)) c.row-in-rows.ensures)
