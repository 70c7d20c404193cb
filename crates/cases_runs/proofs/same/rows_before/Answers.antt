use Rattle.std.proofs.Common.{◌≡◌, ◌∷◌, [], ◌++◌, List, int_lt, slice_get, Some, ap, subst, ◌∙◌}
use Rattle.std.specs.List.{filter}
use Rattle.act_model.specs.Run.{Stream}
use Rattle.act_model.specs.declared.run.Row.{Row}
use Rattle.cases_runs.proofs.RowByRow.{filter_more}
use Rattle.cases_runs.proofs.same.rows_before.Goals as goal

pub rows-preserved : goal.rows-preserved
rows-preserved c =
    let row = c.row.result in
    let test : Row → _ = λ r. int_lt r.day c.args.day in
    c.in_ok-push_before.ensures
    ∙ ap (λ (rows : List Row). rows ++ filter test (row ∷ [])) c.rows.invariant
    ∙ filter_more test c.args.run.now.rows c.rows.place row (subst (λ (run : Stream). slice_get run.rows c.rows.place ≡ Some row) c.run.view_is c.row.ensures)
