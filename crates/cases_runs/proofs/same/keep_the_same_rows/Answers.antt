use Rattle.std.proofs.Common.{◌≡◌, true, Some, ap, sym, ◌∙◌}
use Rattle.act_model.specs.Run.{Stream}
use Rattle.act_profile.specs.Stops.{comes_before, stop_day}
use Rattle.cases_runs.proofs.RowByRow.{same_part}
use Rattle.cases_runs.proofs.same.keep_the_same_rows.Goals as goal

pub returns : goal.returns
returns c = λ is.
    let same : c.have_the_same.result ≡ true = cc in
    let stops = λ (run : Stream). comes_before (stop_day run.close) (Some c.args.cut) in
    same_part c.args.one.now c.args.other.now c.args.cut
    (ap stops (sym c.one.view_is) ∙ sym c.stops_before.ensures ∙ c.if-stops_before.false)
    (ap stops (sym c.other.view_is) ∙ sym c.stops_before-else-stops_before.ensures ∙ c.if-stops_before-2.false)
    (sym c.in_ok-rows.ensures ∙ c.have_the_same.ensures same ∙ c.in_ok-others.ensures)
