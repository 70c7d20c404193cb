use Rattle.std.proofs.Common.{◌≡◌, Some, take, ap, subst, ◌∙◌}
use Rattle.act_model.specs.Run.{Stream}
use Rattle.act_profile.specs.Stops.{comes_before, rows_before, stop_day}
use Rattle.act_run.proofs.KeptOf.{stopped, uncut, up_to}
use Rattle.act_run.proofs.kept.kept_count.Goals as goal

pub returns-in_err-cut-clause-kept : goal.returns-in_err-cut-clause-kept
returns-in_err-cut-clause-kept c = rw c.in_err-cut.was (rw c.from_residual.ensures (uncut c.args.run.now))

pub returns-then-comes_before-clause-kept : goal.returns-then-comes_before-clause-kept
returns-then-comes_before-clause-kept c =
    rw c.in_ok-cut.was
    (stopped c.args.run.now c.in_ok-cut.cut (c.if-comes_before.ensures ∙ ap (λ day. comes_before day (Some c.in_ok-cut.cut)) (c.stop_day.ensures ∙ ap (λ (run : Stream). stop_day run.close) c.run.view_is)))

pub returns-else-comes_before-clause-kept : goal.returns-else-comes_before-clause-kept
returns-else-comes_before-clause-kept c =
    rw c.in_ok-cut.was
    (up_to c.args.run.now c.in_ok-cut.cut c.count_before.result (c.if-comes_before.ensures ∙ ap (λ day. comes_before day (Some c.in_ok-cut.cut)) (c.stop_day.ensures ∙ ap (λ (run : Stream). stop_day run.close) c.run.view_is))
    (subst (λ (run : Stream). rows_before c.in_ok-cut.cut run ≡ take c.count_before.result run.rows) c.run.view_is c.count_before.ensures.count))
