use Rattle.std.proofs.Common.{Some, sym, ap, ◌∙◌}
use Rattle.act_model.specs.Run.{Stream}
use Rattle.act_profile.specs.Kept.{KeptRows}
use Rattle.act_profile.specs.Stops.{comes_before, stop_day}
use Rattle.act_run.proofs.KeptOf.{part, stopped, uncut}
use Rattle.act_run.proofs.kept.is_kept_whole.Goals as goal

pub returns-in-Some-clause-whole : goal.returns-in-Some-clause-whole
returns-in-Some-clause-whole c = λ is.
    rw c.in-Some.is
    (stopped c.args.run.now c.in-Some.cut (sym is ∙ (c.comes_before.ensures ∙ ap (λ day. comes_before day (Some c.in-Some.cut)) (c.stop_day.ensures ∙ ap (λ (run : Stream). stop_day run.close) c.run.view_is))))

pub returns-in-Some-clause-part : goal.returns-in-Some-clause-part
returns-in-Some-clause-part c = λ is.
    rw c.in-Some.is
    (ap (λ (kept : KeptRows). kept.close)
    (part c.args.run.now c.in-Some.cut (sym (c.comes_before.ensures ∙ ap (λ day. comes_before day (Some c.in-Some.cut)) (c.stop_day.ensures ∙ ap (λ (run : Stream). stop_day run.close) c.run.view_is)) ∙ is)))

pub returns-in-None-clause-whole : goal.returns-in-None-clause-whole
returns-in-None-clause-whole c = λ is. rw c.in-None.is (uncut c.args.run.now)
