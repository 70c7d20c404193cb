use Rattle.std.proofs.Common.{◌≡◌, None, Some, sym, subst, ◌∙◌}
use Rattle.std.specs.Arc.{arc_value}
use Rattle.act_model.specs.Run.{Stream}
use Rattle.act_profile.specs.Kept.{kept_of}
use Rattle.act_run.specs.Inputs.{run_given}
use Rattle.act_run.specs.Resuming.{kept_by}
use Rattle.act_run.proofs.KeptOf.{part_is, whole_is}
use Rattle.act_run.proofs.Limited.{run_in_day_order}
use Rattle.act_run.proofs.run.resume_shared.Goals as goal

pub shared_behind-requires-clause-same : goal.shared_behind-requires-clause-same
shared_behind-requires-clause-same g c =
    let inputs = c.args.inputs.now in
    let kept = subst (λ (s : Stream). kept_of s c.args.cut ≡ kept_by s (Some c.in-Some.count)) c.deref.ensures c.in-Some.ensures.kept in
    part_is (run_given inputs) (arc_value c.args.kept.now) c.args.cut c.in-Some.count (run_in_day_order inputs.terms inputs.plan inputs.entries inputs.children) (sym kept ∙ c.requires.kept)

pub returns-in_ok-try_clone-in-None-clause-run : goal.returns-in_ok-try_clone-in-None-clause-run
returns-in_ok-try_clone-in-None-clause-run g c =
    let kept = subst (λ (s : Stream). kept_of s c.args.cut ≡ kept_by s None) c.deref.ensures c.in-None.ensures.kept in
    c.in_ok-try_clone-in-None.ensures ∙ whole_is (run_given c.args.inputs.now) (arc_value c.args.kept.now) c.args.cut (sym kept ∙ c.requires.kept)
