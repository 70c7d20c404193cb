use Rattle.std.proofs.Common.{◌≡◌, IfOk, sym, subst, take, ◌∙◌}
use Rattle.act_model.specs.Run.{Stream}
use Rattle.act_run.specs.Inputs.{run_given}
use Rattle.act_run.specs.Resuming.{BeginsWith}
use Rattle.act_run.proofs.KeptOf.{part_is, whole_is}
use Rattle.act_run.proofs.Limited.{run_in_day_order}
use Rattle.act_run.proofs.run.resume.Goals as goal

pub run_behind-requires-clause-same : goal.run_behind-requires-clause-same
run_behind-requires-clause-same g c =
    let inputs = c.args.inputs.now in
    subst (λ (kept : Stream). BeginsWith (run_given inputs) (take c.in-Some.count kept.rows)) (sym c.kept.view_is)
    (part_is (run_given inputs) c.args.kept.now c.args.cut c.in-Some.count (run_in_day_order inputs.terms inputs.plan inputs.entries inputs.children) (sym c.in-Some.ensures.kept ∙ c.requires.kept))

pub returns-in-None-clause-run : goal.returns-in-None-clause-run
returns-in-None-clause-run g c =
    subst (λ (r : Stream). IfOk c.copied.result (λ copy. copy ≡ r)) (whole_is (run_given c.args.inputs.now) c.args.kept.now c.args.cut (sym c.in-None.ensures.kept ∙ c.requires.kept)) c.copied.ensures
