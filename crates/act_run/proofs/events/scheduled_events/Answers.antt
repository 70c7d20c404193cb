use Rattle.std.proofs.Common.{◌≡◌, subst, sym}
use Rattle.std.proofs.lemmas.Result.{IfOk-weaker}
use Rattle.act_model.specs.Observed.{observed_events}
use Rattle.act_profile.specs.Contract.{observed_as}
use Rattle.act_run.specs.Inputs.{Inputs}
use Rattle.act_run.proofs.events.scheduled_events.Goals as goal

pub returns-in-OPTNS : goal.returns-in-OPTNS
returns-in-OPTNS g c =
    let inside = c.inputs.inside in
    let are = subst (λ (i : Inputs). c.args.own.now ≡ observed_events i.entries (observed_as i.terms.common)) (sym c.inputs.view_is) c.requires in
    rw (← c.inputs.view_is) (rw c.in-OPTNS.is (IfOk-weaker c.exercised_events.result _ _ (λ events is. is (g.O.Observed.entries inside.seen.now) are) c.exercised_events.ensures))
