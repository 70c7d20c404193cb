use Rattle.std.proofs.Common.{◌≡◌, Err, IfSome, map, zero, rules}
use Rattle.std.proofs.lemmas.List.{at_drop_all}
use Rattle.std.proofs.lemmas.Option.{IfSome_then}
use Rattle.act_cones.proofs.Lists.{left_from}
use Rattle.act_refusal.specs.Steps.{plans_from}
use Rattle.act_refusal.specs.Refusal.{refusal_of}
use Rattle.act_refusal.proofs.PlannedSoFar.{all_planned, one_planned, one_refused}
use Rattle.act_refusal.proofs.plans.plan_contracts.Goals as goal

pub returns-in_err-plan-clause-refused : goal.returns-in_err-plan-clause-refused
returns-in_err-plan-clause-refused c =
    let here = left_from (λ t. t.now) c.args.terms.now c.loop-place.place c.index-terms-place.result c.loop-place-test.true c.index-terms-place.is in
    let whole : IfSome (refusal_of c.in_err-plan.field-0.0) (λ refusal. plans_from zero (map (λ t. t.now) c.args.terms.now) ≡ Err refusal) =
    IfSome_then (refusal_of c.in_err-plan.field-0.0) c.in_err-plan.ensures.refused (λ refusal. one_refused _ _ _ _ _ _ refusal c.loop-place.invariant here) in
    search rules

pub loop-place-preserved : goal.loop-place-preserved
loop-place-preserved c =
    let here = left_from (λ t. t.now) c.args.terms.now c.loop-place.place c.index-terms-place.result c.loop-place-test.true c.index-terms-place.is in
    rw c.in_ok-push.ensures.items (one_planned _ _ _ _ _ _ _ c.loop-place.invariant here c.in_ok-plan.ensures.plan)

pub returns-clause-plans : goal.returns-clause-plans
returns-clause-plans c =
    all_planned _ _ _ _ c.loop-place.invariant (at_drop_all (map (λ t. t.now)) _ _ c.loop-place-test.false)
