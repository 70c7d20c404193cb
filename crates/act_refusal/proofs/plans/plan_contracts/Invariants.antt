use Rattle.std.proofs.Common.{drop, map}
use Rattle.act_refusal.proofs.PlannedSoFar.{IsPlannedTo}
use Rattle.act_refusal.proofs.plans.plan_contracts.Given as goal

abbrev pub invariant-loop-place : goal.invariant-loop-place
invariant-loop-place l = IsPlannedTo (map (λ t. t.now) l.terms) (map (λ t. t.now) (drop l.place l.terms)) l.plans.items l.place
