use Rattle.act_refusal.proofs.Built.{all_are_built}
use Rattle.act_refusal.proofs.plans.plans_of.Goals as goal

pub plan_contracts-requires-clause-built : goal.plan_contracts-requires-clause-built
plan_contracts-requires-clause-built c = rw c.deref.ensures.value (all_are_built c.in_ok-terms.terms.items c.args.named.now c.args.shadows.now c.in_ok-terms.ensures c.requires.contracts c.requires.built)
