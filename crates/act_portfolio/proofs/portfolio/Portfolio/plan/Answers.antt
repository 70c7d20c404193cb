use Rattle.std.proofs.Common.{ap, ◌∙◌}
use Rattle.std.specs.List.{slice_get}
use Rattle.act_cones.proofs.Orders.{plan_at}
use Rattle.act_portfolio.proofs.portfolio.Portfolio.plan.Goals as goal

pub returns-clause-of_terms : goal.returns-clause-of_terms
returns-clause-of_terms c = λ t here.
    plan_at _ _ c.self.invariant.accepted.printable.planned c.args.contract t _ (ap (λ p. slice_get p.contracts.terms c.args.contract) c.self.view_is ∙ here) c.index.ensures
