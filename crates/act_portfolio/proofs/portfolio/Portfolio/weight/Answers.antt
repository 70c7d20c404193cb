use Rattle.std.proofs.Common.{ap, arith, ◌∙◌}
use Rattle.act_cones.specs.Counts.{cone_sum}
use Rattle.act_portfolio.proofs.PerContract.{weight_at, weight_within}
use Rattle.act_portfolio.proofs.portfolio.Portfolio.weight.Goals as goal

pub index-requires : goal.index-requires
index-requires c = omega (arith, weight_within _ _ _ _ _ c.self.invariant c.args.contract (rw (← c.self.view_is) at c.requires.contract))

pub returns-clause-weight : goal.returns-clause-weight
returns-clause-weight c =
    let both = weight_at _ _ _ _ _ c.self.invariant c.args.contract (rw (← c.self.view_is) at c.requires.contract) c.index.result.now c.index.ensures in
    both.0 ∙ ap (λ p. cone_sum p.contracts c.args.contract) c.self.view_is

pub returns-clause-within : goal.returns-clause-within
returns-clause-within c =
    let both = weight_at _ _ _ _ _ c.self.invariant c.args.contract (rw (← c.self.view_is) at c.requires.contract) c.index.result.now c.index.ensures in
    both.1
