use Rattle.std.proofs.Common.{ap, arith, ◌∙◌}
use Rattle.act_cones.specs.Counts.{scheduled_count}
use Rattle.act_portfolio.proofs.PerContract.{count_at, count_within}
use Rattle.act_portfolio.proofs.portfolio.Portfolio.scheduled_count.Goals as goal

pub index-requires : goal.index-requires
index-requires c = omega (arith, count_within _ _ _ _ _ c.self.invariant c.args.contract (rw (← c.self.view_is) at c.requires.contract))

pub returns-clause-count : goal.returns-clause-count
returns-clause-count c =
    let both = count_at _ _ _ _ _ c.self.invariant c.args.contract (rw (← c.self.view_is) at c.requires.contract) c.index.result.now c.index.ensures in
    both.0 ∙ ap (λ p. scheduled_count p.contracts c.args.contract) c.self.view_is

pub returns-clause-within : goal.returns-clause-within
returns-clause-within c =
    let both = count_at _ _ _ _ _ c.self.invariant c.args.contract (rw (← c.self.view_is) at c.requires.contract) c.index.result.now c.index.ensures in
    both.1
