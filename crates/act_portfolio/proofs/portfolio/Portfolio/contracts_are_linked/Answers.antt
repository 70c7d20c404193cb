use Rattle.act_cones.proofs.Orders.{children_exist, order_numbered}
use Rattle.act_portfolio.proofs.Unrolling.{within_depth}
use Rattle.act_portfolio.proofs.portfolio.Portfolio.contracts_are_linked.Goals as goal

pub returns-clause-numbered : goal.returns-clause-numbered
returns-clause-numbered c = rw (← c.self.view_is) (order_numbered _ _ _ c.self.invariant.accepted.ordered c.self.invariant.accepted.children)

pub returns-clause-exist : goal.returns-clause-exist
returns-clause-exist c = rw (← c.self.view_is) (children_exist _ _ c.self.invariant.accepted.numbered)

pub returns-clause-within_depth : goal.returns-clause-within_depth
returns-clause-within_depth c = rw (← c.self.view_is) (within_depth _ _ _ _ c.self.invariant.accepted)
