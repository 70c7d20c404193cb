use Rattle.act_kind.proofs.InOrder.{in_order-permutation, in_order-sorted, in_order-stable}
use Rattle.act_kind.proofs.order.order_law.Goals as goal

pub returns-clause-same_events : goal.returns-clause-same_events
returns-clause-same_events c = in_order-permutation

pub returns-clause-in_order : goal.returns-clause-in_order
returns-clause-in_order c = in_order-sorted

pub returns-clause-stable : goal.returns-clause-stable
returns-clause-stable c = in_order-stable
