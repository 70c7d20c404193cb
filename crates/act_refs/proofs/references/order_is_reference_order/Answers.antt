use Rattle.act_refs.proofs.Ordering.{order_of-reference}
use Rattle.act_refs.proofs.references.order_is_reference_order.Goals as goal

pub returns : goal.returns
returns c = order_of-reference
