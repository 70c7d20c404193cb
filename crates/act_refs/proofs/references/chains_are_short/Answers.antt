use Rattle.act_refs.proofs.Ordering.{order_of-short}
use Rattle.act_refs.proofs.references.chains_are_short.Goals as goal

pub returns : goal.returns
returns c = order_of-short
