use Rattle.std.proofs.Common.{rules}
use Rattle.std.proofs.lemmas.Fn.{filter_same}
use Rattle.act_profile.specs.Order.{counts}
use Rattle.act_kind.proofs.order.keep_counting.Goals as goal

pub returns : goal.returns
returns c = filter_same _ (λ e. counts c.args.status c.args.kind.now e.day) _ (λ a b f q. search rules) _ _ c.retain.ensures.filtered
