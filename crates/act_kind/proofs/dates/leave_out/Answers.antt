use Rattle.std.proofs.Common.{rules, not}
use Rattle.std.proofs.lemmas.Fn.{filter_same}
use Rattle.std.specs.Ordering.{int_eq}
use Rattle.act_kind.proofs.dates.leave_out.Goals as goal

pub returns : goal.returns
returns c = filter_same _ (λ d. not (int_eq d c.args.day)) _ (λ a b f q. search rules) _ _ c.retain.ensures.filtered
