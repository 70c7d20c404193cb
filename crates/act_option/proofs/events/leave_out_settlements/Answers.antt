use Rattle.std.proofs.Common.{rules}
use Rattle.std.specs.Prelude.{not}
use Rattle.std.proofs.lemmas.Fn.{filter_same}
use Rattle.act_model.specs.declared.event.EventType.TheVariants.{STD}
use Rattle.act_profile.specs.Order.{is_type}
use Rattle.act_option.proofs.events.leave_out_settlements.Goals as goal

pub returns : goal.returns
returns c = filter_same _ (λ e. not (is_type e.kind STD)) _ (λ a b f q. search rules) _ _ c.retain.ensures.filtered
