use Rattle.std.proofs.Common.{List, ◌&&◌, ap, ◌∙◌}
use Rattle.std.specs.List.{list_any}
use Rattle.act_kind.proofs.Ends.{among_ends}
use Rattle.act_model.specs.declared.event.Event.{Event}
use Rattle.act_profile.specs.Order.{ends, precedes}
use Rattle.act_kind.proofs.order.is_behind_end.Goals as goal

pub returns : goal.returns
returns c =
    c.one_ends_before.ensures
    ∙ ap (λ (events : List Event). list_any (λ e. ends c.args.kind.now e && precedes e c.args.purchase.now) events) c.ends.ensures
    ∙ among_ends c.args.kind.now c.args.purchase.now c.args.plan.now.events
