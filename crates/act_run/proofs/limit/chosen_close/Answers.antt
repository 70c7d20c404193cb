use Rattle.std.proofs.Common.{◌≡◌, ◌+◌, subst, sym, ap, ◌∙◌}
use Rattle.std.specs.Arc.{arc_value}
use Rattle.act_profile.specs.Stops.{earlier_close}
use Rattle.act_run.proofs.Chosen.{IsChosen, all_chosen, none_chosen, one_more}
use Rattle.act_run.proofs.limit.chosen_close.Goals as goal

pub children-init : goal.children-init
children-init c = none_chosen arc_value c.args.children.now

pub children-preserved : goal.children-preserved
children-preserved c =
    let close : c.behind-child.inside.close ≡ (arc_value c.child-item.result).close = ap (λ run. run.close) (c.behind-child.view_is ∙ c.deref.ensures) in
    subst (IsChosen arc_value c.args.children.now (c.children.child-index + 1)) (sym (c.earlier_close-chosen.ensures ∙ ap (earlier_close c.children.chosen) close))
    (one_more arc_value c.args.children.now c.children.child-index c.child-item.result c.children.chosen c.children.invariant c.children-test.true c.child-item.is)

pub returns : goal.returns
returns c = all_chosen arc_value c.args.children.now c.children.child-index c.children.chosen c.children.invariant c.children-test.false
