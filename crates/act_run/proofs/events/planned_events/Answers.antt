use Rattle.std.proofs.Common.{◌≡◌, length, sym, ◌∙◌}
use Rattle.std.proofs.lemmas.Bool.{eqb-true}
use Rattle.act_run.proofs.Planned.{plan-in_order, planned-events}
use Rattle.act_run.proofs.events.planned_events.Goals as goal

pub counting-requires : goal.counting-requires
counting-requires c =
    plan-in_order c.args.terms.now c.args.plan.now (sym c.is_planned.ensures ∙ c.if-is_planned.true) c.requires.plan

pub returns-then-is_planned : goal.returns-then-is_planned
returns-then-is_planned c = λ entries children are.
    let terms = c.args.terms.now in
    let none : length c.args.own.now ≡ 0 = eqb-true (length c.args.own.now) 0 (sym c.if-is_empty.ensures) in
    c.counting.ensures
    ∙ planned-events terms c.args.plan.now c.args.own.now (sym c.is_planned.ensures ∙ c.if-is_planned.true) c.requires.plan none entries children are
