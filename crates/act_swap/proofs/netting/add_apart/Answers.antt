use Rattle.std.proofs.Common.{◌++◌, ◌∙◌, ap, sym}
use Rattle.act_profile.specs.Legs.{taken_rows}
use Rattle.act_swap.proofs.Walks.{added_all, added_one, all_alone, passed_one}
use Rattle.act_swap.proofs.netting.add_apart.Goals as goal

pub rows-preserved-then-not-is_taken : goal.rows-preserved-then-not-is_taken
rows-preserved-then-not-is_taken c = passed_one _ _ _ _ _ c.rows.place c.row-row.result c.rows.invariant c.row-row.ensures (sym c.is_taken.ensures ∙ c.if-not-is_taken.true)

pub rows-preserved : goal.rows-preserved
rows-preserved c =
    rw (c.in_ok-push.ensures.items, c.leg_event.ensures) (added_one _ _ _ _ _ c.rows.place c.row-row.result c.rows.invariant c.row-row.ensures (sym c.is_taken.ensures ∙ c.if-not-is_taken.false))

pub returns : goal.returns
returns c =
    added_all _ _ _ _ _ c.rows.place c.rows.invariant (rw c.count-place-end.ensures at c.rows-test.false)
    ∙ ap (λ events. c.args.events.now.items ++ events) (all_alone c.args.leg (taken_rows c.args.status_date c.args.run.now))
