use Rattle.std.proofs.Common.{◌≡◌, List, map, true, sym, ap, subst}
use Rattle.std.specs.List.{flat_map}
use Rattle.act_engine.proofs.Lists.{drop-past, from-next}
use Rattle.act_engine.proofs.Texts.{left-all, left-next, left-none, left-part, writes-part}
use Rattle.act_model.specs.Journal.{is_known}
use Rattle.act_model.specs.declared.journal.Item.{Item}
use Rattle.act_print.specs.Text.{item_text}
use Rattle.act_transcript.proofs.heads.write_items.Goals as goal

pub loop-step-init : goal.loop-step-init
loop-step-init g c = left-all _ _

pub write_item-requires : goal.write_item-requires
write_item-requires g c =
    let names = c.args.names.now in
    let known = subst (λ (step : g.row.S.Denot). is_known names (g.S.JournalStep.item_of step).step ≡ true) (sym c.step-item.is) (c.requires.known c.loop-step.step-index c.step-item.result c.loop-step-test.true) in
    record { known = subst (λ (item : Item). is_known names item.step ≡ true) (sym c.item.ensures) known }

pub loop-step-preserved : goal.loop-step-preserved
loop-step-preserved g c =
    let here = from-next (λ (steps : List g.row.S.Denot). flat_map (item_text c.args.names.now) (map g.S.JournalStep.item_of steps)) c.args.journal.now c.loop-step.step-index c.step-item.result c.loop-step-test.true c.step-item.is in
    left-next _ _ _ _ _ _ _ c.loop-step.invariant here (rw c.item.ensures at c.in_ok-write_item.ensures)

pub returns-in_err-write_item : goal.returns-in_err-write_item
returns-in_err-write_item g c =
    let here = from-next (λ (steps : List g.row.S.Denot). flat_map (item_text c.args.names.now) (map g.S.JournalStep.item_of steps)) c.args.journal.now c.loop-step.step-index c.step-item.result c.loop-step-test.true c.step-item.is in
    writes-part c.from_residual.result _ _ _ _ c.from_residual.ensures.1 (left-part c.in_err-write_item.field-0.0 _ _ _ _ _ _ _ c.loop-step.invariant here (rw c.item.ensures at c.in_err-write_item.ensures))

pub returns : goal.returns
returns g c =
    left-none _ _ _ _ c.loop-step.invariant
    (ap (λ (steps : List g.row.S.Denot). flat_map (item_text c.args.names.now) (map g.S.JournalStep.item_of steps)) (drop-past c.args.journal.now c.loop-step.step-index c.loop-step-test.false))
