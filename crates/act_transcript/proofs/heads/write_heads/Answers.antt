use Rattle.std.proofs.Common.{◌++◌, length, ap, ◌∙◌}
use Rattle.std.proofs.lemmas.List.{length-map}
use Rattle.act_engine.specs.declared.writing.Failure.TheVariants.{Memory}
use Rattle.act_engine.proofs.Texts.{none-of, part-behind, part-first, then-text, writes-behind, writes-first, writes-none, writes-part}
use Rattle.act_print.specs.Text.{answers_head_text, journal_head_text}
use Rattle.act_transcript.proofs.heads.write_heads.Goals as goal

pub returns-in_err-journal_head : goal.returns-in_err-journal_head
returns-in_err-journal_head g c = writes-none c.from_residual.result _ _ c.from_residual.ensures.1

pub returns-in_err-write_text : goal.returns-in_err-write_text
returns-in_err-write_text g c =
    let head = c.in_ok-journal_head.ensures.ok ∙ ap (λ line. line ++ journal_head_text (length c.args.journal.now)) c.clear.ensures.items in
    rw length-map
    (writes-first c.from_residual-in_err-write_text.result _ _ _ _ _ c.from_residual-in_err-write_text.ensures.1 (part-first c.in_err-write_text.field-0.0 _ _ _ _ (rw (c.deref.ensures.value, head) at c.in_err-write_text.ensures)))

pub returns-in_err-write_items : goal.returns-in_err-write_items
returns-in_err-write_items g c =
    let head = c.in_ok-journal_head.ensures.ok ∙ ap (λ line. line ++ journal_head_text (length c.args.journal.now)) c.clear.ensures.items in
    rw length-map
    (writes-first c.from_residual-in_err-write_items.result _ _ _ _ _ c.from_residual-in_err-write_items.ensures.1
    (part-behind c.in_err-write_items.field-0.0 _ _ _ _ _ (rw (c.deref.ensures.value, head) at c.in_ok-write_text.ensures) c.in_err-write_items.ensures))

pub returns-in_err-answers_head : goal.returns-in_err-answers_head
returns-in_err-answers_head g c =
    let head = c.in_ok-journal_head.ensures.ok ∙ ap (λ line. line ++ journal_head_text (length c.args.journal.now)) c.clear.ensures.items in
    rw length-map
    (writes-part c.from_residual-in_err-answers_head.result Memory _ _ _ c.from_residual-in_err-answers_head.ensures.1
    (part-behind Memory _ _ _ _ _ (then-text _ _ _ _ _ (rw (c.deref.ensures.value, head) at c.in_ok-write_text.ensures) c.in_ok-write_items.ensures) (none-of _ _)))

pub returns : goal.returns
returns g c =
    let head = c.in_ok-journal_head.ensures.ok ∙ ap (λ line. line ++ journal_head_text (length c.args.journal.now)) c.clear.ensures.items in
    let last = c.in_ok-answers_head.ensures.ok ∙ ap (λ line. line ++ answers_head_text c.args.answers) c.clear-2.ensures.items in
    rw length-map
    (writes-behind c.write_text-2.result _ _ _ _ _ (then-text _ _ _ _ _ (rw (c.deref.ensures.value, head) at c.in_ok-write_text.ensures) c.in_ok-write_items.ensures)
    (rw (c.deref-2.ensures.value, last) at c.write_text-2.ensures))
