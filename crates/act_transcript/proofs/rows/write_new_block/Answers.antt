use Rattle.std.proofs.Common.{◌∙◌, ◌++◌, ap}
use Rattle.act_engine.proofs.Texts.{part-behind, part-first, then-text, writes-behind, writes-first, writes-none}
use Rattle.act_model.specs.Run.{Stream}
use Rattle.act_print.specs.Text.{block_head_text}
use Rattle.act_transcript.proofs.Texts.{block-parts}
use Rattle.act_transcript.proofs.rows.write_new_block.Goals as goal

pub returns-in_err-block_head : goal.returns-in_err-block_head
returns-in_err-block_head g c = writes-none c.from_residual.result _ _ c.from_residual.ensures.1

pub returns-in_err-write_text : goal.returns-in_err-write_text
returns-in_err-write_text g c =
    let head = c.in_ok-block_head.ensures.ok ∙ ap (λ line. line ++ block_head_text c.args.names.now c.args.contract) c.clear.ensures.items in
    rw (block-parts c.args.names.now c.args.contract c.args.run.now)
    (writes-first c.from_residual-in_err-write_text.result _ _ _ _ _ c.from_residual-in_err-write_text.ensures.1 (part-first c.in_err-write_text.field-0.0 _ _ _ _ (rw (c.deref.ensures.value, head) at c.in_err-write_text.ensures)))

pub returns-in_err-write_new_rows : goal.returns-in_err-write_new_rows
returns-in_err-write_new_rows g c =
    let head = c.in_ok-block_head.ensures.ok ∙ ap (λ line. line ++ block_head_text c.args.names.now c.args.contract) c.clear.ensures.items in
    let rows = ap (λ (run : Stream). run.rows) c.run.view_is in
    rw (block-parts c.args.names.now c.args.contract c.args.run.now)
    (writes-first c.from_residual-in_err-write_new_rows.result _ _ _ _ _ c.from_residual-in_err-write_new_rows.ensures.1
    (part-behind c.in_err-write_new_rows.field-0.0 _ _ _ _ _ (rw (c.deref.ensures.value, head) at c.in_ok-write_text.ensures) (rw rows at c.in_err-write_new_rows.ensures)))

pub returns : goal.returns
returns g c =
    let head = c.in_ok-block_head.ensures.ok ∙ ap (λ line. line ++ block_head_text c.args.names.now c.args.contract) c.clear.ensures.items in
    let rows = ap (λ (run : Stream). run.rows) c.run.view_is in
    let close = ap (λ (run : Stream). run.close) c.run.view_is in
    rw (block-parts c.args.names.now c.args.contract c.args.run.now)
    (writes-behind c.write_close.result _ _ _ _ _
    (then-text _ _ _ _ _ (rw (c.deref.ensures.value, head) at c.in_ok-write_text.ensures) (rw rows at c.in_ok-write_new_rows.ensures)) (rw close at c.write_close.ensures))
