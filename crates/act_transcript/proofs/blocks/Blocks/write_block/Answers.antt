use Rattle.std.proofs.Common.{◌≡◌, ◌∙◌, ◌++◌, ap, arith}
use Rattle.std.specs.Arc.{arc_value}
use Rattle.std.specs.List.{flat_map}
use Rattle.std.proofs.lemmas.List.{get_or-set_same}
use Rattle.act_engine.proofs.Texts.{writes-none}
use Rattle.act_text.specs.Kept.{Lines}
use Rattle.act_text.specs.Lines.{row_text}
use Rattle.act_transcript.proofs.KnownLines.{block-whole, known-here, ok-so, order-here, renewed-none, renewed-set}
use Rattle.act_transcript.proofs.blocks.Blocks.write_block.Goals as goal

pub renew_block-requires-clause-order : goal.renew_block-requires-clause-order
renew_block-requires-clause-order g c =
    let before = c.args.self.now in
    order-here before.known.items c.deref.result.now before.kept.items c.args.contract (arc_value c.args.run.now) c.known_at.result c.requires.known c.deref.ensures.value c.known_at.ensures

pub renew_block-requires-clause-known : goal.renew_block-requires-clause-known
renew_block-requires-clause-known g c =
    let before = c.args.self.now in
    known-here before.known.items c.deref.result.now before.kept.items c.args.contract (arc_value c.args.run.now) c.known_at.result c.index_mut.result.now c.requires.known c.deref.ensures.value c.known_at.ensures
    (omega (arith, c.if-place-len.true, c.len.ensures)) c.index_mut.ensures.value

pub returns-in_ok-renew_block-clause-renewed : goal.returns-in_ok-renew_block-clause-renewed
returns-in_ok-renew_block-clause-renewed g c =
    ok-so c.write_text.result _ (renewed-set c.args.contract (arc_value c.args.run.now) c.args.self.now.kept.items c.renew_block.new.lines (omega (arith, c.if-place-len.true, c.len.ensures)) c.in_ok-renew_block.ensures.block)

pub returns-else-place-len-clause-renewed : goal.returns-else-place-len-clause-renewed
returns-else-place-len-clause-renewed g c =
    ok-so c.write_new_block.result _ (renewed-none c.args.contract (arc_value c.args.run.now) c.args.self.now.kept.items (omega (arith, c.if-place-len.false, c.len.ensures)))

pub returns-in_err-renew_block-clause-text : goal.returns-in_err-renew_block-clause-text
returns-in_err-renew_block-clause-text g c = writes-none c.from_residual.result _ _ c.from_residual.ensures.1

pub returns-in_ok-renew_block-clause-text : goal.returns-in_ok-renew_block-clause-text
returns-in_ok-renew_block-clause-text g c =
    let kept = c.args.self.now.kept.items in
    let place = c.args.contract in
    let new = c.renew_block.new.lines in
    let same : c.index.result.now ≡ new = c.index.ensures ∙ get_or-set_same kept place new c.index.result.now (omega (arith, c.if-place-len.true, c.len.ensures)) in
    let text = c.text.ensures ∙ (ap (λ (lines : Lines). lines.front ++ flat_map (row_text lines.names) lines.rows ++ lines.back) same
    ∙ block-whole place (arc_value c.args.run.now) new c.args.self.now.names.now c.in_ok-renew_block.ensures.named c.in_ok-renew_block.ensures.block) in
    rw text at c.write_text.ensures
