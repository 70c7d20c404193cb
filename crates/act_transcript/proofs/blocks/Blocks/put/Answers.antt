use Rattle.std.proofs.Common.{refl, arith}
use Rattle.std.specs.Arc.{arc_value}
use Rattle.act_history.proofs.Places.{get-set_other}
use Rattle.act_transcript.specs.declared.blocks.Known.TheVariants.{All}
use Rattle.act_transcript.proofs.KnownLines.{known-here, put-is, renewed-set}
use Rattle.act_transcript.proofs.blocks.Blocks.put.Goals as goal

pub renew_block-requires-clause-known : goal.renew_block-requires-clause-known
renew_block-requires-clause-known c =
    let before = c.args.self.now in
    known-here before.known.items c.deref.result.now before.kept.items c.args.contract (arc_value c.args.run.now) c.known_at-known.result c.index_mut.result.now c.requires.known c.deref.ensures.value c.known_at-known.ensures
    (omega (arith, c.if-place-len.false, c.len.ensures)) c.index_mut.ensures.value

pub returns-then-place-len-2-clause-block : goal.returns-then-place-len-2-clause-block
returns-then-place-len-2-clause-block c =
    (renewed-set c.args.contract (arc_value c.args.run.now) c.args.self.now.kept.items c.renew_block.new.lines (omega (arith, c.if-place-len.false, c.len.ensures)) c.in_ok-renew_block.ensures.block).this

pub returns-else-place-len-2-clause-block : goal.returns-else-place-len-2-clause-block
returns-else-place-len-2-clause-block c =
    (renewed-set c.args.contract (arc_value c.args.run.now) c.args.self.now.kept.items c.renew_block.new.lines (omega (arith, c.if-place-len.false, c.len.ensures)) c.in_ok-renew_block.ensures.block).this

pub returns-then-place-len-2-clause-put : goal.returns-then-place-len-2-clause-put
returns-then-place-len-2-clause-put c =
    let before = c.args.self.now in
    put-is c.args.contract (arc_value c.args.run.now) before _ c.renew_block.new.lines c.requires.order c.in_ok-renew_block.ensures.block (omega (arith, c.if-place-len.false, c.len.ensures)) refl
    (λ d other. get-set_other before.known.items c.args.contract d All other)

pub returns-else-place-len-2-clause-put : goal.returns-else-place-len-2-clause-put
returns-else-place-len-2-clause-put c =
    put-is c.args.contract (arc_value c.args.run.now) c.args.self.now _ c.renew_block.new.lines c.requires.order c.in_ok-renew_block.ensures.block (omega (arith, c.if-place-len.false, c.len.ensures)) refl (λ d other. refl)
