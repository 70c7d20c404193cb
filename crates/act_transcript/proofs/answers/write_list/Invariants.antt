use Rattle.std.proofs.Common.{◌≡◌, drop}
use Rattle.act_engine.proofs.Texts.{Left}
use Rattle.act_transcript.specs.KnownLines.{AreBlocksOf}
use Rattle.act_transcript.specs.Text.{answers_text}
use Rattle.act_transcript.proofs.answers.write_list.Given as goal

-- the answers from this one on are still to be written
abbrev pub invariant-loop-answer : goal.invariant-loop-answer
invariant-loop-answer g l = record {
  text : Left (answers_text l.fn.blocks.names.now l.answers) (answers_text l.fn.blocks.names.now (drop l.answer-index l.answers)) (g.K.Sink.page l.fn.out) (g.K.Sink.page l.out);
  blocks : AreBlocksOf l.fn.board l.blocks;
  names : l.blocks.names.now ≡ l.fn.blocks.names.now;
  board : l.board ≡ l.fn.board;
}
