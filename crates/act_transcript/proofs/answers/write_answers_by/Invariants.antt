use Rattle.std.proofs.Common.{◌≡◌, drop}
use Rattle.act_engine.proofs.Texts.{Left}
use Rattle.act_transcript.specs.KnownLines.{AreBlocksOf}
use Rattle.act_history.specs.History.{replies_of}
use Rattle.act_transcript.specs.Text.{answers_text}
use Rattle.act_transcript.proofs.answers.write_answers_by.Given as goal

-- the answers of the lists from this one on are still to be written
abbrev pub invariant-loop-answers : goal.invariant-loop-answers
invariant-loop-answers g l = record {
  text : Left (answers_text l.fn.blocks.names.now (replies_of l.lists)) (answers_text l.fn.blocks.names.now (replies_of (drop l.answers-index l.lists))) (g.K.Sink.page l.fn.out) (g.K.Sink.page l.out);
  blocks : AreBlocksOf l.fn.board l.blocks;
  names : l.blocks.names.now ≡ l.fn.blocks.names.now;
  board : l.board ≡ l.fn.board;
}
