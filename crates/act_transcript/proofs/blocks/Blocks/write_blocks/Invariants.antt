use Rattle.std.proofs.Common.{drop, take}
use Rattle.act_engine.proofs.Texts.{Left}
use Rattle.act_transcript.specs.KnownLines.{AreKnown, AreOnesOf, AreRenewed}
use Rattle.act_transcript.specs.Text.{runs_text, shared_runs}
use Rattle.act_transcript.proofs.blocks.Blocks.write_blocks.Given as goal

-- the blocks of the runs from this one on are still to be written
abbrev pub invariant-loop-run : goal.invariant-loop-run
invariant-loop-run g l = record {
  text : Left (runs_text l.fn.self.names.now (shared_runs l.runs)) (runs_text l.fn.self.names.now (shared_runs (drop l.run-index l.runs))) (g.K.Sink.page l.fn.out) (g.K.Sink.page l.out);
  same : AreOnesOf l.fn.self l.self;
  known : AreKnown l.self.known.items l.self.kept.items (shared_runs (drop l.run-index l.runs));
  renewed : AreRenewed (shared_runs (take l.run-index l.runs)) l.fn.self.kept.items l.self.kept.items;
}
