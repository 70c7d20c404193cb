use Rattle.std.proofs.Common.{◌≡◌, ◌<◌, ℕ, length}
use Rattle.std.specs.List.{All}
use Rattle.act_engine.proofs.Texts.{Left}
use Rattle.act_model.specs.Run.{Stream}
use Rattle.act_print.specs.Printed.{printed_answer}
use Rattle.act_print.specs.Text.{answer_text}
use Rattle.act_text.specs.Kept.{AreWrittenWith}
use Rattle.act_transcript.specs.Text.{runs_text, shared_runs}
use Rattle.act_transcript.proofs.blocks.Blocks.write_in_windows.Given as goal

-- the blocks of the runs from these on are still to be written, with a window that has a place
abbrev pub invariant-windows : goal.invariant-windows
invariant-windows g l = record {
  text : Left (answer_text l.fn.self.names.now (printed_answer l.answer)) (runs_text l.fn.self.names.now (shared_runs l.rest)) (g.K.Sink.page l.fn.out) (g.K.Sink.page l.out);
  named : All (λ (run : ℕ × Stream). run.0 < length l.fn.self.names.now.contracts) (shared_runs l.rest);
  names : l.self.names.now ≡ l.fn.self.names.now;
  kept : l.self.kept ≡ l.fn.self.kept;
  at : l.self.at ≡ l.fn.self.at;
  places : 0 < length l.window.items;
  written : AreWrittenWith l.fn.self.names.now l.window.items;
}

-- how many runs are left
abbrev pub decreases-windows : goal.decreases-windows
decreases-windows g l = length l.rest
