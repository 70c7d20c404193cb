use Rattle.std.proofs.Common.{drop}
use Rattle.act_engine.proofs.Texts.{Left}
use Rattle.act_transcript.specs.Text.{runs_text, shared_runs}
use Rattle.act_transcript.proofs.windows.write_window.Given as goal

-- the blocks of the runs from this one on are still to be written
abbrev pub invariant-loop-place : goal.invariant-loop-place
invariant-loop-place g l = Left (runs_text l.names (shared_runs l.runs)) (runs_text l.names (shared_runs (drop l.place l.runs))) (g.K.Sink.page l.fn.out) (g.K.Sink.page l.out)
