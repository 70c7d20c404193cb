use Rattle.std.proofs.Common.{◌≡◌, ◌+◌, drop}
use Rattle.act_transcript.specs.Ends.{are_none}
use Rattle.act_transcript.specs.KnownLines.{AreBlocksOf}
use Rattle.act_eval.proofs.Scripts.{IsAt}
use Rattle.act_eval.proofs.evaluation.Evaluation.write_answers.Given as goal

-- the steps from this one on are still to be made, and the answers to their asks are still to be written
abbrev pub invariant-loop-step : goal.invariant-loop-step
invariant-loop-step g l = record {
  at : IsAt l.self.portfolio l.self.names l.self.lines (drop l.step-index l.self.lines) l.driver.board (are_none l.stops) l.fn.steps l.steps (g.K.Sink.page l.fn.out) (g.K.Sink.page l.out);
  counted : l.driver.work + l.fn.steps ≡ l.steps;
  portfolio : l.driver.portfolio.now ≡ l.self.portfolio;
  names : l.driver.blocks.names.now ≡ l.self.names;
  blocks : AreBlocksOf l.driver.board l.driver.blocks;
}
