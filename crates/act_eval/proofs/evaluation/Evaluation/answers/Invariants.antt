use Rattle.std.proofs.Common.{◌≡◌, drop}
use Rattle.act_eval.proofs.Answered.{IsMade}
use Rattle.act_eval.proofs.evaluation.Evaluation.answers.Given as goal
use Rattle.act_transcript.specs.KnownLines.{AreBlocksOf}

-- the steps from this one on are still to be made
abbrev pub invariant-loop-step : goal.invariant-loop-step
invariant-loop-step g l = record {
  made : IsMade l.self.portfolio l.self.names l.self.lines (drop l.step-index l.self.lines) l.driver.board l.answers.items l.fn.steps l.steps;
  portfolio : l.driver.portfolio.now ≡ l.self.portfolio;
  blocks : AreBlocksOf l.driver.board l.driver.blocks;
}
