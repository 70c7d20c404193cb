use Rattle.std.proofs.Common.{◌≡◌, ◌+◌}
use Rattle.act_transcript.specs.KnownLines.{AreOnesOf}
use Rattle.act_eval.specs.Driven.{HasKnown}
use Rattle.act_eval.proofs.Quiet.{IsOn, turns_left}
use Rattle.act_eval.proofs.driving.Driver.evaluate_all.Given as goal

-- evaluations were made, and nothing else; behind the last of them none may be. What they ticked was counted, and the blocks are the board's
abbrev pub invariant-loop-more : goal.invariant-loop-more
invariant-loop-more g l = record {
  on : IsOn l.fn.self.portfolio.now l.fn.self.board l.self.board l.fn.steps l.steps l.more;
  counted : l.self.work + l.fn.steps ≡ l.fn.self.work + l.steps;
  portfolio : l.self.portfolio ≡ l.fn.self.portfolio;
  known : HasKnown l.self.board l.self.blocks;
  same : AreOnesOf l.fn.self.blocks l.self.blocks;
  at : l.self.blocks.at ≡ l.fn.self.blocks.at;
}

abbrev pub decreases-loop-more : goal.decreases-loop-more
decreases-loop-more g l = turns_left l.self.board l.more
