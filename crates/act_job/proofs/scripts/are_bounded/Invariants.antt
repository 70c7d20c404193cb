use Rattle.std.proofs.Common.{take}
use Rattle.std.specs.List.{All}
use Rattle.act_model.specs.Bounds.{StepIsBounded}
use Rattle.act_model.specs.declared.journal.Line.{Line}
use Rattle.act_job.proofs.scripts.are_bounded.Given as goal

abbrev pub invariant-loop-line : goal.invariant-loop-line
invariant-loop-line l = All (λ (line : Line). StepIsBounded line.step) (take l.line-index l.lines)
