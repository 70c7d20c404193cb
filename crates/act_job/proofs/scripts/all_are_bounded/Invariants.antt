use Rattle.std.proofs.Common.{Vec, Global, take}
use Rattle.std.specs.List.{All}
use Rattle.act_model.specs.Bounds.{StepIsBounded}
use Rattle.act_model.specs.declared.journal.Line.{Line}
use Rattle.act_job.proofs.scripts.all_are_bounded.Given as goal

abbrev pub invariant-loop-lines : goal.invariant-loop-lines
invariant-loop-lines l = All (λ (lines : Vec Line Global). All (λ (line : Line). StepIsBounded line.step) lines.items) (take l.lines-index l.lists)
