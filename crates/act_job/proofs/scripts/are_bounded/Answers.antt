use Rattle.std.proofs.Common.{subst, arith}
use Rattle.std.specs.List.{All}
use Rattle.std.proofs.lemmas.List.{take_all}
use Rattle.std.proofs.lemmas.List.Elements.{All-more}
use Rattle.act_model.specs.Bounds.{StepIsBounded}
use Rattle.act_model.specs.declared.journal.Line.{Line}
use Rattle.act_job.proofs.scripts.are_bounded.Goals as goal

pub loop-line-preserved : goal.loop-line-preserved
loop-line-preserved c =
    All-more (λ (line : Line). StepIsBounded line.step) c.args.lines.now c.loop-line.line-index c.line-item.result c.loop-line-test.true c.loop-line.invariant
    (subst (λ (line : Line). StepIsBounded line.step) c.line-item.is c.is_bounded.ensures)

pub returns : goal.returns
returns c =
    subst (All (λ (line : Line). StepIsBounded line.step)) (take_all c.loop-line.line-index c.args.lines.now (omega (arith, c.loop-line-test.false))) c.loop-line.invariant
