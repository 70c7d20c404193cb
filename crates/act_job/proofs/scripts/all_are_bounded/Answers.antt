use Rattle.std.proofs.Common.{Vec, Global, subst, arith}
use Rattle.std.specs.List.{All}
use Rattle.std.proofs.lemmas.List.{take_all}
use Rattle.std.proofs.lemmas.List.Elements.{All-map, All-more}
use Rattle.act_model.specs.Bounds.{StepIsBounded}
use Rattle.act_model.specs.declared.journal.Line.{Line}
use Rattle.act_job.proofs.scripts.all_are_bounded.Goals as goal

-- what lines append has a day and a number
abbrev AreBounded : Vec Line Global → Type 0
AreBounded lines = All (λ (line : Line). StepIsBounded line.step) lines.items

pub loop-lines-preserved : goal.loop-lines-preserved
loop-lines-preserved c =
    All-more AreBounded c.args.lists.now c.loop-lines.lines-index c.lines-item.result c.loop-lines-test.true c.loop-lines.invariant
    (subst AreBounded c.lines-item.is (subst (All (λ (line : Line). StepIsBounded line.step)) c.deref.ensures.value c.are_bounded.ensures))

pub returns : goal.returns
returns c =
    All-map (All (λ (line : Line). StepIsBounded line.step)) (λ (lines : Vec Line Global). lines.items) c.args.lists.now
    (subst (All AreBounded) (take_all c.loop-lines.lines-index c.args.lists.now (omega (arith, c.loop-lines-test.false))) c.loop-lines.invariant)
