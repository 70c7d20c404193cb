use Rattle.std.proofs.Common.{length, arith}
use Rattle.std.proofs.lemmas.Bool.{leb-true}
use Rattle.act_transcript.proofs.KnownLines.{of-next}
use Rattle.act_transcript.proofs.answers.are_of_all.Goals as goal

pub loop-place-init : goal.loop-place-init
loop-place-init c = λ d below. absurd (omega (arith, below))

pub loop-place-preserved : goal.loop-place-preserved
loop-place-preserved c = of-next c.args.runs.now c.loop-place.place c.index-runs-place.result c.loop-place.invariant c.loop-place-test.true c.index-runs-place.is c.if-run-place.false

pub returns : goal.returns
returns c = λ enough d below. c.loop-place.invariant d (omega (arith, below, leb-true c.args.contracts (length c.args.runs.now) enough, c.loop-place-test.false))
