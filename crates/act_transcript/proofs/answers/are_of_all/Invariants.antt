use Rattle.act_transcript.specs.KnownLines.{AreOfAll}
use Rattle.act_transcript.specs.Text.{shared_runs}
use Rattle.act_transcript.proofs.answers.are_of_all.Given as goal

-- the runs before this one are of all contracts before its place
abbrev pub invariant-loop-place : goal.invariant-loop-place
invariant-loop-place l = AreOfAll l.place (shared_runs l.runs)
