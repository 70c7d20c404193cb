use Rattle.std.proofs.Common.{◌≡◌, ◌+◌, drop, length}
use Rattle.act_history.specs.History.{replies_of}
use Rattle.act_transcript.proofs.answers.answer_count.Given as goal

-- the answers of the lists before this one
abbrev pub invariant-loop-answers : goal.invariant-loop-answers
invariant-loop-answers g l = l.count + length (replies_of (drop l.answers-index l.lists)) ≡ length (replies_of l.lists)
