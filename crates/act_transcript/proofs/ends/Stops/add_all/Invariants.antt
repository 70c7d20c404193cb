use Rattle.std.proofs.Common.{◌≡◌, drop}
use Rattle.std.specs.Prelude.{◌&&◌}
use Rattle.std.specs.List.{list_all}
use Rattle.act_transcript.specs.Ends.{are_none, ends_well}
use Rattle.act_transcript.proofs.ends.Stops.add_all.Given as goal

-- the answers from this one on are still to be added
abbrev pub invariant-loop-answer : goal.invariant-loop-answer
invariant-loop-answer l = (are_none l.self && list_all ends_well (drop l.answer-index l.answers)) ≡ (are_none l.fn.self && list_all ends_well l.answers)
