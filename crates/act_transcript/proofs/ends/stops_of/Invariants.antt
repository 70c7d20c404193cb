use Rattle.std.proofs.Common.{◌≡◌, drop}
use Rattle.std.specs.Prelude.{◌&&◌}
use Rattle.std.specs.List.{list_all}
use Rattle.act_history.specs.History.{replies_of}
use Rattle.act_transcript.specs.Ends.{are_none, ends_well}
use Rattle.act_transcript.proofs.ends.stops_of.Given as goal

-- the lists from this one on are still to be added
abbrev pub invariant-loop-answers : goal.invariant-loop-answers
invariant-loop-answers l = (are_none l.stops && list_all ends_well (replies_of (drop l.answers-index l.lists))) ≡ list_all ends_well (replies_of l.lists)
