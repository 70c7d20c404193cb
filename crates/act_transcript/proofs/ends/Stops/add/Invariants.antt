use Rattle.std.proofs.Common.{◌≡◌, drop}
use Rattle.std.specs.Prelude.{◌&&◌}
use Rattle.act_transcript.specs.Ends.{all_end, are_none}
use Rattle.act_transcript.specs.Text.{shared_runs}
use Rattle.act_transcript.proofs.ends.Stops.add.Given as goal

-- the blocks from this one on are still to be added
abbrev pub invariant-loop-run : goal.invariant-loop-run
invariant-loop-run l = (are_none l.self && all_end (shared_runs (drop l.run-index l.run-items))) ≡ (are_none l.fn.self && all_end (shared_runs l.run-items))
