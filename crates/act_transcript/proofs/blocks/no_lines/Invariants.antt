use Rattle.std.proofs.Common.{◌-◌, ◌≤◌, length}
use Rattle.act_text.specs.Kept.{AreWrittenWith}
use Rattle.act_transcript.proofs.blocks.no_lines.Given as goal

-- the places so far
abbrev pub invariant-places : goal.invariant-places
invariant-places l = record {
  written : AreWrittenWith l.names l.kept.items;
  few : length l.kept.items ≤ l.places;
}

-- how many are missing
abbrev pub decreases-places : goal.decreases-places
decreases-places l = l.places - length l.kept.items
