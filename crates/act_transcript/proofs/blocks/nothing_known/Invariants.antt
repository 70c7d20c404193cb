use Rattle.std.proofs.Common.{◌-◌, length}
use Rattle.act_transcript.proofs.blocks.nothing_known.Given as goal

-- how many are missing
abbrev pub decreases-places : goal.decreases-places
decreases-places l = l.places - length l.known.items
