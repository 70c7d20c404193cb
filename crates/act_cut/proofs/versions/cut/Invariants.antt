use Rattle.std.proofs.Common.{◌≡◌}
use Rattle.act_profile.specs.Reads.{cut_by}
use Rattle.act_cut.proofs.versions.cut.Given as goal

-- the least day of the entries before this place
abbrev pub invariant-loop-place : goal.invariant-loop-place
invariant-loop-place g l = l.least ≡ cut_by l.reads.codes l.reads.contracts (g.O.Observed.entries l.seen) l.from l.place
