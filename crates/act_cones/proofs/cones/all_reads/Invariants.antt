use Rattle.std.proofs.Common.{◌≡◌, map, take}
use Rattle.act_cones.specs.Cones.{reads_over}
use Rattle.act_cones.proofs.cones.all_reads.Given as goal

-- what is read over the cones before the place
abbrev pub invariant-loop-cone : goal.invariant-loop-cone
invariant-loop-cone l = l.reads.items ≡ map (reads_over l.contracts) (map (λ c. c.items) (take l.cone-index l.cones))
