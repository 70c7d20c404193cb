use Rattle.std.proofs.Common.{◌≡◌, [], map, replicate}
use Rattle.act_cones.proofs.cones.no_cones.Given as goal

abbrev pub invariant-loop-contract : goal.invariant-loop-contract
invariant-loop-contract l = map (λ c. c.items) l.cones.items ≡ replicate l._contract []
