use Rattle.std.proofs.Common.{map}
use Rattle.act_cones.proofs.Coned.{AreConed}
use Rattle.act_cones.proofs.cones.each_cone.Given as goal

-- the cones of the contracts before this place of the order are there
abbrev pub invariant-loop-contract : goal.invariant-loop-contract
invariant-loop-contract l = AreConed l.contracts l.order (map (λ c. c.items) l.cones.items) l.contract-index
