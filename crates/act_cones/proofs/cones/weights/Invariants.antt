use Rattle.std.proofs.Common.{◌≡◌, ◌+◌, ◌≤◌, map, slice_index, sum_by, take}
use Rattle.std.specs.List.{All}
use Rattle.act_cones.specs.Cones.{most_weight}
use Rattle.act_cones.proofs.cones.weights.Given as goal

-- the cones before the place are weighed
abbrev pub invariant-loop-cone : goal.invariant-loop-cone
invariant-loop-cone l = record {
  sums : l.weights.items ≡ map (λ cone. sum_by (λ c. slice_index l.counts c + 1) cone) (map (λ c. c.items) (take l.cone-index l.cones));
  light : All (λ weight. weight ≤ most_weight) l.weights.items;
}
