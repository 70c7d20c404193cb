use Rattle.std.proofs.Common.{◌≡◌, ◌*◌, ◌≤◌, map}
use Rattle.std.specs.List.{range_with_len, sum}
use Rattle.act_cones.specs.Cones.{most_weight}
use Rattle.act_cones.specs.Counts.{cone_sum}
use Rattle.act_job.proofs.weight.weights_of.Given as goal

-- the weights of the contracts before this one, and their sum
abbrev pub invariant-loop-contract : goal.invariant-loop-contract
invariant-loop-contract l = record {
  each : l.each.items ≡ map (cone_sum l.portfolio.contracts) (range_with_len 0 l.contract);
  all : l.all ≡ sum l.each.items;
  within : l.all ≤ most_weight * l.contract;
}
