use Rattle.std.proofs.Common.{◌≡◌, ◌+◌, ◌*◌, ◌≤◌, slice_index, sum_by, take}
use Rattle.act_cones.specs.Cones.{most_counted}
use Rattle.act_cones.proofs.cones.weight_over.Given as goal

-- the sum over the contracts before the place
abbrev pub invariant-loop-contract : goal.invariant-loop-contract
invariant-loop-contract l = record {
  sum : l.sum ≡ sum_by (λ c. slice_index l.counts c + 1) (take l.contract-index l.contracts);
  light : l.sum ≤ l.contract-index * (most_counted + 1);
}
