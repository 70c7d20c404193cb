use Rattle.std.proofs.Common.{◌≡◌, ◌≤◌, map}
use Rattle.std.specs.List.{All, range_with_len}
use Rattle.act_cones.specs.Cones.{most_counted}
use Rattle.act_cones.specs.Counts.{scheduled_count}
use Rattle.act_cones.proofs.counts.scheduled_counts.Given as goal

-- the contracts before this one are counted
abbrev pub invariant-loop-contract : goal.invariant-loop-contract
invariant-loop-contract l = record {
  counts : l.counts.items ≡ map (scheduled_count l.contracts) (range_with_len 0 l.contract);
  few : All (λ count. count ≤ most_counted) l.counts.items;
}
