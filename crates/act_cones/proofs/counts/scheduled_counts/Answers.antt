use Rattle.std.proofs.Common.{◌≤◌}
use Rattle.std.proofs.lemmas.List.Elements.{All-push}
use Rattle.act_cones.specs.Cones.{most_counted}
use Rattle.act_cones.proofs.Weighed.{counted_next}
use Rattle.act_cones.proofs.counts.scheduled_counts.Goals as goal

pub loop-contract-preserved : goal.loop-contract-preserved
loop-contract-preserved c = record {
  counts = counted_next c.args.contracts.now c.loop-contract.contract c.scheduled_count.result c.loop-contract.counts.items _ c.loop-contract.invariant.counts c.scheduled_count.ensures.count c.in_ok-push.ensures.items;
  few = rw c.in_ok-push.ensures.items (All-push (λ count. count ≤ most_counted) c.loop-contract.counts.items c.scheduled_count.result c.loop-contract.invariant.few c.scheduled_count.ensures.few);
}
