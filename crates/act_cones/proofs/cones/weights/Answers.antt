use Rattle.std.proofs.Common.{List, ℕ, ◌+◌, ◌≤◌, slice_index, sum_by, ap, ◌∙◌}
use Rattle.std.proofs.lemmas.List.Elements.{All-push}
use Rattle.act_cones.specs.Cones.{most_weight}
use Rattle.act_cones.proofs.Weighed.{twice_mapped}
use Rattle.act_cones.proofs.cones.weights.Goals as goal

pub loop-cone-preserved : goal.loop-cone-preserved
loop-cone-preserved c =
    let weigh = λ (cone : List ℕ). sum_by (λ d. slice_index c.args.counts.now d + 1) cone in
    record {
      sums = twice_mapped (λ v. v.items) weigh c.args.cones.now c.loop-cone.cone-index c.cone-item.result c.loop-cone.weights.items _ c.weight_over.result c.loop-cone-test.true c.cone-item.is c.loop-cone.invariant.sums
          (c.weight_over.ensures.sum ∙ ap weigh c.deref.ensures.value) c.in_ok-push.ensures.items;
      light = rw c.in_ok-push.ensures.items (All-push (λ weight. weight ≤ most_weight) c.loop-cone.weights.items c.weight_over.result c.loop-cone.invariant.light c.weight_over.ensures.light);
    }
