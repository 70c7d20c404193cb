use Rattle.std.proofs.Common.{◌≡◌, ℕ, ◌+◌, List, length, map, sum_by, slice_index, ap, ◌∙◌, arith}
use Rattle.std.proofs.lemmas.List.FromFn.{length-map-range_with_len}
use Rattle.act_cones.specs.Cones.{reads_over}
use Rattle.act_cones.specs.Counts.{scheduled_count}
use Rattle.act_cones.proofs.Weighed.{cones-few, cones-within, read, weighed}
use Rattle.act_cones.proofs.cones.all_cones.Goals as goal

pub weights-requires-clause-cones : goal.weights-requires-clause-cones
weights-requires-clause-cones c =
    let contracts = c.args.contracts.now in
    let n = length contracts.children in
    let count : length c.deref.result.now ≡ n = ap length (c.deref.ensures.value ∙ c.in_ok-counts.ensures.counts) ∙ length-map-range_with_len (scheduled_count contracts) 0 n in
    let all = ap (map (λ v. v.items)) c.deref-2.ensures.value ∙ c.in_ok-cones.ensures in
    λ k d within j e lt. omega (arith, count, cones-within contracts c.requires.children (λ v. v.items) c.deref-2.result.now all k d within j e lt)

pub weights-requires-clause-many : goal.weights-requires-clause-many
weights-requires-clause-many c =
    let all = ap (map (λ v. v.items)) c.deref-2.ensures.value ∙ c.in_ok-cones.ensures in
    λ k d within. omega (arith, c.requires.few, cones-few c.args.contracts.now c.requires.children (λ v. v.items) c.deref-2.result.now all k d within)

pub returns : goal.returns
returns c =
    let contracts = c.args.contracts.now in
    let counts = c.in_ok-counts.counts.items in
    let weighed_by = λ (counted : List ℕ) (cone : List ℕ). sum_by (λ d. slice_index counted d + 1) cone in
    let all = ap (map (λ v. v.items)) c.deref-2.ensures.value ∙ c.in_ok-cones.ensures in
    record {
      counts = c.in_ok-counts.ensures.counts;
      weights = c.in_ok-weights.ensures.sums ∙ (ap (λ counted. map (weighed_by counted) (map (λ v. v.items) c.deref-2.result.now)) c.deref.ensures.value
          ∙ (ap (map (weighed_by counts)) all ∙ weighed contracts c.requires.children counts c.in_ok-counts.ensures.counts));
      reads = c.in_ok-reads.ensures ∙ (ap (map (reads_over contracts)) (ap (map (λ v. v.items)) c.deref-3.ensures.value ∙ c.in_ok-cones.ensures) ∙ read contracts c.requires.children);
      few = c.in_ok-counts.ensures.few;
      light = c.in_ok-weights.ensures.light;
    }
