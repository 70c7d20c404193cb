use Rattle.std.proofs.Common.{◌≡◌, ◌+◌, ◌∷◌, [], ◌++◌, List, ℕ, length, map, arith, ap, sym, ◌∙◌}
use Rattle.std.specs.List.{range_with_len, sum}
use Rattle.std.proofs.lemmas.List.FromFn.{map-range_with_len_more}
use Rattle.std.proofs.lemmas.List.Sums.{sum_by_push}
use Rattle.act_cones.specs.Counts.{cone_sum}
use Rattle.act_job.proofs.weight.weights_of.Goals as goal

pub loop-contract-preserved : goal.loop-contract-preserved
loop-contract-preserved c =
    let p = c.args.portfolio.now in
    let i = c.loop-contract.contract in
    record {
      each = c.in_ok-push.ensures.items ∙ (ap (λ (w : ℕ). c.loop-contract.each.items ++ w ∷ []) c.weight-weight.ensures.weight
          ∙ (ap (λ (xs : List ℕ). xs ++ cone_sum p.contracts i ∷ []) c.loop-contract.invariant.each ∙ sym (map-range_with_len_more (cone_sum p.contracts) 0 i i (omega arith))));
      all = sym (ap sum c.in_ok-push.ensures.items ∙ (sum_by_push (λ x. x) c.loop-contract.each.items c.weight-weight.result ∙ ap (λ (s : ℕ). s + c.weight-weight.result) (sym c.loop-contract.invariant.all)));
      within = omega (arith, c.weight-weight.ensures.within);
    }

pub overflow_add-all : goal.overflow_add-all
overflow_add-all c = omega (arith, c.weight-weight.ensures.within)

pub returns-clause-each : goal.returns-clause-each
returns-clause-each c =
    let p = c.args.portfolio.now in
    let same : c.loop-contract.contract ≡ length p.names.contracts = omega (arith, c.named-contract-end.ensures.named) in
    c.loop-contract.invariant.each ∙ ap (λ (n : ℕ). map (cone_sum p.contracts) (range_with_len 0 n)) same

pub returns-clause-all : goal.returns-clause-all
returns-clause-all c =
    let p = c.args.portfolio.now in
    let same : c.loop-contract.contract ≡ length p.names.contracts = omega (arith, c.named-contract-end.ensures.named) in
    c.loop-contract.invariant.all ∙ ap sum (c.loop-contract.invariant.each ∙ ap (λ (n : ℕ). map (cone_sum p.contracts) (range_with_len 0 n)) same)
