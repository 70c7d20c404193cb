use Rattle.std.proofs.Common.{◌≡◌, ◌≤◌, ◌+◌, Err, ap, sym, ◌∙◌, codes, add-one, arith}
use Rattle.std.proofs.lemmas.List.{at_drop_all}
use Rattle.std.proofs.lemmas.Option.{IfSome_then}
use Rattle.act_model.proofs.Lists.{next_of}
use Rattle.act_cones.specs.Counts.{counts_as}
use Rattle.act_refusal.specs.Steps.{within_limit}
use Rattle.act_refusal.specs.Refusal.{refusal_of}
use Rattle.act_refusal.proofs.Limited.{all_within, one_counted, one_past}
use Rattle.act_refusal.proofs.limit.within_limit.Goals as goal

pub returns-then-count-gt-MOST_CONTRACTS-clause-refused : goal.returns-then-count-gt-MOST_CONTRACTS-clause-refused
returns-then-count-gt-MOST_CONTRACTS-clause-refused c =
    let here = next_of c.args.named.now c.loop-place.place c.index-named-place.result c.loop-place-test.true c.index-named-place.is in
    let counted : c.counts_as-count.result ≡ counts_as c.index-named-place.result.terms.kind = c.counts_as-count.ensures.count ∙ ap (λ n. counts_as n.terms.kind) c.contract.view_is in
    let many : 4096 + 1 ≤ c.loop-place.count + counts_as c.index-named-place.result.terms.kind = omega arith in
    let first = one_past _ _ _ _ _ _ c.loop-place.invariant here many in
    IfSome_then (refusal_of c.refused.result) c.refused.ensures (λ refusal is. ap (λ first. within_limit first c.args.named.now) first
    ∙ ap Err (sym (is ∙ ap (λ place. record { number = 16; place = place; what = codes "-" }) (add-one c.loop-place.place))))

pub loop-place-preserved : goal.loop-place-preserved
loop-place-preserved c =
    let here = next_of c.args.named.now c.loop-place.place c.index-named-place.result c.loop-place-test.true c.index-named-place.is in
    let counted : c.counts_as-count.result ≡ counts_as c.index-named-place.result.terms.kind = c.counts_as-count.ensures.count ∙ ap (λ n. counts_as n.terms.kind) c.contract.view_is in
    let few : c.loop-place.count + counts_as c.index-named-place.result.terms.kind ≤ 4096 = omega arith in
    rw counted (one_counted _ _ _ _ _ _ c.loop-place.invariant here few)

pub returns-clause-within : goal.returns-clause-within
returns-clause-within c = all_within _ _ _ _ c.loop-place.invariant (at_drop_all (λ ns. ns) _ _ c.loop-place-test.false)
