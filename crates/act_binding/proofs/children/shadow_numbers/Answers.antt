use Rattle.std.proofs.Common.{◌≡◌, ap, ◌∙◌, arith}
use Rattle.std.proofs.lemmas.List.{at_drop_all}
use Rattle.act_model.proofs.Lists.{next_of}
use Rattle.act_binding.specs.Binding.{behind}
use Rattle.act_binding.proofs.Shadowed.{all_numbered, one_behind, one_numbered}
use Rattle.act_binding.proofs.children.shadow_numbers.Goals as goal

pub loop-contract-preserved : goal.loop-contract-preserved
loop-contract-preserved c =
    let here = next_of c.args.named.now c.loop-contract.contract-index c.contract-item.result c.loop-contract-test.true c.contract-item.is in
    let is : c.behind-next.result ≡ behind c.contract-item.result.terms.kind c.loop-contract.next = c.behind-next.ensures ∙ ap (λ n. behind n.terms.kind c.loop-contract.next) c.contract.view_is in
    let within = c.loop-contract.invariant.within in
    let one = one_behind c.contract-item.result.terms.kind c.loop-contract.next in
    rw (c.in_ok-push.ensures.items, is) (record {
      all = one_numbered _ _ c.loop-contract.next _ _ c.contract-item.result c.loop-contract.invariant.all here;
      within = omega arith;
    })

pub returns : goal.returns
returns c = all_numbered _ _ c.loop-contract.next _ c.loop-contract.invariant.all (at_drop_all (λ ns. ns) _ _ c.loop-contract-test.false)
