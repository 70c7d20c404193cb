use Rattle.std.proofs.Common.{◌≡◌, map, string_bytes, ap, sym, ◌∙◌, arith}
use Rattle.std.proofs.lemmas.List.{at_drop_all, map-append}
use Rattle.act_json.specs.Tree.{data_in}
use Rattle.act_model.proofs.Lists.{next_of}
use Rattle.act_model.specs.Kind.{type_of}
use Rattle.act_terms.specs.Used.{unused_names}
use Rattle.act_terms.specs.declared.inline.ContractValue.{ContractValue}
use Rattle.act_cones.proofs.Lists.{left_from}
use Rattle.act_refusal.proofs.UnusedSoFar.{all_listed, one_listed}
use Rattle.act_refusal.proofs.plans.unused_lists.Goals as goal

pub loop-place-preserved : goal.loop-place-preserved
loop-place-preserved c =
    let first = next_of c.args.named.now c.loop-place.place c.index-named-place.result c.loop-place-test.true c.index-named-place.is in
    let here = left_from (λ c. data_in c.value.now) c.args.contracts.now c.loop-place.place c.index-contracts-place.result (omega (arith, c.requires.all, c.loop-place-test.true)) c.index-contracts-place.is in
    let is : map string_bytes c.in_ok-unused.unused.items ≡ unused_names (type_of c.index-named-place.result.terms.kind) (data_in c.index-contracts-place.result.value.now) =
    c.in_ok-unused.ensures ∙ ap (λ (v : ContractValue). unused_names c.contract_type-contract_type.result (data_in v.value.now)) (sym c.index-contracts-place.is) ∙ ap (λ type. unused_names type (data_in c.index-contracts-place.result.value.now)) (c.contract_type-contract_type.ensures ∙ ap (λ n. type_of n.terms.kind) c.contract.view_is) in
    rw (c.in_ok-push.ensures.items, map-append) (one_listed _ _ _ _ _ _ _ _ _ c.loop-place.invariant first here is)

pub returns : goal.returns
returns c = all_listed _ _ _ _ c.loop-place.invariant (at_drop_all (λ ns. ns) _ _ c.loop-place-test.false)
