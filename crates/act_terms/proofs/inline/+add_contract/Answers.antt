use Rattle.std.proofs.Common.{◌≡◌, map, option_map, None, Some, ap, sym, ◌∙◌}
use Rattle.std.proofs.lemmas.List.{take_all}
use Rattle.std.specs.List.{filter_map}
use Rattle.act_json.specs.Tree.{data_in}
use Rattle.act_terms.specs.Inline.{contract_in}
use Rattle.act_terms.proofs.Nesting.{all_inside, shown_more, with_inner, without_inner}
use Rattle.act_terms.proofs.inline.+add_contract.Goals as goal
use Rattle.act_terms.proofs.inline.+add_contract.Goals.{in-Some+in_ok-add_contract, in_default}

pub loop-element-preserved : goal.loop-element-preserved
loop-element-preserved t c =
    let more = shown_more c.elements-element-items.result.now c.loop-element.element-index c.element-item.result c.loop-element-test.true c.element-item.is in
    elim c.match-contract_in.branch [
      | in-Some+in_ok-add_contract w ↦
          let is : contract_in (data_in c.element-item.result) ≡ Some (data_in w.in-Some.inner.now) = sym c.contract_in.ensures.inner ∙ ap (option_map (λ inner. data_in inner.now)) w.in-Some.is in
          with_inner _ _ _ _ _ _ _ _ c.loop-element.invariant (ap (λ order. map (λ d. data_in d.value.now) order.items) w.order-is ∙ w.in_ok-add_contract.ensures) more is
      | in_default w ↦
          let is : contract_in (data_in c.element-item.result) ≡ None = sym c.contract_in.ensures.inner ∙ ap (option_map (λ inner. data_in inner.now)) w.in_default.is in
          ap (λ order. map (λ d. data_in d.value.now) order.items) w.order-is ∙ without_inner _ _ _ _ _ _ c.loop-element.invariant more is
    ]

pub returns : goal.returns
returns t c =
    all_inside _ _ _ _ c.loop-element.invariant (ap (λ elements. filter_map contract_in (map data_in elements)) (take_all c.loop-element.element-index c.elements-element-items.result.now c.loop-element-test.false) ∙ c.elements-element-items.ensures.inner)
